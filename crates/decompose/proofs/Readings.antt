-- The cells that a term reads, by its form.
use Rattle.std.proofs.Common.{◌≡◌, ℕ, zero, suc, ℤ, Bool, List, [], ◌∷◌, ◌++◌, map, take, length, Option, None, Some, slice_get, find, refl, sym, ap, ◌∙◌, arith}
use Rattle.std.specs.List.{flat_map, range_with_len}
use Rattle.std.specs.Option.{option_and_then, option_to_list, option_or}
use Rattle.std.proofs.lemmas.Bool.{cond-true, lt-ltb}
use Rattle.std.proofs.lemmas.List.Folds.{find-append}
use Rattle.std.proofs.lemmas.List.FromFn.{length-range_with_len}
use Rattle.std.proofs.lemmas.Option.{none-some, slice_get_within, same_Some}
use Rattle.trio_types.specs.declared.formula.SignedTerm.{SignedTerm}
use Rattle.trio_types.specs.declared.formula.Term.{Term}
use Rattle.trio_types.specs.declared.formula.Term.TheVariants as term
use Rattle.trio_types.specs.declared.formula.Term.TheOpen as open_term
use Rattle.trio_types.specs.World.{World}
use Rattle.trio_types.specs.Cells.{Cell, cells_of, same_cell, value_at}
use Rattle.trio_types.specs.Values.{read_cell}
use Rattle.trio_types.proofs.CellOrder.{at_range, entry_at}
use Rattle.trio_types.proofs.Lists.{get_within}
use Rattle.trio_core.specs.Three.{known_at, known_all}
use Rattle.trio_core.specs.Fits.{NodeTermFits, IsCellRead}
use Rattle.trio_types.proofs.Inductions.{term_of}
use Rattle.trio_core.proofs.TermsFit.{arg_values, args_known}
use Rattle.decompose.specs.Reads.{Reading, is_undecided, cell_number, cells_of_read, reading}
use Rattle.decompose.proofs.Cutting.{parts_of_zip}
use Rattle.decompose.proofs.ReadOrder.{part_reading, part_reading_is, at_form, args_read}
use Rattle.decompose.proofs.Undecided.{place_of, undecided_of}

-- the cells that a term reads under sets
abbrev pub cells_read : World → List ℕ → List ℤ → ℕ → Term → List ℕ
cells_read w sets e i x = (reading w x e (known_at w sets) i).cells

pub cells_of_number : (w : World) (sets : List ℕ) (e : List ℤ) (i n : ℕ) → cells_read w sets e i (term.Number n) ≡ []
cells_of_number w sets e i n = ap (λ (r : Reading). r.cells) (at_form w e (known_at w sets) i (open_term.Number n) (term.rolls-Number n))

pub cells_of_value : (w : World) (sets : List ℕ) (e : List ℤ) (i d v : ℕ) → cells_read w sets e i (term.Value d v) ≡ []
cells_of_value w sets e i d v = ap (λ (r : Reading). r.cells) (at_form w e (known_at w sets) i (open_term.Value d v) (term.rolls-Value d v))

pub cells_of_var : (w : World) (sets : List ℕ) (e : List ℤ) (i level : ℕ) → cells_read w sets e i (term.Var level) ≡ []
cells_of_var w sets e i level = ap (λ (r : Reading). r.cells) (at_form w e (known_at w sets) i (open_term.Var level) (term.rolls-Var level))

pub cells_of_times : (w : World) (sets : List ℕ) (e : List ℤ) (i n : ℕ) (x : Term) → cells_read w sets e i (term.Times n x) ≡ cells_read w sets e i x
cells_of_times w sets e i n x = ap (λ (r : Reading). r.cells) (at_form w e (known_at w sets) i (open_term.Times n x) (term.rolls-Times n x))

pub cells_of_sum : (w : World) (sets : List ℕ) (e : List ℤ) (i : ℕ) (parts : List SignedTerm) →
    cells_read w sets e i (term.Sum parts) ≡ flat_map (λ p. cells_read w sets e i (term_of p)) parts
cells_of_sum w sets e i parts =
    ap (λ (r : Reading). r.cells) (at_form w e (known_at w sets) i (open_term.Sum parts) (term.rolls-Sum parts)) ∙ each parts
  where
    each : (ps : List SignedTerm) → flat_map (λ p. (p e (known_at w sets) i).cells) (map (part_reading w) ps) ≡ flat_map (λ p. cells_read w sets e i (term_of p)) ps
    each [] = refl
    each (p ∷ ps) = rw (ap (λ r. (r e (known_at w sets) i).cells) (part_reading_is w p), each ps) refl

-- the number of a cell is its place
pub number_is : (w : World) (n : ℕ) (c : Cell) → slice_get (cells_of w) n ≡ Some c → cell_number w c ≡ Some n
unfolding cell_number value_at
number_is w n c at =
    let many = length (cells_of w) in
    let inside = slice_get_within (cells_of w) n c at in
    let whole : length (range_with_len 0 many) ≡ many = length-range_with_len 0 many in
    let x = get_within (range_with_len 0 many) n (omega (arith, whole, inside)) in
    let itself : x.0 ≡ n = omega (arith, (at_range 0 many n x.0 x.1).0) in
    let place = place_of (λ d. same_cell d c) (cells_of w) (range_with_len 0 many) n (entry_at w (range_with_len 0 many) n c whole at ∙ x.1 ∙ ap Some itself) in
    let here = at_range 0 many _ n (parts_of_zip (cells_of w) (range_with_len 0 many) _ (place.cell, n) place.at).1 in
    cond-true _ (Some _) None (lt-ltb _ many place.inside) ∙ ap Some (omega (arith, here.0))

-- the cell that an item is read from, where there is one
pub cells_of_item : (w : World) (sets : List ℕ) (e : List ℤ) (i number : ℕ) (args : List Term) → NodeTermFits w (term.Read number args) e → (o : Option ℕ) →
    IsCellRead w number (arg_values w e (known_at w sets) i args) i o → cells_read w sets e i (term.Read number args) ≡ option_to_list o
cells_of_item w sets e i number args fits o told =
    ap (λ (r : Reading). r.cells) (at_form w e (known_at w sets) i (open_term.Read number args) (term.rolls-Read number args))
    ∙ ap (λ vs. cells_of_read w number i (known_all vs)) (args_read w e (known_at w sets) i (is_undecided w sets) (undecided_of w sets) args)
    ∙ ap (cells_of_read w number i) (args_known w (known_at w sets) number args e i fits)
    ∙ by_cell o told
  where
    by_cell : (o : Option ℕ) → IsCellRead w number (arg_values w e (known_at w sets) i args) i o →
        option_to_list (option_and_then (cell_number w) (read_cell w number (arg_values w e (known_at w sets) i args) i)) ≡ option_to_list o
    by_cell None none = ap (λ c. option_to_list (option_and_then (cell_number w) c)) none
    by_cell (Some n) some = ap (λ c. option_to_list (option_and_then (cell_number w) c)) some.1 ∙ ap option_to_list (number_is w n some.0 some.2)

-- Searching the cells that parts read.

or_none : (a b : Option ℕ) → option_or a b ≡ None → (a ≡ None) × (b ≡ None)
or_none None b is = (refl, is)
or_none (Some x) b is = absurd (none-some x (sym is))

pub none_of_both : (q : ℕ → Bool) (xs ys : List ℕ) → find q xs ≡ None → find q ys ≡ None → find q (xs ++ ys) ≡ None
none_of_both q xs ys first second = find-append q xs ys ∙ ap (λ o. option_or o (find q ys)) first ∙ second

pub first_of_both : (q : ℕ → Bool) (xs ys : List ℕ) (v : ℕ) → find q xs ≡ Some v → find q (xs ++ ys) ≡ Some v
first_of_both q xs ys v first = find-append q xs ys ∙ ap (λ o. option_or o (find q ys)) first

pub second_of_both : (q : ℕ → Bool) (xs ys : List ℕ) (o : Option ℕ) → find q xs ≡ None → find q ys ≡ o → find q (xs ++ ys) ≡ o
second_of_both q xs ys o first second = find-append q xs ys ∙ ap (λ o. option_or o (find q ys)) first ∙ second

-- in the first of many lists in which there is one
pub found_in_flat : {X : Type 0} (q : ℕ → Bool) (f : X → List ℕ) (xs : List X) (k : ℕ) (x : X) (v : ℕ) → slice_get xs k ≡ Some x →
    find q (flat_map f (take k xs)) ≡ None → find q (f x) ≡ Some v → find q (flat_map f xs) ≡ Some v
found_in_flat q f [] k x v at before here = absurd (none-some x at)
found_in_flat q f (y ∷ xs) zero x v at before here = first_of_both q (f y) (flat_map f xs) v (ap (λ y. find q (f y)) (same_Some y x at) ∙ here)
found_in_flat q f (y ∷ xs) (suc k) x v at before here =
    let none = or_none (find q (f y)) (find q (flat_map f (take k xs))) (sym (find-append q (f y) (flat_map f (take k xs))) ∙ before) in
    second_of_both q (f y) (flat_map f xs) (Some v) none.0 (found_in_flat q f xs k x v at none.1 here)
