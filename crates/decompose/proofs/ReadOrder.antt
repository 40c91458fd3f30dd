-- The cells that a term reads: where several values of it are known, it reads an undecided cell.
use Rattle.std.proofs.Common.{◌≡◌, ◌⊎◌, inl, inr, ℕ, ℤ, pos, neg_ℤ, ◌+ℤ◌, ◌*ℤ◌, Bool, true, false, ◌||◌, if◌then◌else◌, List, [], ◌∷◌, ◌++◌, map, length, Option, None, Some, refl, sym, ap, ◌∙◌}
use Rattle.std.specs.List.{list_all, list_any, flat_map}
use Rattle.std.specs.Option.{option_and_then, option_to_list}
use Rattle.std.proofs.Math.Logic.{⊎_elim}
use Rattle.std.proofs.lemmas.Bool.{and_parts, false≢true}
use Rattle.std.proofs.lemmas.List.Folds.{list_any-append}
use Rattle.trio_types.specs.declared.formula.SignedTerm.{SignedTerm, out-SignedTerm}
use Rattle.trio_types.specs.declared.formula.Term.{Term}
use Rattle.trio_types.specs.declared.formula.Term.TheVariants as term
use Rattle.trio_types.specs.declared.formula.Term.TheOpen.{Term-F, SignedTerm-F}
use Rattle.trio_types.specs.declared.formula.Term.TheOpen as open_term
use Rattle.trio_types.specs.declared.formula.Term.TheFolds.{fold-SignedTerm, map-Term, fold-roll-Term, fold_out-SignedTerm}
use Rattle.trio_types.specs.declared.formula.Term.TheViews.{roll-Term}
use Rattle.trio_types.specs.World.{World}
use Rattle.trio_types.specs.Cells.{Cell}
use Rattle.trio_types.specs.Values.{read_cell}
use Rattle.trio_types.proofs.Lists.{map-map}
use Rattle.trio_core.specs.declared.nodes.Known.{Known}
use Rattle.trio_core.specs.declared.nodes.Known.TheVariants.{Nothing, Several, One}
use Rattle.trio_core.specs.CoreShape.{reaches}
use Rattle.trio_core.specs.Three.{known_both, known_map, known_then, known_all, known_of_cell, known_sum, value3}
use Rattle.trio_types.proofs.Inductions.{Each, term_of, every_term}
use Rattle.trio_core.proofs.TermsAt.{reaches-Read, reaches-Sum, reaches-Times}
use Rattle.trio_core.proofs.Value3At.{signed_value3, value3-Number, value3-Value, value3-Var, value3-Read, value3-Sum, value3-Times}
use Rattle.trio_core.proofs.KnownAt.{value_if_known, all_one}
use Rattle.trio_core.proofs.TermsFit.{each_arg}
use Rattle.decompose.proofs.Undecided.{nothing-several, one-several}
use Rattle.decompose.specs.Reads.{Reading, Read3, value_of_read, cell_number, cells_of_read, term_read, part_read, reading}

abbrev pub part_reading : World → SignedTerm → Read3
part_reading w = fold-SignedTerm Read3 Read3 (term_read w) part_read

reading_at : (w : World) {f : Term} (x : Term-F Term SignedTerm) → roll-Term x ≡ f → reading w f ≡ term_read w (map-Term Term SignedTerm Read3 Read3 (reading w) (part_reading w) x)
unfolding reading
reading_at w x is = ap (reading w) (sym is) ∙ fold-roll-Term Read3 Read3 (term_read w) part_read x

pub part_reading_is : (w : World) (p : SignedTerm) → part_reading w p ≡ part_read (record { minus = (out-SignedTerm p).minus; term = reading w (term_of p) })
unfolding reading
part_reading_is w p = fold_out-SignedTerm Read3 Read3 (term_read w) part_read p

-- what is read of a term by its form
pub at_form : (w : World) (e : List ℤ) (look : Cell → Known ℤ) (i : ℕ) {f : Term} (x : Term-F Term SignedTerm) → roll-Term x ≡ f →
    reading w f e look i ≡ term_read w (map-Term Term SignedTerm Read3 Read3 (reading w) (part_reading w) x) e look i
at_form w e look i x is = ap (λ r. r e look i) (reading_at w x is)

-- equal element by element
map_each : {X Y : Type 0} (f g : X → Y) (xs : List X) → Each (λ x. f x ≡ g x) xs → map f xs ≡ map g xs
map_each f g [] each = refl
map_each f g (x ∷ xs) each = rw (each.0, map_each f g xs each.1) refl

-- several of two values, of a signed value, of a read cell
pub several_of_both : {X Y Z : Type 0} (f : X → Y → Z) (k : Known X) (l : Known Y) → known_both f k l ≡ Several → (k ≡ Several) ⊎ (l ≡ Several)
several_of_both f Nothing l is = absurd (nothing-several is)
several_of_both f Several l is = inl refl
several_of_both f (One x) Nothing is = absurd (nothing-several is)
several_of_both f (One x) Several is = inr refl
several_of_both f (One x) (One y) is = absurd (one-several (f x y) is)

several_of_map : {X Y : Type 0} (f : X → Y) (k : Known X) → known_map f k ≡ Several → k ≡ Several
several_of_map f Nothing is = absurd (nothing-several is)
several_of_map f Several is = refl
several_of_map f (One x) is = absurd (one-several (f x) is)

several_of_signed : (minus : Bool) (k : Known ℤ) → (if minus then known_map neg_ℤ k else k) ≡ Several → k ≡ Several
several_of_signed true k is = several_of_map neg_ℤ k is
several_of_signed false k is = is

module _ (w : World) (e : List ℤ) (look : Cell → Known ℤ) (i : ℕ) (q : ℕ → Bool)
    (seen : (c : Cell) → look c ≡ Several → (n : ℕ) × (cell_number w c ≡ Some n) × (q n ≡ true)) where
  -- a term's value is as in its evaluation, and where it is one of several the term reads a cell that passes
  record ReadsRight (x : Term) : Type 0 where
    value : (reading w x e look i).value ≡ value3 w x e look i
    open_ : (reads : Bool) → reaches w x (length e) reads ≡ true → value3 w x e look i ≡ Several → list_any q (reading w x e look i).cells ≡ true

  of_cell : (o : Option Cell) → known_of_cell look o ≡ Several → list_any q (option_to_list (option_and_then (cell_number w) o)) ≡ true
  of_cell None is = absurd (nothing-several is)
  of_cell (Some c) is =
      let s = seen c is in
      ap (λ o. list_any q (option_to_list o)) s.1 ∙ ap (λ b. b || false) s.2

  each_value : (xs : List Term) → Each ReadsRight xs → Each (λ x. (reading w x e look i).value ≡ value3 w x e look i) xs
  each_value [] each = tt
  each_value (x ∷ xs) each = (each.0.value, each_value xs each.1)

  arg_values_are : (args : List Term) → Each ReadsRight args → map (λ a. (a e look i).value) (map (reading w) args) ≡ map (λ a. value3 w a e look i) args
  arg_values_are args each =
      map-map (λ a. (a e look i).value) (reading w) args ∙ map_each (λ x. (reading w x e look i).value) (λ a. value3 w a e look i) args (each_value args each)

  signed_is : (p : SignedTerm) → ReadsRight (term_of p) → (part_reading w p e look i).value ≡ signed_value3 w p e look i
  signed_is p right =
      ap (λ r. (r e look i).value) (part_reading_is w p)
      ∙ ap (λ k. if (out-SignedTerm p).minus then known_map neg_ℤ k else k) right.value

  each_part : (ps : List SignedTerm) → Each (λ p. ReadsRight (term_of p)) ps → Each (λ p. (part_reading w p e look i).value ≡ signed_value3 w p e look i) ps
  each_part [] each = tt
  each_part (p ∷ ps) each = (signed_is p each.0, each_part ps each.1)

  pub any_of_either : (xs ys : List ℕ) → (list_any q xs ≡ true) ⊎ (list_any q ys ≡ true) → list_any q (xs ++ ys) ≡ true
  any_of_either xs ys some = list_any-append q xs ys ∙ either (list_any q xs) (list_any q ys) some
    where
      either : (a b : Bool) → (a ≡ true) ⊎ (b ≡ true) → (a || b) ≡ true
      either true b some = refl
      either false b (inl h) = absurd (false≢true h)
      either false b (inr h) = h

  sum_open : (ps : List SignedTerm) (reads : Bool) → Each (λ p. ReadsRight (term_of p)) ps → list_all (λ p. reaches w (term_of p) (length e) reads) ps ≡ true →
      known_sum (map (λ p. signed_value3 w p e look i) ps) ≡ Several → list_any q (flat_map (λ p. (p e look i).cells) (map (part_reading w) ps)) ≡ true
  sum_open [] reads each reach is = absurd (one-several (pos 0) is)
  sum_open (p ∷ ps) reads each reach is =
      let both = and_parts (reaches w (term_of p) (length e) reads) (list_all (λ p. reaches w (term_of p) (length e) reads) ps) reach in
      any_of_either (part_reading w p e look i).cells (flat_map (λ p. (p e look i).cells) (map (part_reading w) ps))
      (⊎_elim
      (λ first. inl (ap (λ r. list_any q (r e look i).cells) (part_reading_is w p)
      ∙ each.0.open_ reads both.0 (several_of_signed (out-SignedTerm p).minus (value3 w (term_of p) e look i) first)))
      (λ others. inr (sum_open ps reads each.1 both.1 others))
      (several_of_both (λ x y. x +ℤ y) (signed_value3 w p e look i) (known_sum (map (λ p. signed_value3 w p e look i) ps)) is))

  reads_right : (x : Term) → ReadsRight x
  reads_right = every_term ReadsRight (record {
    at_number = λ n. record {
      value = ap (λ (r : Reading). r.value) (at_form w e look i (open_term.Number n) (term.rolls-Number n)) ∙ sym (value3-Number w n e look i);
      open_ = λ reads reach is. absurd (one-several (pos n) (sym (value3-Number w n e look i) ∙ is));
    };
    at_value = λ d v. record {
      value = ap (λ (r : Reading). r.value) (at_form w e look i (open_term.Value d v) (term.rolls-Value d v)) ∙ sym (value3-Value w d v e look i);
      open_ = λ reads reach is. absurd (one-several (pos v) (sym (value3-Value w d v e look i) ∙ is));
    };
    at_var = λ level. record {
      value = ap (λ (r : Reading). r.value) (at_form w e look i (open_term.Var level) (term.rolls-Var level)) ∙ sym (value3-Var w level e look i);
      open_ = λ reads reach is. absurd (one-several _ (sym (value3-Var w level e look i) ∙ is));
    };
    at_read = λ number args each.
        let form = at_form w e look i (open_term.Read number args) (term.rolls-Read number args) in
        record {
          value =
              ap (λ (r : Reading). r.value) form
              ∙ ap (λ vs. known_then (λ zs. known_of_cell look (read_cell w number zs i)) (known_all vs))
              (map-map (λ a. a e look i) value_of_read (map (reading w) args) ∙ arg_values_are args each)
              ∙ sym (value3-Read w number args e look i);
          open_ = λ reads reach is.
              let args_reach = (and_parts _ _ (and_parts reads _ (sym (reaches-Read w number args (length e) reads) ∙ reach)).1).1 in
              let known = all_one (λ a. value3 w a e look i) args (each_arg w e look i args args_reach) in
              ap (λ (r : Reading). list_any q r.cells) form
              ∙ ap (λ vs. list_any q (cells_of_read w number i (known_all vs))) (arg_values_are args each)
              ∙ ap (λ k. list_any q (cells_of_read w number i k)) known
              ∙ of_cell (read_cell w number (map (λ a. value_if_known (value3 w a e look i)) args) i)
              (sym (value3-Read w number args e look i ∙ ap (known_then (λ zs. known_of_cell look (read_cell w number zs i))) known) ∙ is);
        };
    at_sum = λ parts each.
        let form = at_form w e look i (open_term.Sum parts) (term.rolls-Sum parts) in
        record {
          value =
              ap (λ (r : Reading). r.value) form
              ∙ ap known_sum
              (map-map (λ p. p e look i) value_of_read (map (part_reading w) parts)
              ∙ map-map (λ p. (p e look i).value) (part_reading w) parts
              ∙ map_each (λ p. (part_reading w p e look i).value) (λ p. signed_value3 w p e look i) parts (each_part parts each))
              ∙ sym (value3-Sum w parts e look i);
          open_ = λ reads reach is.
              ap (λ (r : Reading). list_any q r.cells) form
              ∙ sum_open parts reads each (sym (reaches-Sum w parts (length e) reads) ∙ reach) (sym (value3-Sum w parts e look i) ∙ is);
        };
    at_times = λ n x s.
        let form = at_form w e look i (open_term.Times n x) (term.rolls-Times n x) in
        record {
          value = ap (λ (r : Reading). r.value) form ∙ ap (known_map (λ z. pos n *ℤ z)) s.value ∙ sym (value3-Times w n x e look i);
          open_ = λ reads reach is.
              ap (λ (r : Reading). list_any q r.cells) form
              ∙ s.open_ reads (sym (reaches-Times w n x (length e) reads) ∙ reach) (several_of_map (λ z. pos n *ℤ z) (value3 w x e look i) (sym (value3-Times w n x e look i) ∙ is));
        };
  })

  -- a term of which several values are known reads a cell that passes
  pub reads_open : (x : Term) (reads : Bool) → reaches w x (length e) reads ≡ true → value3 w x e look i ≡ Several → list_any q (reading w x e look i).cells ≡ true
  reads_open x reads reach is = (reads_right x).open_ reads reach is

  each_right : (xs : List Term) → Each ReadsRight xs
  each_right [] = tt
  each_right (x ∷ xs) = (reads_right x, each_right xs)

  -- the values of arguments are as in their evaluation
  pub args_read : (args : List Term) → map (λ a. (a e look i).value) (map (reading w) args) ≡ map (λ a. value3 w a e look i) args
  args_read args = arg_values_are args (each_right args)
