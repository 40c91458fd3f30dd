-- The places of lines by the numbers of their rows.
use Rattle.std.proofs.Common.{◌≡◌, ◌≢◌, ℕ, zero, suc, ◌+◌, ◌*◌, ◌/◌, ◌<◌, ◌≤◌, Bool, true, false, not, nat_lt, ◌==◌, ◌||◌, List, [], ◌∷◌, ◌++◌, length, map, take, set, replicate, cond, Option, None, Some, slice_get, option_map, option_and_then, Ok, Err, refl, sym, ap, ap₂, ◌∙◌, arith, append-nil}
use Rattle.std.specs.List.{flat_map, list_any, position_or_len, position_from}
use Rattle.std.specs.Option.{is_some}
use Rattle.std.specs.Str.{bytes_eq}
use Rattle.std.proofs.Math.Logic.{⊎_elim}
use Rattle.std.proofs.Math.Nat.{mul-div_cancel}
use Rattle.std.proofs.lemmas.Bool.{and_parts, and_from, cond-true, cond-false, false_from_ne_true, cases_lt, lt-ltb, ltb-true, true≢false}
use Rattle.std.proofs.lemmas.Grind.{flat_map-append}
use Rattle.std.proofs.lemmas.Iterator.Adapters.{position_from-zero}
use Rattle.std.proofs.lemmas.List.{take_more, take_all}
use Rattle.std.proofs.lemmas.List.Folds.{find_at}
use Rattle.std.proofs.lemmas.Option.{none-some, same_Some, slice_get-map, slice_get_within, get_or_from_slice_get}
use Rattle.std.proofs.lemmas.Slice.Eq.{bytes_eq-Decides}
use Rattle.trio_types.specs.declared.spec.Spec.{Spec}
use Rattle.trio_types.specs.World.{World}
use Rattle.trio_types.specs.Cells.{Row, the_cell, are_indexes, item_takes, takes, rows_of, cells_of}
use Rattle.trio_types.specs.Kinds.{args_of}
use Rattle.trio_types.specs.Parts.{Parts, world_of_parts}
use Rattle.trio_types.specs.Verdict.{parts_of, world_of}
use Rattle.trio_types.proofs.Lists.{get_within}
use Rattle.trio_types.proofs.Specs.{Formed, formed, some_instant}
use Rattle.trio_types.proofs.CellNumbers.{cell_at, cell_row}
use Rattle.trio_types.proofs.CellOrder.{cell_once}
use Rattle.history_table.specs.declared.fault.HistFault.TheVariants as fault
use Rattle.history_table.specs.declared.line.Value.{Value}
use Rattle.history_table.specs.declared.lines.Found.{Found}
use Rattle.history_table.specs.Rows.{value_index, arg_indexes, same_row}
use Rattle.history_table.specs.Decoding.{row_from, has_row, cells_at, cells_found, line_place, joined_rows, joined_lines}
use Rattle.history_table.proofs.LineRuns.{eq_true, eq_from}
use Rattle.history_table.proofs.RowNumbers.{value_index_within}

-- ---- rows are apart

pub same_row_from : (a b : Row) → same_row a b ≡ true → a ≡ b
same_row_from a b is =
    let both = and_parts (a.item == b.item) (bytes_eq a.args b.args) is in
    ap₂ (λ i vs. record { item = i; args = vs }) (eq_from a.item b.item both.0) ((bytes_eq-Decides a.args b.args).0 both.1)

pub same_row_self : (a : Row) → same_row a a ≡ true
same_row_self a = and_from (a.item == a.item) (bytes_eq a.args a.args) (eq_true a.item a.item refl) ((bytes_eq-Decides a.args a.args).1 refl)

pub record Once (rows : List Row) : Type 0 where
  pub once : (m n : ℕ) (row : Row) → slice_get rows m ≡ Some row → slice_get rows n ≡ Some row → m ≡ n

-- each row has one place, as its first cell has
places_once : (m n c : ℕ) → 0 < c → m * c + 0 ≡ n * c + 0 → m ≡ n
places_once m n c some same =
    let products : m * c ≡ n * c = omega (arith, same) in sym (mul-div_cancel m some) ∙ ap (λ k. k / c) products ∙ mul-div_cancel n some

pub rows_once : (p : Parts) → Formed p → Once (rows_of (world_of_parts p))
rows_once p f = record {
  once = λ m n row at bt.
      let w : World = world_of_parts p in
      places_once m n p.instants (some_instant p f)
      (cell_once w (m * p.instants + 0) (n * p.instants + 0) (the_cell row.item row.args 0) (cell_at w m row 0 at (some_instant p f)) (cell_at w n row 0 bt (some_instant p f)));
}

-- ---- the number of a row

-- that of its first cell, by the instants of a row
pub row_at_cell : (spec : Spec) (n item : ℕ) (args : List ℕ) → slice_get (cells_of (world_of spec)) n ≡ Some (the_cell item args 0) →
    slice_get (rows_of (world_of spec)) (n / spec.instants) ≡ Some (record { item = item; args = args })
row_at_cell spec n item args at =
    let w : World = world_of spec in
    let c : ℕ = spec.instants in
    let some : 0 < c = some_instant (parts_of spec) (formed spec) in
    let row = cell_row w n (the_cell item args 0) at in
    let same : n ≡ row.0 * c + 0 = cell_once w n (row.0 * c + 0) (the_cell item args 0) at (cell_at w row.0 (record { item = item; args = args }) 0 row.1 some) in
    let product : n ≡ row.0 * c = omega (arith, same) in
    ap (slice_get (rows_of w)) (ap (λ k. k / c) product ∙ mul-div_cancel row.0 some) ∙ row.1

-- written arguments are indexes of values of the item's domains
indexes_are : (w : World) (ds : List ℕ) (values : List Value) (vs : List ℕ) → arg_indexes w ds values ≡ Some vs → are_indexes w.domains ds vs ≡ true
indexes_are w [] [] vs is = ap (are_indexes w.domains []) (sym (same_Some [] vs is))
indexes_are w [] (value ∷ values) vs is = absurd (none-some vs is)
indexes_are w (d ∷ ds) [] vs is = absurd (none-some vs is)
indexes_are w (d ∷ ds) (value ∷ values) vs is = go (value_index w d value) (arg_indexes w ds values) refl (indexes_are w ds values) is
  where
    go : (o : Option ℕ) (r : Option (List ℕ)) → value_index w d value ≡ o → ((us : List ℕ) → r ≡ Some us → are_indexes w.domains ds us ≡ true) →
        option_and_then (λ v. option_map (λ us. v ∷ us) r) o ≡ Some vs → are_indexes w.domains (d ∷ ds) vs ≡ true
    go None r at more is = absurd (none-some vs is)
    go (Some v) None at more is = absurd (none-some vs is)
    go (Some v) (Some us) at more is =
        ap (are_indexes w.domains (d ∷ ds)) (sym (same_Some (v ∷ us) vs is))
        ∙ and_from _ (are_indexes w.domains ds us) (lt-ltb v _ (value_index_within w d value v at)) (more us refl)

pub takes_written : (w : World) (item : ℕ) (values : List Value) (vs : List ℕ) → item < length w.items →
    arg_indexes w (args_of (slice_get w.items item)) values ≡ Some vs → takes w item vs ≡ true
takes_written w item values vs inside is =
    let it = get_within w.items item inside in
    ap (λ o. item_takes w o vs) it.1 ∙ indexes_are w it.0.args values vs (ap (λ o. arg_indexes w (args_of o) values) (sym it.1) ∙ is)

-- ---- first places

any_from : {A : Type 0} (p : A → Bool) (n : ℕ) (xs : List A) → is_some (position_from p n xs) ≡ list_any p xs
any_from p n [] = refl
any_from p n (x ∷ xs) = go (p x) (any_from p (n + 1) xs)
  where
    go : (b : Bool) → is_some (position_from p (n + 1) xs) ≡ list_any p xs → is_some (cond b (Some n) (position_from p (n + 1) xs)) ≡ (b || list_any p xs)
    go true more = refl
    go false more = more

-- there is a first place where there is one
pub has_place : (found : List Found) (row : Row) → is_some (line_place found row) ≡ has_row found row
has_place found row = ap is_some (position_from-zero (λ (f : Found). same_row (row_from f.row) row) found) ∙ any_from (λ f. same_row (row_from f.row) row) 0 found

-- what stands at the first place
record FirstPlace (found : List Found) (row : Row) (i : ℕ) : Type 0 where
  is : position_or_len (λ f. same_row (row_from f.row) row) found ≡ i
  within : i < length found

first_place : (found : List Found) (row : Row) (i : ℕ) → line_place found row ≡ Some i → FirstPlace found row i
first_place found row i is = go (nat_lt place (length found)) refl is
  where
    place : ℕ
    place = position_or_len (λ f. same_row (row_from f.row) row) found

    go : (b : Bool) → nat_lt place (length found) ≡ b → cond b (Some place) None ≡ Some i → FirstPlace found row i
    go true less e = let same : place ≡ i = same_Some place i e in record { is = same; within = omega (arith, same, ltb-true place (length found) less) }
    go false less e = absurd (none-some i e)

pub place_within : (found : List Found) (row : Row) (i : ℕ) → line_place found row ≡ Some i → i < length found
place_within found row i is = (first_place found row i is).within

pub cells_at_place : (found : List Found) (row : Row) (i : ℕ) (f : Found) → line_place found row ≡ Some i → slice_get found i ≡ Some f → cells_at found row ≡ f.cells
cells_at_place found row i f is at =
    ap cells_found (find_at (λ (f : Found). same_row (row_from f.row) row) found ∙ ap (slice_get found) (first_place found row i is).is ∙ at)

first_from : {A : Type 0} (p : A → Bool) (i : ℕ) (xs : List A) (n : ℕ) (x : A) → slice_get xs n ≡ Some x → p x ≡ true →
    ((k : ℕ) (y : A) → k < n → slice_get xs k ≡ Some y → p y ≡ false) → position_from p i xs ≡ Some (i + n)
first_from p i [] n x at is before = absurd (none-some x at)
first_from p i (y ∷ ys) zero x at is before =
    let same : i ≡ i + 0 = omega arith in
    cond-true (p y) (Some i) (position_from p (i + 1) ys) (ap p (same_Some y x at) ∙ is) ∙ ap Some same
first_from p i (y ∷ ys) (suc n) x at is before =
    let same : i + 1 + n ≡ i + suc n = omega arith in
    cond-false (p y) (Some i) (position_from p (i + 1) ys) (before 0 y (omega arith) refl)
    ∙ first_from p (i + 1) ys n x at is (λ k z less. before (suc k) z (omega (arith, less))) ∙ ap Some same

none_from : {A : Type 0} (p : A → Bool) (i : ℕ) (xs : List A) → ((k : ℕ) (y : A) → slice_get xs k ≡ Some y → p y ≡ false) → position_from p i xs ≡ None
none_from p i [] none = refl
none_from p i (x ∷ xs) none = cond-false (p x) (Some i) (position_from p (i + 1) xs) (none 0 x refl) ∙ none_from p (i + 1) xs (λ k. none (suc k))

-- behind others a first place stays, and what no other passes has its own
place_last : {A : Type 0} (p : A → Bool) (i : ℕ) (xs : List A) (x : A) → list_any p xs ≡ false → p x ≡ true → position_from p i (xs ++ x ∷ []) ≡ Some (i + length xs)
place_last p i [] x none is = let same : i ≡ i + 0 = omega arith in cond-true (p x) (Some i) None is ∙ ap Some same
place_last p i (y ∷ ys) x none is = go (p y) (λ other. place_last p (i + 1) ys x other is) none
  where
    go : (b : Bool) → (list_any p ys ≡ false → position_from p (i + 1) (ys ++ x ∷ []) ≡ Some (i + 1 + length ys)) → (b || list_any p ys) ≡ false →
        cond b (Some i) (position_from p (i + 1) (ys ++ x ∷ [])) ≡ Some (i + suc (length ys))
    go true more other = absurd (true≢false other)
    go false more other = let same : i + 1 + length ys ≡ i + suc (length ys) = omega arith in more other ∙ ap Some same

place_stays : {A : Type 0} (p : A → Bool) (i : ℕ) (xs : List A) (x : A) → p x ≡ false → position_from p i (xs ++ x ∷ []) ≡ position_from p i xs
place_stays p i [] x other = cond-false (p x) (Some i) None other
place_stays p i (y ∷ ys) x other = ap (cond (p y) (Some i)) (place_stays p (i + 1) ys x other)

-- ---- the places of all rows

pub no_places : (rows : List Row) (n : ℕ) → n ≡ length rows → replicate n None ≡ map (line_place []) rows
no_places [] zero is = refl
no_places [] (suc n) is = absurd (omega (arith, is))
no_places (row ∷ rows) zero is = absurd (omega (arith, is))
no_places (row ∷ rows) (suc n) is = ap (λ places. None ∷ places) (no_places rows n (omega (arith, is)))

set_map : {A B : Type 0} (f g : A → B) (xs : List A) (k : ℕ) (b : B) → ((j : ℕ) (x : A) → slice_get xs j ≡ Some x → j ≢ k → f x ≡ g x) →
    ((x : A) → slice_get xs k ≡ Some x → b ≡ g x) → set (map f xs) k b ≡ map g xs
set_map f g [] k b others here = refl
set_map f g (x ∷ xs) zero b others here = ap₂ (λ y ys. y ∷ ys) (here x refl) (rest xs (λ j y at. others (suc j) y at (omega arith)))
  where
    rest : (ys : List _) → ((j : ℕ) (y : _) → slice_get ys j ≡ Some y → f y ≡ g y) → map f ys ≡ map g ys
    rest [] same = refl
    rest (y ∷ ys) same = ap₂ (λ z zs. z ∷ zs) (same 0 y refl) (rest ys (λ j. same (suc j)))
set_map f g (x ∷ xs) (suc k) b others here =
    ap₂ (λ y ys. y ∷ ys) (others 0 x refl (omega arith))
    (set_map f g xs k b (λ j y at differs. others (suc j) y at (λ e. differs (omega (arith, e)))) here)

-- one line more, of a row that has none
pub places_more : (spec : Spec) (found : List Found) (f : Found) (k : ℕ) (places : List (Option ℕ)) → places ≡ map (line_place found) (rows_of (world_of spec)) →
    slice_get (rows_of (world_of spec)) k ≡ Some (row_from f.row) → has_row found (row_from f.row) ≡ false →
    set places k (Some (length found)) ≡ map (line_place (found ++ f ∷ [])) (rows_of (world_of spec))
places_more spec found f k places so_far at new =
    ap (λ ps. set ps k (Some (length found))) so_far
    ∙ set_map (line_place found) (line_place (found ++ f ∷ [])) rows k (Some (length found))
    (λ j row at_row differs.
    let other : same_row (row_from f.row) row ≡ false = false_from_ne_true (same_row (row_from f.row) row)
    (λ yes. differs (once.once j k row at_row (at ∙ ap Some (same_row_from (row_from f.row) row yes)))) in
    zero_from row found ∙ sym (place_stays (test row) 0 found f other) ∙ sym (zero_from row (found ++ f ∷ [])))
    (λ row at_row.
    let same : row_from f.row ≡ row = same_Some (row_from f.row) row (sym at ∙ at_row) in
    sym (zero_from row (found ++ f ∷ [])
    ∙ place_last (test row) 0 found f (ap (has_row found) (sym same) ∙ new) (ap (same_row (row_from f.row)) (sym same) ∙ same_row_self (row_from f.row))
    ∙ ap Some plain))
  where
    rows : List Row
    rows = rows_of (world_of spec)

    once : Once (rows_of (world_of spec))
    once = rows_once (parts_of spec) (formed spec)

    test : Row → Found → Bool
    test row f = same_row (row_from f.row) row

    zero_from : (row : Row) (fs : List Found) → line_place fs row ≡ position_from (λ f. same_row (row_from f.row) row) 0 fs
    zero_from row fs = position_from-zero (λ (f : Found). same_row (row_from f.row) row) fs

    plain : 0 + length found ≡ length found
    plain = omega arith

-- at the number of a row stands its line's place
pub place_at : (rows : List Row) (found : List Found) (places : List (Option ℕ)) (k : ℕ) (row : Row) (place : Option ℕ) → places ≡ map (line_place found) rows →
    slice_get rows k ≡ Some row → slice_get places k ≡ Some place → place ≡ line_place found row
place_at rows found places k row place so_far stands at =
    same_Some place (line_place found row)
    (sym at ∙ ap (λ ps. slice_get ps k) so_far ∙ slice_get-map (line_place found) rows k ∙ ap (option_map (line_place found)) stands)

-- ---- from places to a given history

-- what stands at the number of a row
pub record AtRow (rows : List Row) (found : List Found) (k : ℕ) (place : Option ℕ) : Type 0 where
  pub row : Row
  pub stands : slice_get rows k ≡ Some row
  pub is : line_place found row ≡ place

pub at_row : (rows : List Row) (found : List Found) (places : List (Option ℕ)) (k : ℕ) (place : Option ℕ) → places ≡ map (line_place found) rows → k < length rows →
    slice_get places k ≡ Some place → AtRow rows found k place
at_row rows found places k place so_far inside at =
    let row = get_within rows k inside in
    record {
      row = row.0;
      stands = row.1;
      is = sym (place_at rows found places k row.0 place so_far row.1 at);
    }

-- the rows before this one have lines
abbrev pub Had : List Row → List Found → ℕ → Type 0
Had rows found n = (k : ℕ) (row : Row) → k < n → slice_get rows k ≡ Some row → has_row found row ≡ true

pub had_more : (rows : List Row) (found : List Found) (n i : ℕ) → AtRow rows found n (Some i) → Had rows found n → Had rows found (n + 1)
had_more rows found n i here before k row less at =
    ⊎_elim (λ earlier. before k row earlier at)
    (λ no_earlier.
    let same : k ≡ n = omega (arith, less, no_earlier) in
    let that : here.row ≡ row = same_Some here.row row (sym here.stands ∙ ap (slice_get rows) (sym same) ∙ at) in
    sym (has_place found row) ∙ ap (λ r. is_some (line_place found r)) (sym that) ∙ ap is_some here.is)
    (cases_lt k n)

pub gather_more : (rows : List Row) (found : List Found) (n i : ℕ) (f : Found) (given now : List (Option ℕ)) → AtRow rows found n (Some i) → slice_get found i ≡ Some f →
    given ≡ flat_map (cells_at found) (take n rows) → now ≡ given ++ f.cells → now ≡ flat_map (cells_at found) (take (n + 1) rows)
gather_more rows found n i f given now here at before more =
    let one : cells_at found here.row ++ [] ≡ f.cells = append-nil (cells_at found here.row) ∙ cells_at_place found here.row i f here.is at in
    more ∙ ap₂ (λ x y. x ++ y) before (sym one) ∙ sym (flat_map-append (cells_at found) (take n rows) (here.row ∷ []))
    ∙ ap (λ r. flat_map (cells_at found) (take n rows ++ r ∷ [])) (sym (get_or_from_slice_get rows n here.row here.row here.stands))
    ∙ ap (flat_map (cells_at found)) (sym (take_more rows n here.row (slice_get_within rows n here.row here.stands)))

pub joined_missing : (w : World) (found : List Found) (n : ℕ) → AtRow (rows_of w) found n None → Had (rows_of w) found n → joined_lines w found ≡ Err (fault.MissingRow n)
joined_missing w found n here before =
    let test : Row → Bool = λ row. not (has_row found row) in
    let new : has_row found here.row ≡ false = sym (has_place found here.row) ∙ ap is_some here.is in
    let plain : 0 + n ≡ n = omega arith in
    ap (joined_rows found (rows_of w))
    (position_from-zero test (rows_of w)
    ∙ first_from test 0 (rows_of w) n here.row here.stands (ap not new) (λ k row less at. ap not (before k row less at)) ∙ ap Some plain)

pub joined_whole : (w : World) (found : List Found) (n : ℕ) (given : List (Option ℕ)) → length (rows_of w) ≤ n → Had (rows_of w) found n →
    given ≡ flat_map (cells_at found) (take n (rows_of w)) → joined_lines w found ≡ Ok given
joined_whole w found n given past before gathered =
    let test : Row → Bool = λ row. not (has_row found row) in
    ap (joined_rows found (rows_of w))
    (position_from-zero test (rows_of w)
    ∙ none_from test 0 (rows_of w) (λ k row at. ap not (before k row (omega (arith, past, slice_get_within (rows_of w) k row at)) at)))
    ∙ ap Ok (sym (gathered ∙ ap (flat_map (cells_at found)) (take_all n (rows_of w) past)))
