-- A text without fault gives each cell an entry, and each index that is known is one of the cell's values.
use Rattle.std.proofs.Common.{◌≡◌, ℕ, ◌+◌, List, [], ◌∷◌, ◌++◌, length, map, refl, sym, ap, ◌∙◌, true, false, Bool, not, cond, ◌==◌, ◌||◌, Option, None, Some, Ok, Err, slice_get, position, find, zip, flat_map, if◌then◌else◌, option_map, option_and_then, arith, Result}
use Rattle.std.proofs.Math.Path.{ap₂}
use Rattle.std.specs.List.{list_all, position_from}
use Rattle.std.proofs.lemmas.Bool.{and_from, not-false, lt-ltb}
use Rattle.std.proofs.lemmas.List.{length-map, length-append}
use Rattle.std.proofs.lemmas.List.Folds.{list_all-append}
use Rattle.std.proofs.lemmas.List.FromFn.{length-range_with_len}
use Rattle.std.proofs.lemmas.Iterator.Adapters.{position_from-zero}
use Rattle.trio_types.specs.declared.spec.Item.{Item}
use Rattle.trio_types.specs.World.{World, instants_of, values_in}
use Rattle.trio_types.specs.Cells.{Row, Cell, the_cell, rows_of, cells_of_row, cells_of, cell_size}
use Rattle.history_table.specs.declared.fault.HistFault.{HistFault}
use Rattle.history_table.specs.declared.fault.HistFault.TheVariants as fault
use Rattle.history_table.specs.declared.line.Value.{Value}
use Rattle.history_table.specs.declared.line.Line.{Line}
use Rattle.history_table.specs.Lines.{NumberedLine}
use Rattle.history_table.specs.Rows.{value_index, named_row, is_outside, known_index}
use Rattle.history_table.specs.History.{row_fault, read_fault, is_named, names, have_row, line_fault, lines_fault, first_of, missing_row, known_cells, row_cells, given_of, history_of, if_sound, if_whole}
use Rattle.history_table.specs.Fitting.{IsGiven, is_below}
use Rattle.history_table.proofs.LineRuns.{eq_from}
use Rattle.history_table.proofs.RowNumbers.{value_index_within}

-- a line that names a row and is without fault has an entry for each instant
line_sized : (w : World) (taken : Row → Bool) (number : ℕ) (o : Option Line) (item : ℕ) (row : Row) → read_fault w taken number o ≡ None →
    is_named (option_and_then (named_row w) o) row ≡ true → length (known_cells w item o) ≡ w.instants
line_sized w taken number None item row sound named = cc
line_sized w taken number (Some line) item row sound named =
    length-map line.entries (known_index w item) ∙ go (named_row w line) sound named
  where
    at_row : (twice whole : Bool) (outside : Option HistFault) →
        (if twice then Some (fault.TwiceRow number) else (if not whole then Some (fault.Length number) else outside)) ≡ None → whole ≡ true
    at_row true whole outside e = cc
    at_row false true outside e = refl
    at_row false false outside e = cc

    go : (o : Option Row) → row_fault w taken number line o ≡ None → is_named o row ≡ true → length line.entries ≡ w.instants
    go None e n = cc
    go (Some r) e n =
        eq_from (length line.entries) w.instants
        (at_row (taken r) (length line.entries == w.instants) (option_map (λ column. fault.Value number (column + 1)) (position (is_outside w r.item) line.entries)) e)

first_none : (f g : Option HistFault) → first_of f g ≡ None → (f ≡ None) × (g ≡ None)
first_none None g e = (refl, e)
first_none (Some f) g e = cc

found_sized : (w : World) (earlier lines : List NumberedLine) (row : Row) → lines_fault w earlier lines ≡ None → have_row w lines row ≡ true →
    length (row_cells w lines row) ≡ w.instants
unfolding lines_fault
found_sized w earlier [] row sound some = cc
found_sized w earlier (p ∷ ps) row sound some =
    let each = first_none (line_fault w earlier p) (lines_fault w (earlier ++ p ∷ []) ps) sound in
    at_line (names w row p) refl (find (names w row) ps) (have_row w ps row) (λ any. found_sized w (earlier ++ p ∷ []) ps row each.1 any) each.0 some
  where
    at_line : (b : Bool) → names w row p ≡ b → (rest : Option NumberedLine) (others : Bool) →
        (others ≡ true → length (known_cells w row.item (option_and_then (λ q. q.line) rest)) ≡ w.instants) →
        line_fault w earlier p ≡ None → (b || others) ≡ true →
        length (known_cells w row.item (option_and_then (λ q. q.line) (cond b (Some p) rest))) ≡ w.instants
    at_line true is rest others more sound some = line_sized w (have_row w earlier) p.number p.line row.item row sound is
    at_line false is rest others more sound some = more some

-- indexes that are known are below the number of values
entry_below : (w : World) (item : ℕ) (args : List ℕ) (i : ℕ) (e : Option Value) → is_below (known_index w item e) (cell_size w (the_cell item args i)) ≡ true
entry_below w item args i None = refl
entry_below w item args i (Some v) = go (slice_get w.items item) refl
  where
    index : (it : Item) (o : Option ℕ) → value_index w it.value v ≡ o →
        is_below (option_and_then (λ i. i) (option_map Some o)) (length (values_in w.domains it.value)) ≡ true
    index it None is = refl
    index it (Some k) is = lt-ltb k (length (values_in w.domains it.value)) (value_index_within w it.value v k is)

    go : (o : Option Item) → slice_get w.items item ≡ o → is_below (known_index w item (Some v)) (cell_size w (the_cell item args i)) ≡ true
    go None at = rw at refl
    go (Some it) at = rw at (index it (value_index w it.value v) refl)

-- each entry of a list is below the size of the cell beside it
Below : World → List Cell → List (Option ℕ) → Type 0
Below w cells given = list_all (λ p. is_below p.1 (cell_size w p.0)) (zip cells given) ≡ true

entries_below : (w : World) (item : ℕ) (args : List ℕ) (is : List ℕ) (es : List (Option Value)) → Below w (map (the_cell item args) is) (map (known_index w item) es)
unfolding Below
entries_below w item args [] es = refl
entries_below w item args (i ∷ is) [] = refl
entries_below w item args (i ∷ is) (e ∷ es) = and_from _ _ (entry_below w item args i e) (entries_below w item args is es)

cells_below : (w : World) (item : ℕ) (args : List ℕ) (is : List ℕ) (o : Option Line) → Below w (map (the_cell item args) is) (known_cells w item o)
unfolding Below
cells_below w item args [] None = refl
cells_below w item args (i ∷ is) None = refl
cells_below w item args is (Some line) = entries_below w item args is line.entries

pub row_length : (w : World) (r : Row) → length (cells_of_row w r) ≡ w.instants
unfolding instants_of
row_length w r = length-map (instants_of w) (the_cell r.item r.args) ∙ length-range_with_len 0 w.instants

pub zip-append : {A B : Type 0} (xs us : List A) (ys vs : List B) → length xs ≡ length ys → zip (xs ++ us) (ys ++ vs) ≡ zip xs ys ++ zip us vs
zip-append [] us [] vs same = refl
zip-append [] us (y ∷ ys) vs same = absurd (omega (arith, same))
zip-append (x ∷ xs) us [] vs same = absurd (omega (arith, same))
zip-append {A} {B} (x ∷ xs) us (y ∷ ys) vs same = ap (λ zs. (x, y) ∷ zs) (zip-append xs us ys vs (omega (arith, same)))

missing_next : (test : Row → Bool) (n : ℕ) (row : Row) (rows : List Row) → position_from test n (row ∷ rows) ≡ None →
    (test row ≡ false) × (position_from test (n + 1) rows ≡ None)
missing_next test n row rows none = at_row (test row) (position_from test (n + 1) rows) none
  where
    at_row : (b : Bool) (o : Option ℕ) → cond b (Some n) o ≡ None → (b ≡ false) × (o ≡ None)
    at_row true o none = cc
    at_row false o none = (refl, none)

-- row by row there are as many entries as cells, and each is below its size
rows_fit : (w : World) (lines : List NumberedLine) (n : ℕ) (rows : List Row) → lines_fault w [] lines ≡ None → position_from (λ row. not (have_row w lines row)) n rows ≡ None →
    (length (flat_map (row_cells w lines) rows) ≡ length (flat_map (cells_of_row w) rows)) × Below w (flat_map (cells_of_row w) rows) (flat_map (row_cells w lines) rows)
unfolding Below
rows_fit w lines n [] sound none = (refl, refl)
rows_fit w lines n (row ∷ rows) sound none =
    let here = missing_next (λ row. not (have_row w lines row)) n row rows none in
    let more = rows_fit w lines (n + 1) rows sound here.1 in
    let given = row_cells w lines row in
    let cells = cells_of_row w row in
    let same : length cells ≡ length given = row_length w row ∙ sym (found_sized w [] lines row sound (not-false (have_row w lines row) here.0)) in (
      length-append given (flat_map (row_cells w lines) rows) ∙ ap₂ ◌+◌ (sym same) more.0 ∙ sym (length-append cells (flat_map (cells_of_row w) rows)),
      ap (list_all (λ p. is_below p.1 (cell_size w p.0))) (zip-append cells (flat_map (cells_of_row w) rows) given (flat_map (row_cells w lines) rows) same)
          ∙ list_all-append (λ p. is_below p.1 (cell_size w p.0)) (zip cells given) (zip (flat_map (cells_of_row w) rows) (flat_map (row_cells w lines) rows))
          ∙ and_from _ _ (cells_below w row.item row.args (instants_of w) (option_and_then (λ placed. placed.line) (find (names w row) lines))) more.1,
    )

pub same_Ok : {A E : Type 0} (x y : A) → ◌≡◌ {A = Result A E} (Ok x) (Ok y) → x ≡ y
same_Ok x y e = cc

-- a history fits
pub given_fits : (w : World) (lines : List NumberedLine) (given : List (Option ℕ)) → history_of w lines ≡ Ok given → IsGiven w given
unfolding cells_of Below
given_fits w lines given is = go (lines_fault w [] lines) (missing_row w lines) refl refl is
  where
    at : (o : Option HistFault) (m : Option ℕ) → lines_fault w [] lines ≡ o → missing_row w lines ≡ m → if_sound w lines None ≡ if_whole w lines m
    at o m e f = ap (if_whole w lines) f

    go : (o : Option HistFault) (m : Option ℕ) → lines_fault w [] lines ≡ o → missing_row w lines ≡ m → if_sound w lines o ≡ Ok given → IsGiven w given
    go (Some f) m sound none is = cc
    go None (Some r) sound none is = let bad : Err (fault.MissingRow r) ≡ Ok given = sym (at None (Some r) sound none) ∙ is in cc
    go None None sound none is =
        let good : Ok (given_of w lines) ≡ Ok given = sym (at None None sound none) ∙ is in
        let same : given_of w lines ≡ given = same_Ok _ _ good in
        let r = rows_fit w lines 0 (rows_of w) sound (sym (position_from-zero (λ row. not (have_row w lines row)) (rows_of w)) ∙ none) in
        record { whole = sym (ap length same) ∙ r.0; within = ap (λ g. list_all (λ p. is_below p.1 (cell_size w p.0)) (zip (cells_of w) g)) (sym same) ∙ r.1 }
