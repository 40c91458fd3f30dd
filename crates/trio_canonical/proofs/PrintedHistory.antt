-- The text that is printed of a given history is that given history.
use Rattle.std.proofs.Common.{◌≡◌, ℕ, suc, ◌+◌, Bool, true, false, not, ◌||◌, ◌==◌, List, [], ◌∷◌, ◌++◌, length, take, drop, map, zip, Option, None, Some, Ok, slice_get, option_map, refl, sym, ap, ap₂, subst, ◌∙◌, arith, length-append, length-take-le, take-append-drop}
use Rattle.std.proofs.lemmas.List.{length-map}
use Rattle.std.specs.Prelude.{if◌then◌else◌}
use Rattle.std.specs.List.{list_all, flat_map, find, position, position_from}
use Rattle.std.proofs.lemmas.Bool.{false≢true, and_parts, and_from, cond-true, cond-false, false_from_ne_true, not-true}
use Rattle.std.proofs.lemmas.Iterator.Adapters.{position_from-zero}
use Rattle.std.proofs.lemmas.List.Folds.{list_all-append, list_any-append}
use Rattle.trio_types.specs.World.{World, instants_of}
use Rattle.trio_types.specs.Cells.{Row, the_cell, rows_of, cells_of_row, cells_of, cell_size}
use Rattle.trio_types.specs.Parts.{Parts, world_of_parts}
use Rattle.trio_types.proofs.Lists.{all_from_each}
use Rattle.trio_types.proofs.Specs.{Formed, formed_of}
use Rattle.trio_print.specs.Pieces.{Piece, pieces_text}
use Rattle.trio_print.proofs.Spaced.{are_spaced}
use Rattle.trio_print.proofs.Printed.{tokens_of, spaced_tokens}
use Rattle.history_table.specs.declared.fault.HistFault.TheVariants as fault
use Rattle.history_table.specs.declared.line.Line.{Line}
use Rattle.history_table.specs.declared.lines.Found.{Found}
use Rattle.history_table.specs.Lines.{Numbered, NumberedLine, AreRead}
use Rattle.history_table.specs.Rows.{named_row, same_row, is_outside}
use Rattle.history_table.specs.History.{row_fault, is_named, names, have_row, lines_fault, first_of, SaysHistory, IsGivenText, OneHistory}
use Rattle.history_table.specs.Fitting.{IsGiven, is_below}
use Rattle.history_table.specs.Decoding.{AreFound, has_row, row_from, cells_found, cells_at, joined_rows}
use Rattle.history_table.specs.Texts.{given_text}
use Rattle.history_table.proofs.Tables.{known_within}
use Rattle.history_table.proofs.LineRuns.{eq_true}
use Rattle.history_table.proofs.LineSteps.{history_is}
use Rattle.history_table.proofs.RowPlaces.{same_row_from, same_row_self, Once, rows_once}
use Rattle.trio_canonical.specs.PrintedLaws.{PrintedHistoryLaw, PrintedTableLaw}
use Rattle.history_table.proofs.Fits.{row_length, zip-append, same_Ok}
use Rattle.trio_canonical.proofs.LinePieces.{line_pieces, numbered_lines, read_one_by_one, AreWritable, lines_spaced}
use Rattle.trio_canonical.proofs.Written.{written_line, written_lines, lines_said}
use Rattle.trio_canonical.proofs.PrintedRows.{RowLine, row_line}

-- ---- rows are apart

-- each row is another than those behind it
Apart : List Row → Type 0
Apart [] = Unit {0}
Apart (row ∷ rows) = (list_all (λ other. not (same_row row other)) rows ≡ true) × Apart rows

apart_from : (rows : List Row) → Once rows → Apart rows
unfolding Apart
apart_from [] o = tt
apart_from (row ∷ rows) o = (
  all_from_each (λ other. not (same_row row other)) rows
      (λ k other at. ap not (false_from_ne_true (same_row row other)
      (λ yes. let e : 0 ≡ suc k = o.once 0 (suc k) other (ap Some (same_row_from row other yes)) at in absurd (omega (arith, e))))),
  apart_from rows (record { once = λ m n r at bt. let e : suc m ≡ suc n = o.once (suc m) (suc n) r at bt in omega (arith, e) }),
)

-- ---- what is given, row by row

record IsRow (w : World) (row : Row) : Type 0 where
  place : ℕ
  stands : slice_get (rows_of w) place ≡ Some row

-- each row's line is printed of what is given of its cells, and nothing is left
RowsFit : World → List Row → List (Option ℕ) → Type 0
RowsFit w [] given = given ≡ []
RowsFit w (row ∷ rows) given =
    RowLine w row (take w.instants given) (written_line w row (take w.instants given)) × RowsFit w rows (drop w.instants given)

entries_below : (w : World) (item : ℕ) (args is : List ℕ) (es : List (Option ℕ)) → length is ≡ length es →
    list_all (λ p. is_below p.1 (cell_size w p.0)) (zip (map (the_cell item args) is) es) ≡ true → list_all (λ e. is_below e (cell_size w (the_cell item args 0))) es ≡ true
entries_below w item args [] [] same below = refl
entries_below w item args [] (e ∷ es) same below = absurd (omega (arith, same))
entries_below w item args (i ∷ is) [] same below = refl
entries_below w item args (i ∷ is) (e ∷ es) same below =
    let both = and_parts (is_below e (cell_size w (the_cell item args 0))) (list_all (λ p. is_below p.1 (cell_size w p.0)) (zip (map (the_cell item args) is) es)) below in
    and_from (is_below e (cell_size w (the_cell item args 0))) (list_all (λ e. is_below e (cell_size w (the_cell item args 0))) es) both.0
    (entries_below w item args is es (omega (arith, same)) both.1)

none_left : (given : List (Option ℕ)) → length given ≡ 0 → given ≡ []
none_left [] none = refl
none_left (e ∷ es) none = absurd (omega (arith, none))

rows_fit : (p : Parts) → Formed p → (rows : List Row) (given : List (Option ℕ)) → ((k : ℕ) (row : Row) → slice_get rows k ≡ Some row → IsRow (world_of_parts p) row) →
    length given ≡ length (flat_map (cells_of_row (world_of_parts p)) rows) →
    list_all (λ c. is_below c.1 (cell_size (world_of_parts p) c.0)) (zip (flat_map (cells_of_row (world_of_parts p)) rows) given) ≡ true → RowsFit (world_of_parts p) rows given
unfolding RowsFit instants_of
rows_fit p f [] given each whole below = none_left given whole
rows_fit p f (row ∷ rows) given each whole below =
    let w : World = world_of_parts p in
    let cells = cells_of_row w row in
    let others = flat_map (cells_of_row w) rows in
    let here : List (Option ℕ) = take p.instants given in
    let left : List (Option ℕ) = drop p.instants given in
    let size : length cells ≡ p.instants = row_length w row in
    let all : length given ≡ length cells + length others = whole ∙ length-append cells others in
    let long : length here ≡ p.instants = length-take-le p.instants given (omega (arith, all, size)) in
    let rest : length given ≡ length here + length left = sym (ap length (take-append-drop p.instants given)) ∙ length-append here left in
    let same : length cells ≡ length here = size ∙ sym long in
    let split = sym (list_all-append (λ c. is_below c.1 (cell_size w c.0)) (zip cells here) (zip others left)) ∙ ap (list_all (λ c. is_below c.1 (cell_size w c.0)))
    (sym (zip-append cells others here left same) ∙ ap (zip (cells ++ others)) (take-append-drop p.instants given)) ∙ below in
    let both = and_parts (list_all (λ c. is_below c.1 (cell_size w c.0)) (zip cells here)) (list_all (λ c. is_below c.1 (cell_size w c.0)) (zip others left)) split in
    let is_row = each 0 row refl in (
      row_line p f is_row.place row is_row.stands here long
          (entries_below w row.item row.args (instants_of w) here (sym (length-map (instants_of w) (the_cell row.item row.args)) ∙ same) both.0),
      rows_fit p f rows left (λ k. each (suc k)) (omega (arith, all, rest, same)) both.1,
    )

-- ---- the lines are found

placed_lines : ℕ → List Line → List NumberedLine
placed_lines n [] = []
placed_lines n (line ∷ lines) = record { number = n; line = Some line } ∷ placed_lines (n + 1) lines

are_read : (n : ℕ) (lines : List Line) → AreRead (numbered_lines n lines) (placed_lines n lines)
unfolding placed_lines
are_read n [] = tt
are_read n (line ∷ lines) = (refl, refl, are_read (n + 1) lines)

found_line : Row → List (Option ℕ) → Found
found_line row es = record { row = record { item = row.item; args = row.args }; cells = es }

found_lines : World → List Row → List (Option ℕ) → List Found
found_lines w [] given = []
found_lines w (row ∷ rows) given = found_line row (take w.instants given) ∷ found_lines w rows (drop w.instants given)

are_found : (w : World) (n : ℕ) (rows : List Row) (given : List (Option ℕ)) → RowsFit w rows given → AreFound w (placed_lines n (written_lines w rows given)) (found_lines w rows given)
unfolding RowsFit placed_lines found_line found_lines
are_found w n [] given fit = tt
are_found w n (row ∷ rows) given fit = (record { row = fit.0.named; cells = fit.0.cells }, are_found w (n + 1) rows (drop w.instants given) fit.1)

are_writable : (w : World) (rows : List Row) (given : List (Option ℕ)) → RowsFit w rows given → AreWritable (written_lines w rows given)
unfolding RowsFit
are_writable w [] given fit = tt
are_writable w (row ∷ rows) given fit = (fit.0.writable, are_writable w rows (drop w.instants given) fit.1)

-- ---- the lines are without fault

sound_row : (twice whole : Bool) (number : ℕ) (place : Option ℕ) → twice ≡ false → whole ≡ true → place ≡ None →
    (if twice then Some (fault.TwiceRow number) else (if not whole then Some (fault.Length number) else option_map (λ column. fault.Value number (column + 1)) place)) ≡ None
sound_row true whole number place once long inside = absurd (false≢true (sym once))
sound_row false false number place once long inside = absurd (false≢true long)
sound_row false true number None once long inside = refl
sound_row false true number (Some k) once long inside = cc

sound_line : (w : World) (taken : Row → Bool) (number : ℕ) (row : Row) (es : List (Option ℕ)) (line : Line) → RowLine w row es line → taken row ≡ false →
    row_fault w taken number line (named_row w line) ≡ None
sound_line w taken number row es line fit once =
    ap (row_fault w taken number line) fit.named
    ∙ sound_row (taken row) (length line.entries == w.instants) number (position (is_outside w row.item) line.entries) once (eq_true (length line.entries) w.instants fit.sized) fit.inside

-- no line has one of these rows
abbrev none_has : World → List NumberedLine → List Row → Bool
none_has w lines rows = list_all (λ row. not (have_row w lines row)) rows

neither : (a b : Bool) → not a ≡ true → not b ≡ true → not (a || (b || false)) ≡ true
neither true b none other = absurd (false≢true none)
neither false true none other = absurd (false≢true other)
neither false false none other = refl

none_has_more : (w : World) (earlier : List NumberedLine) (number : ℕ) (line : Line) (row : Row) (rows : List Row) → named_row w line ≡ Some row →
    none_has w earlier rows ≡ true → list_all (λ other. not (same_row row other)) rows ≡ true →
    none_has w (earlier ++ record { number = number; line = Some line } ∷ []) rows ≡ true
none_has_more w earlier number line row [] named none apart = refl
none_has_more w earlier number line row (other ∷ rows) named none apart =
    let placed : NumberedLine = record { number = number; line = Some line } in
    let old = and_parts (not (have_row w earlier other)) (none_has w earlier rows) none in
    let new = and_parts (not (same_row row other)) (list_all (λ other. not (same_row row other)) rows) apart in
    let here : have_row w (earlier ++ placed ∷ []) other ≡ (have_row w earlier other || (same_row row other || false)) =
    list_any-append (names w other) earlier (placed ∷ []) ∙ ap (λ o. have_row w earlier other || (is_named o other || false)) named in
    and_from (not (have_row w (earlier ++ placed ∷ []) other)) (none_has w (earlier ++ placed ∷ []) rows)
    (ap not here ∙ neither (have_row w earlier other) (same_row row other) old.0 new.0)
    (none_has_more w earlier number line row rows named old.1 new.1)

are_sound : (w : World) (earlier : List NumberedLine) (n : ℕ) (rows : List Row) (given : List (Option ℕ)) → RowsFit w rows given → Apart rows → none_has w earlier rows ≡ true →
    lines_fault w earlier (placed_lines n (written_lines w rows given)) ≡ None
unfolding RowsFit Apart placed_lines lines_fault
are_sound w earlier n [] given fit apart none = refl
are_sound w earlier n (row ∷ rows) given fit apart none =
    let es : List (Option ℕ) = take w.instants given in
    let left : List (Option ℕ) = drop w.instants given in
    let line : Line = written_line w row es in
    let now : List NumberedLine = earlier ++ record { number = n; line = Some line } ∷ [] in
    let old = and_parts (not (have_row w earlier row)) (none_has w earlier rows) none in
    let once : have_row w earlier row ≡ false = not-true (have_row w earlier row) old.0 in
    ap (λ g. first_of g (lines_fault w now (placed_lines (n + 1) (written_lines w rows left)))) (sound_line w (have_row w earlier) n row es line fit.0 once)
    ∙ are_sound w now (n + 1) rows left fit.1 apart.1 (none_has_more w earlier n line row rows fit.0.named old.1 apart.0)

nothing_has : (w : World) (rows : List Row) → none_has w [] rows ≡ true
nothing_has w [] = refl
nothing_has w (row ∷ rows) = nothing_has w rows

-- ---- each row has its line

still_has : (f : Found) (found : List Found) (rows : List Row) → list_all (has_row found) rows ≡ true → list_all (has_row (f ∷ found)) rows ≡ true
still_has f found [] all = refl
still_has f found (row ∷ rows) all =
    let both = and_parts (has_row found row) (list_all (has_row found) rows) all in
    and_from (has_row (f ∷ found) row) (list_all (has_row (f ∷ found)) rows)
    (ap (λ b. same_row (row_from f.row) row || b) both.0 ∙ or_true (same_row (row_from f.row) row)) (still_has f found rows both.1)
  where
    or_true : (a : Bool) → (a || true) ≡ true
    or_true true = refl
    or_true false = refl

all_have : (w : World) (rows : List Row) (given : List (Option ℕ)) → list_all (has_row (found_lines w rows given)) rows ≡ true
unfolding found_lines found_line
all_have w [] given = refl
all_have w (row ∷ rows) given =
    let found : List Found = found_lines w rows (drop w.instants given) in
    let f : Found = found_line row (take w.instants given) in
    and_from (has_row (f ∷ found) row) (list_all (has_row (f ∷ found)) rows) (ap (λ b. b || has_row found row) (same_row_self row))
    (still_has f found rows (all_have w rows (drop w.instants given)))

no_place : (test : Row → Bool) (n : ℕ) (rows : List Row) → list_all test rows ≡ true → position_from (λ row. not (test row)) n rows ≡ None
no_place test n [] all = refl
no_place test n (row ∷ rows) all =
    let both = and_parts (test row) (list_all test rows) all in
    cond-false (not (test row)) (Some n) (position_from (λ row. not (test row)) (n + 1) rows) (ap not both.0) ∙ no_place test (n + 1) rows both.1

-- ---- each row's cells are those of its line

cells_behind : (f : Found) (found : List Found) (rows : List Row) → list_all (λ other. not (same_row (row_from f.row) other)) rows ≡ true →
    flat_map (cells_at (f ∷ found)) rows ≡ flat_map (cells_at found) rows
cells_behind f found [] apart = refl
cells_behind f found (row ∷ rows) apart =
    let both = and_parts (not (same_row (row_from f.row) row)) (list_all (λ other. not (same_row (row_from f.row) other)) rows) apart in
    ap₂ (λ x y. x ++ y)
    (ap cells_found (cond-false (same_row (row_from f.row) row) (Some f) (find (λ g. same_row (row_from g.row) row) found) (not-true (same_row (row_from f.row) row) both.0)))
    (cells_behind f found rows both.1)

cells_back : (w : World) (rows : List Row) (given : List (Option ℕ)) → RowsFit w rows given → Apart rows → flat_map (cells_at (found_lines w rows given)) rows ≡ given
unfolding RowsFit Apart found_lines found_line
cells_back w [] given fit apart = sym fit
cells_back w (row ∷ rows) given fit apart =
    let es : List (Option ℕ) = take w.instants given in
    let left : List (Option ℕ) = drop w.instants given in
    let found : List Found = found_lines w rows left in
    let f : Found = found_line row es in
    ap₂ (λ x y. x ++ y) (ap cells_found (cond-true (same_row row row) (Some f) (find (λ g. same_row (row_from g.row) row) found) (same_row_self row)))
    (cells_behind f found rows apart.0 ∙ cells_back w rows left fit.1 apart.1)
    ∙ take-append-drop w.instants given

-- ---- the whole text

pub printed_says : (p : Parts) → Formed p → (given : List (Option ℕ)) → IsGiven (world_of_parts p) given →
    SaysHistory (world_of_parts p) (given_text (world_of_parts p) given) (Ok given)
unfolding cells_of
printed_says p f given is =
    let w : World = world_of_parts p in
    let rows : List Row = rows_of w in
    let lines : List Line = written_lines w rows given in
    let pieces : List Piece = flat_map line_pieces lines in
    let found : List Found = found_lines w rows given in
    let fit = rows_fit p f rows given (λ k row at. record { place = k; stands = at }) is.whole is.within in
    let apart = apart_from rows (rows_once p f) in
    let spaced : are_spaced pieces ≡ true = lines_spaced lines (are_writable w rows given fit) in
    let none : position (λ row. not (has_row found row)) rows ≡ None = position_from-zero (λ row. not (has_row found row)) rows ∙ no_place (has_row found) 0 rows (all_have w rows given) in
    let says : SaysHistory w (pieces_text pieces) (Ok given) = record {
      tokens = tokens_of 0 1 pieces;
      lexed = spaced_tokens pieces spaced;
      lines = placed_lines 1 lines;
      read = subst (λ (ns : List Numbered). AreRead ns (placed_lines 1 lines)) (sym (read_one_by_one lines spaced)) (are_read 1 lines);
      answered =
          history_is w (placed_lines 1 lines) found (are_found w 1 rows given fit) (are_sound w [] 1 rows given fit apart (nothing_has w rows))
          ∙ ap (joined_rows found rows) none ∙ ap Ok (cells_back w rows given fit apart);
    } in
    subst (λ (text : List ℕ). SaysHistory w text (Ok given)) (lines_said w rows given) says

-- and no other, since a text is one given history at most
pub printed_history : OneHistory → PrintedHistoryLaw
printed_history one p given well is =
    let w : World = world_of_parts p in
    let text : List ℕ = given_text w given in
    let says : IsGivenText w text given = printed_says p (formed_of p well) given is in (
      says,
      λ other said. same_Ok other given (one w text (Ok other) (Ok given) (λ no. cc) (λ no. cc) said says),
    )

pub printed_table : OneHistory → PrintedTableLaw
printed_table one p table well is =
    let w : World = world_of_parts p in
    printed_history one p (map Some table) well
    (record { whole = length-map table Some ∙ is.whole; within = known_within w (cells_of w) table ∙ is.within })
