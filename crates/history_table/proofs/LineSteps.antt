-- Lines one after another: what is known of them behind some without fault.
use Rattle.std.proofs.Common.{◌≡◌, ℕ, List, [], ◌∷◌, ◌++◌, refl, sym, ap, ◌∙◌, cond, true, false, append_assoc, append-nil, subst, not, take, drop, Result, Ok, Err, slice_get, IsErrAnd, IfErr}
use Rattle.std.specs.Prelude.{Bool, ◌||◌, ◌==◌, Option, None, Some}
use Rattle.std.specs.List.{find, flat_map, position}
use Rattle.std.specs.Str.{bytes_eq}
use Rattle.std.proofs.lemmas.Bool.{and_parts}
use Rattle.std.specs.Option.{option_and_then}
use Rattle.std.proofs.lemmas.List.{map-append}
use Rattle.std.proofs.Math.Path.{fun_ext, ap₂}
use Rattle.trio_types.specs.World.{World}
use Rattle.trio_types.specs.Cells.{Row, rows_of}
use Rattle.trio_text.specs.declared.lexeme.Lexeme.{Lexeme}
use Rattle.trio_text.specs.declared.token.Token.{Token}
use Rattle.history_table.specs.declared.fault.HistFault.{HistFault}
use Rattle.history_table.specs.declared.fault.HistFault.TheVariants as fault
use Rattle.history_table.specs.declared.lines.Found.{Found}
use Rattle.history_table.specs.Lines.{Numbered, NumberedLine}
use Rattle.history_table.specs.Rows.{same_row}
use Rattle.history_table.specs.History.{is_named, names, have_row, read_fault, line_fault, lines_fault, first_of, known_cells, row_cells, if_sound, if_whole, history_of}
use Rattle.history_table.specs.Decoding.{line_of, lines_by, placed_of, IsFound, AreFound, has_row, row_from, cells_at, cells_found, joined_rows, joined_lines, IsFault}
use Rattle.history_table.proofs.LineRuns.{IsRun, eq_from}

-- the lines before `left` were found, and are without fault
pub record Behind (world : World) (all left : List Numbered) (found : List Found) : Type 0 where
  pub seen : List Numbered
  pub whole : all ≡ seen ++ left
  pub are_found : AreFound world (placed_of seen) found
  pub same_fault : lines_fault world [] (placed_of all) ≡ lines_fault world (placed_of seen) (placed_of left)

pub has_row_is : (world : World) (seen : List NumberedLine) (found : List Found) → AreFound world seen found → (row : Row) →
    have_row world seen row ≡ has_row found row
has_row_is world [] [] are row = refl
has_row_is world [] (f ∷ fs) are row = absurd are
has_row_is world (p ∷ ps) [] are row = absurd are
has_row_is world (p ∷ ps) (f ∷ fs) are row =
    ap (λ o. is_named o row || have_row world ps row) are.0.row ∙ ap (λ b. same_row (row_from f.row) row || b) (has_row_is world ps fs are.1 row)

-- what the first line that names this row gives its cells
pub cells_is : (world : World) (seen : List NumberedLine) (found : List Found) → AreFound world seen found → (row : Row) →
    row_cells world seen row ≡ cells_at found row
cells_is world [] [] are row = refl
cells_is world [] (f ∷ fs) are row = absurd are
cells_is world (p ∷ ps) [] are row = absurd are
cells_is world (p ∷ ps) (f ∷ fs) are row =
    step (names world row p) (same_row (row_from f.row) row) (ap (λ o. is_named o row) are.0.row)
    (λ e. eq_from f.row.item row.item (and_parts (f.row.item == row.item) (bytes_eq f.row.args row.args) e).0)
    (cells_is world ps fs are.1 row)
  where
    step : (b c : Bool) → b ≡ c → (c ≡ true → f.row.item ≡ row.item) → row_cells world ps row ≡ cells_at fs row →
        known_cells world row.item (option_and_then (λ q. q.line) (cond b (Some p) (find (names world row) ps)))
        ≡ cells_found (cond c (Some f) (find (λ g. same_row (row_from g.row) row) fs))
    step true true e same more = ap (λ r. known_cells world r p.line) (sym (same refl)) ∙ are.0.cells
    step false false e same more = more
    step true false e same more = cc
    step false true e same more = cc

-- the fault of a line behind those found
fault_is : (world : World) (seen : List NumberedLine) (found : List Found) → AreFound world seen found → (p : NumberedLine) →
    line_fault world seen p ≡ read_fault world (has_row found) p.number p.line
fault_is world seen found are p = ap (λ taken. read_fault world taken p.number p.line) (fun_ext (has_row_is world seen found are))

found_more : (world : World) (ps : List NumberedLine) (fs : List Found) (p : NumberedLine) (f : Found) → AreFound world ps fs → IsFound world p.line f →
    AreFound world (ps ++ p ∷ []) (fs ++ f ∷ [])
found_more world [] [] p f are is = (is, tt)
found_more world [] (g ∷ gs) p f are is = absurd are
found_more world (q ∷ qs) [] p f are is = absurd are
found_more world (q ∷ qs) (g ∷ gs) p f are is = (are.0, found_more world qs gs p f are.1 is)

placed : ℕ → List Lexeme → NumberedLine
placed number tokens = record { number = number; line = line_of tokens }

placed-append : (xs ys : List Numbered) → placed_of (xs ++ ys) ≡ placed_of xs ++ placed_of ys
placed-append xs ys = map-append (λ n. record { number = n.number; line = line_of n.tokens }) xs ys

behind_more : (world : World) (all lines : List Numbered) (found : List Found) (number : ℕ) (tokens : List Lexeme) (f : Found) →
    Behind world all (record { number = number; tokens = tokens } ∷ lines) found → IsFound world (line_of tokens) f →
    read_fault world (has_row found) number (line_of tokens) ≡ None → Behind world all lines (found ++ f ∷ [])
unfolding lines_fault placed
behind_more world all lines found number tokens f b is sound =
    let line : Numbered = record { number = number; tokens = tokens } in
    let p = placed number tokens in
    let more : placed_of (b.seen ++ line ∷ []) ≡ placed_of b.seen ++ p ∷ [] = placed-append b.seen (line ∷ []) in
    record {
      seen = b.seen ++ line ∷ [];
      whole = b.whole ∙ sym (append_assoc b.seen (line ∷ []) lines);
      are_found = subst (λ ps. AreFound world ps (found ++ f ∷ [])) (sym more) (found_more world (placed_of b.seen) found p f b.are_found is);
      same_fault =
          b.same_fault ∙ ap (λ g. first_of g (lines_fault world (placed_of b.seen ++ p ∷ []) (placed_of lines))) (fault_is world (placed_of b.seen) found b.are_found p ∙ sound)
          ∙ ap (λ ps. lines_fault world ps (placed_of lines)) (sym more);
    }

is_fault_along : (a b : Option HistFault) (f : HistFault) → (a ≡ Some f → b ≡ Some f) → IsFault a f → IsFault b f
is_fault_along a b fault.Memory along is = is
is_fault_along a b (fault.Lex place) along is = along is
is_fault_along a b (fault.Syntax line) along is = along is
is_fault_along a b (fault.UnknownRow line) along is = along is
is_fault_along a b (fault.TwiceRow line) along is = along is
is_fault_along a b (fault.Length line) along is = along is
is_fault_along a b (fault.Value line column) along is = along is
is_fault_along a b (fault.MissingRow number) along is = along is

behind_fault : (world : World) (all lines : List Numbered) (found : List Found) (number : ℕ) (tokens : List Lexeme) (f : HistFault) →
    Behind world all (record { number = number; tokens = tokens } ∷ lines) found →
    IsFault (read_fault world (has_row found) number (line_of tokens)) f → IsFault (lines_fault world [] (placed_of all)) f
unfolding lines_fault placed
behind_fault world all lines found number tokens f b is =
    let p = placed number tokens in
    is_fault_along (read_fault world (has_row found) number (line_of tokens)) (lines_fault world [] (placed_of all)) f
    (λ e. b.same_fault ∙ ap (λ g. first_of g (lines_fault world (placed_of b.seen ++ p ∷ []) (placed_of lines))) (fault_is world (placed_of b.seen) found b.are_found p ∙ e)) is

behind_end : (world : World) (all : List Numbered) (found : List Found) → Behind world all [] found →
    AreFound world (placed_of all) found × (lines_fault world [] (placed_of all) ≡ None)
unfolding lines_fault
behind_end world all found b =
    let whole : b.seen ≡ all = sym (b.whole ∙ append-nil b.seen) in
    (subst (λ lines. AreFound world (placed_of lines) found) whole b.are_found, b.same_fault)

pub found_line : (world : World) (all : List Numbered) (rest after : List Token) (lexemes here behind : List Lexeme) (first : Token) (count : ℕ) (f : Found) (found : List Found) →
    Behind world all (lines_by rest lexemes) found → IsRun rest lexemes first count → here ≡ take count lexemes → after ≡ drop count rest → behind ≡ drop count lexemes →
    IsFound world (line_of here) f → read_fault world (has_row found) first.line (line_of here) ≡ None →
    Behind world all (lines_by after behind) (found ++ f ∷ [])
found_line world all rest after lexemes here behind first count f found b is_run is_here is_after is_behind is sound =
    let lines : List Numbered = lines_by after behind in
    let split : lines_by rest lexemes ≡ record { number = first.line; tokens = here } ∷ lines =
    is_run.split ∙ ap₂ (λ tokens more. record { number = first.line; tokens = tokens } ∷ more) (sym is_here) (ap₂ lines_by (sym is_after) (sym is_behind)) in
    behind_more world all lines found first.line here f (subst (λ left. Behind world all left found) split b) is sound

pub faulty_line : (world : World) (all : List Numbered) (rest : List Token) (lexemes here : List Lexeme) (first : Token) (count : ℕ) (found : List Found) (f : HistFault) →
    Behind world all (lines_by rest lexemes) found → IsRun rest lexemes first count → here ≡ take count lexemes →
    IsFault (read_fault world (has_row found) first.line (line_of here)) f → IsFault (lines_fault world [] (placed_of all)) f
faulty_line world all rest lexemes here first count found f b is_run is_here is =
    let lines : List Numbered = lines_by (drop count rest) (drop count lexemes) in
    let split : lines_by rest lexemes ≡ record { number = first.line; tokens = here } ∷ lines =
    is_run.split ∙ ap (λ tokens. record { number = first.line; tokens = tokens } ∷ lines) (sym is_here) in
    behind_fault world all lines found first.line here f (subst (λ left. Behind world all left found) split b) is

pub last_line : (world : World) (all : List Numbered) (rest : List Token) (lexemes : List Lexeme) (found : List Found) →
    Behind world all (lines_by rest lexemes) found → None ≡ slice_get rest 0 →
    AreFound world (placed_of all) found × (lines_fault world [] (placed_of all) ≡ None)
last_line world all [] lexemes found b none = behind_end world all found b
last_line world all (token ∷ rest) lexemes found b none = cc

-- the history of lines without fault
pub history_is : (world : World) (lines : List NumberedLine) (found : List Found) → AreFound world lines found → lines_fault world [] lines ≡ None →
    history_of world lines ≡ joined_lines world found
history_is world lines found are none =
    ap (if_sound world lines) none
    ∙ go (fun_ext (has_row_is world lines found are)) (fun_ext (cells_is world lines found are))
  where
    step : (o : Option ℕ) → flat_map (row_cells world lines) (rows_of world) ≡ flat_map (cells_at found) (rows_of world) →
        if_whole world lines o ≡ joined_rows found (rows_of world) o
    step None e = ap Ok e
    step (Some row) e = refl

    go : have_row world lines ≡ has_row found → row_cells world lines ≡ cells_at found → if_sound world lines None ≡ joined_lines world found
    go e f =
        ap (λ test. if_whole world lines (position (λ row. not (test row)) (rows_of world))) e
        ∙ step (position (λ row. not (has_row found row)) (rows_of world)) (ap (λ cells. flat_map cells (rows_of world)) f)

-- the exit of a `?`
pub passed_on : {A : Type 0} (Q : HistFault → Type 0) (r : Result A HistFault) (f : HistFault) → IsErrAnd r (λ g. g ≡ f) → Q f → IfErr r Q
passed_on Q (Ok x) f same q = tt
passed_on Q (Err g) f same q = subst Q (sym same) q

pub passed_answer : {A : Type 0} (Q : Result A HistFault → Type 0) (r : Result A HistFault) (f : HistFault) → IsErrAnd r (λ g. g ≡ f) → Q (Err f) → Q r
passed_answer Q (Ok x) f same q = absurd same
passed_answer Q (Err g) f same q = subst (λ h. Q (Err h)) (sym same) q
