-- What the reader of a line goes by: the line that tokens are, found from the front.
use Rattle.std.specs.Prelude.{◌≡◌, ◌<◌, ℕ, Bool, length, map, find, position, not, true, false, List, [], ◌∷◌, Option, None, Some, Result, Ok, Err}
use Rattle.std.specs.List.{list_any, flat_map}
use Rattle.std.specs.Option.{option_map, option_and_then}
use Rattle.trio_text.specs.declared.lexeme.Lexeme.{Lexeme}
use Rattle.trio_text.specs.declared.lexeme.Lexeme.TheVariants as lexeme
use Rattle.trio_text.specs.declared.token.Reserved.TheVariants as reserved
use Rattle.trio_text.specs.declared.token.Symbol.TheVariants as symbol
use Rattle.trio_text.specs.declared.token.Token.{Token}
use Rattle.trio_types.specs.World.{World}
use Rattle.trio_types.specs.Cells.{Row, rows_of}
use Rattle.history_table.specs.declared.fault.HistFault.{HistFault}
use Rattle.history_table.specs.declared.fault.HistFault.TheVariants as fault
use Rattle.history_table.specs.declared.line.Value.{Value}
use Rattle.history_table.specs.declared.line.Value.TheVariants as written
use Rattle.history_table.specs.declared.line.Line.{Line}
use Rattle.history_table.specs.declared.lines.Found.{Found}
use Rattle.history_table.specs.declared.rows.RowParts.{RowParts}
use Rattle.history_table.specs.Lines.{Numbered, NumberedLine, with_lexeme}
use Rattle.history_table.specs.Rows.{named_row, same_row}
use Rattle.history_table.specs.History.{known_cells}

-- a value in front, and what stands behind it
abbrev pub value_front : List Lexeme → Option (Value × List Lexeme)
value_front (lexeme.Number n ∷ x) = Some (written.Number n, x)
value_front (lexeme.Sign symbol.Minus ∷ lexeme.Number n ∷ x) = Some (written.Opposite n, x)
value_front (lexeme.Word reserved.True ∷ x) = Some (written.Truth true, x)
value_front (lexeme.Word reserved.False ∷ x) = Some (written.Truth false, x)
value_front (lexeme.Name name ∷ x) = Some (written.Word name, x)
value_front x = None

abbrev pub with_entry : Option Value → Option (List (Option Value)) → Option (List (Option Value))
with_entry entry entries = option_map (λ more. entry ∷ more) entries

-- none or more entries
abbrev pub entries_of : List Lexeme → Option (List (Option Value))
entries_of [] = Some []
entries_of (lexeme.Sign symbol.Unknown ∷ x) = with_entry None (entries_of x)
entries_of (lexeme.Number n ∷ x) = with_entry (Some (written.Number n)) (entries_of x)
entries_of (lexeme.Sign symbol.Minus ∷ lexeme.Number n ∷ x) = with_entry (Some (written.Opposite n)) (entries_of x)
entries_of (lexeme.Word reserved.True ∷ x) = with_entry (Some (written.Truth true)) (entries_of x)
entries_of (lexeme.Word reserved.False ∷ x) = with_entry (Some (written.Truth false)) (entries_of x)
entries_of (lexeme.Name name ∷ x) = with_entry (Some (written.Word name)) (entries_of x)
entries_of x = None

abbrev pub with_arg : Value → Option (List Value × List Lexeme) → Option (List Value × List Lexeme)
with_arg value args = option_map (λ p. (value ∷ p.0, p.1)) args

-- values up to `)` with `,` between them, and what stands behind: from a value on, or from behind one
abbrev pub args_from : Bool → List Lexeme → Option (List Value × List Lexeme)
args_from true (lexeme.Number n ∷ x) = with_arg (written.Number n) (args_from false x)
args_from true (lexeme.Sign symbol.Minus ∷ lexeme.Number n ∷ x) = with_arg (written.Opposite n) (args_from false x)
args_from true (lexeme.Word reserved.True ∷ x) = with_arg (written.Truth true) (args_from false x)
args_from true (lexeme.Word reserved.False ∷ x) = with_arg (written.Truth false) (args_from false x)
args_from true (lexeme.Name name ∷ x) = with_arg (written.Word name) (args_from false x)
args_from false (lexeme.Sign symbol.RightRound ∷ x) = Some ([], x)
args_from false (lexeme.Sign symbol.Comma ∷ x) = args_from true x
args_from at_value x = None

-- no arguments, or those in `(` and `)`
abbrev pub args_front : List Lexeme → Option (List Value × List Lexeme)
args_front (lexeme.Sign symbol.LeftRound ∷ x) = args_from true x
args_front x = Some ([], x)

abbrev pub with_entries : List ℕ → List Value → List Lexeme → Option Line
with_entries name args (lexeme.Sign symbol.Colon ∷ x) = option_map (λ entries. record { name = name; args = args; entries = entries }) (entries_of x)
with_entries name args x = None

-- the line that these tokens are
abbrev pub line_of : List Lexeme → Option Line
line_of (lexeme.Name name ∷ x) = option_and_then (λ p. with_entries name p.0 p.1) (args_front x)
line_of x = None

-- a value was taken from the front, or none stands there
abbrev pub TookValue : List Lexeme → List Lexeme → Option Value → Type 0
TookValue before after None = (value_front before ≡ None) × (after ≡ before)
TookValue before after (Some value) = value_front before ≡ Some (value, after)

-- the arguments were taken from the front, or none stand there
abbrev pub TookArgs : Option (List Value × List Lexeme) → List Lexeme → Option (List Value) → Type 0
TookArgs front after None = front ≡ None
TookArgs front after (Some args) = front ≡ Some (args, after)

-- another token stands in front, or none
abbrev pub Lacks : Lexeme → List Lexeme → Type 0
Lacks token [] = Unit {0}
Lacks token (t ∷ x) = t ≡ token → ⊥

-- an entry was taken from the front of some tokens, or they are no entries
abbrev pub TookEntry : List Lexeme → List Lexeme → Option (Option Value) → Type 0
TookEntry before after None = entries_of before ≡ None
TookEntry before after (Some entry) = (length after < length before) × (entries_of before ≡ with_entry entry (entries_of after))

-- what these lines read as
abbrev pub placed_of : List Numbered → List NumberedLine
placed_of lines = map (λ n. record { number = n.number; line = line_of n.tokens }) lines

-- the lines of tokens that say these lexemes
abbrev pub lines_by : List Token → List Lexeme → List Numbered
lines_by (token ∷ tokens) (x ∷ xs) = with_lexeme token.line x (lines_by tokens xs)
lines_by tokens xs = []

-- a row as the reader keeps it
abbrev pub row_from : RowParts → Row
row_from parts = record { item = parts.item; args = parts.args }

-- a line without fault: it names this row, and gives its cells this
pub record IsFound (world : World) (line : Option Line) (found : Found) : Type 0 where
  pub row : option_and_then (named_row world) line ≡ Some (row_from found.row)
  pub cells : known_cells world found.row.item line ≡ found.cells

-- these lines were found
abbrev pub AreFound : World → List NumberedLine → List Found → Type 0
AreFound world [] [] = Unit {0}
AreFound world (l ∷ ls) (f ∷ fs) = IsFound world l.line f × AreFound world ls fs
AreFound world ls fs = ⊥

abbrev pub has_row : List Found → Row → Bool
has_row found row = list_any (λ f. same_row (row_from f.row) row) found

-- this is the fault found, or memory was wanting
abbrev pub IsFault : Option HistFault → HistFault → Type 0
IsFault found fault.Memory = Unit {0}
IsFault found f = found ≡ Some f

abbrev pub cells_found : Option Found → List (Option ℕ)
cells_found None = []
cells_found (Some f) = f.cells

-- what the line that names this row gives its cells
abbrev pub cells_at : List Found → Row → List (Option ℕ)
cells_at found row = cells_found (find (λ f. same_row (row_from f.row) row) found)

-- the place of the line that is this row, where there is one
abbrev pub line_place : List Found → Row → Option ℕ
line_place found row = position (λ f. same_row (row_from f.row) row) found

-- at each row's number the place of its line
abbrev pub line_places : World → List Found → List (Option ℕ)
line_places world found = map (line_place found) (rows_of world)

abbrev pub joined_rows : List Found → List Row → Option ℕ → Result (List (Option ℕ)) HistFault
joined_rows found rows None = Ok (flat_map (cells_at found) rows)
joined_rows found rows (Some row) = Err (fault.MissingRow row)

-- the given history of lines without fault, or the first row without one
abbrev pub joined_lines : World → List Found → Result (List (Option ℕ)) HistFault
joined_lines world found = joined_rows found (rows_of world) (position (λ row. not (has_row found row)) (rows_of world))

-- this is the answer for these lines, or memory was wanting
abbrev pub IsJoined : World → List Found → Result (List (Option ℕ)) HistFault → Type 0
IsJoined world found (Err fault.Memory) = Unit {0}
IsJoined world found answer = joined_lines world found ≡ answer
