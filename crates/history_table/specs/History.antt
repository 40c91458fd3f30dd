-- Which given history a text is, or its first fault.
use Rattle.std.specs.Prelude.{◌≡◌, ◌≢◌, ◌⊎◌, ℕ, ◌+◌, Bool, not, false, ◌==◌, if◌then◌else◌, List, [], ◌∷◌, ◌++◌, length, map, find, position, Option, None, Some, Result, Ok, Err}
use Rattle.std.specs.List.{list_any, flat_map}
use Rattle.std.specs.Option.{option_map, option_and_then}
use Rattle.trio_text.specs.declared.token.Token.{Token}
use Rattle.trio_text.specs.Tokens.{IsTokens, IsLexFault}
use Rattle.trio_types.specs.World.{World}
use Rattle.trio_types.specs.Cells.{Row, rows_of}
use Rattle.history_table.specs.declared.fault.HistFault.{HistFault}
use Rattle.history_table.specs.declared.fault.HistFault.TheVariants as fault
use Rattle.history_table.specs.declared.line.Line.{Line}
use Rattle.history_table.specs.Lines.{NumberedLine, lines_of, AreRead}
use Rattle.history_table.specs.Rows.{named_row, same_row, is_outside, known_index}

-- the first fault of a line that names this row, where earlier lines have taken these rows
abbrev pub row_fault : World → (Row → Bool) → ℕ → Line → Option Row → Option HistFault
row_fault world is_taken number line None = Some (fault.UnknownRow number)
row_fault world is_taken number line (Some row) =
    if is_taken row then Some (fault.TwiceRow number)
    else (if not (length line.entries == world.instants) then Some (fault.Length number)
    else option_map (λ column. fault.Value number (column + 1)) (position (is_outside world row.item) line.entries))

abbrev pub read_fault : World → (Row → Bool) → ℕ → Option Line → Option HistFault
read_fault world is_taken number None = Some (fault.Syntax number)
read_fault world is_taken number (Some line) = row_fault world is_taken number line (named_row world line)

abbrev pub is_named : Option Row → Row → Bool
is_named None row = false
is_named (Some other) row = same_row other row

-- the line names this row
abbrev pub names : World → Row → NumberedLine → Bool
names world row placed = is_named (option_and_then (named_row world) placed.line) row

-- some of these lines names this row
abbrev pub have_row : World → List NumberedLine → Row → Bool
have_row world lines row = list_any (names world row) lines

-- the first fault of a line behind these earlier ones
abbrev pub line_fault : World → List NumberedLine → NumberedLine → Option HistFault
line_fault world earlier placed = read_fault world (have_row world earlier) placed.number placed.line

abbrev pub first_of : Option HistFault → Option HistFault → Option HistFault
first_of None later = later
first_of (Some f) later = Some f

-- the fault of the first faulty line
unfoldable pub lines_fault : World → List NumberedLine → List NumberedLine → Option HistFault
lines_fault world earlier [] = None
lines_fault world earlier (placed ∷ lines) = first_of (line_fault world earlier placed) (lines_fault world (earlier ++ placed ∷ []) lines)

-- the first row that no line names
abbrev pub missing_row : World → List NumberedLine → Option ℕ
missing_row world lines = position (λ row. not (have_row world lines row)) (rows_of world)

-- what a line that is a row of this item gives its cells
abbrev pub known_cells : World → ℕ → Option Line → List (Option ℕ)
known_cells world item None = []
known_cells world item (Some line) = map (known_index world item) line.entries

-- what the line that names this row gives its cells
abbrev pub row_cells : World → List NumberedLine → Row → List (Option ℕ)
row_cells world lines row = known_cells world row.item (option_and_then (λ placed. placed.line) (find (names world row) lines))

-- for each row what its line gives
abbrev pub given_of : World → List NumberedLine → List (Option ℕ)
given_of world lines = flat_map (row_cells world lines) (rows_of world)

abbrev pub if_whole : World → List NumberedLine → Option ℕ → Result (List (Option ℕ)) HistFault
if_whole world lines None = Ok (given_of world lines)
if_whole world lines (Some row) = Err (fault.MissingRow row)

abbrev pub if_sound : World → List NumberedLine → Option HistFault → Result (List (Option ℕ)) HistFault
if_sound world lines None = if_whole world lines (missing_row world lines)
if_sound world lines (Some f) = Err f

-- the given history of these lines, or the first fault: that of the first faulty line, or else the first row that is missing
abbrev pub history_of : World → List NumberedLine → Result (List (Option ℕ)) HistFault
history_of world lines = if_sound world lines (lines_fault world [] lines)

-- the text's tokens, line by line, have this answer
pub record SaysHistory (world : World) (text : List ℕ) (answer : Result (List (Option ℕ)) HistFault) : Type 0 where
  pub tokens : List Token
  pub lexed : IsTokens text tokens
  pub lines : List NumberedLine
  pub read : AreRead (lines_of text tokens) lines
  pub answered : history_of world lines ≡ answer

-- the text is this given history of the specification
abbrev pub IsGivenText : World → List ℕ → List (Option ℕ) → Type 0
IsGivenText world text given = SaysHistory world text (Ok given)

-- the text has this first fault: bytes that begin no token come before all else; want of memory is no fault of a text
abbrev pub HasHistFault : World → List ℕ → HistFault → Type 0
HasHistFault world text (fault.Lex place) = IsLexFault text place
HasHistFault world text fault.Memory = ⊥
HasHistFault world text f = SaysHistory world text (Err f)

-- what the reader answers: the given history that the text is, or the text's first fault, or want of memory
abbrev pub IsHistoryAnswer : World → List ℕ → Result (List (Option ℕ)) HistFault → Type 0
IsHistoryAnswer world text (Ok given) = IsGivenText world text given
IsHistoryAnswer world text (Err fault.Memory) = Unit {0}
IsHistoryAnswer world text (Err f) = HasHistFault world text f

-- a text has one answer at most: one given history, or one fault and then no history
abbrev pub OneHistory : Type 0
OneHistory = (world : World) (text : List ℕ) (a b : Result (List (Option ℕ)) HistFault) → a ≢ Err fault.Memory → b ≢ Err fault.Memory →
    IsHistoryAnswer world text a → IsHistoryAnswer world text b → a ≡ b

-- every text is a given history of the specification, or has a fault
abbrev pub HistoryOrFault : Type 0
HistoryOrFault = (world : World) (text : List ℕ) → ((given : List (Option ℕ)) × IsGivenText world text given) ⊎ ((f : HistFault) × HasHistFault world text f)
