-- What is said of the first fault of a history's text.
use Rattle.std.specs.Prelude.{◌≡◌, ℕ, ◌+◌, ◌≤◌, nat_lt, if◌then◌else◌, List, ◌++◌, Option, None, Some, slice_get, codes}
use Rattle.std.specs.Option.{option_and_then}
use Rattle.trio_text.specs.declared.token.Token.{Token}
use Rattle.trio_types.specs.declared.spec.Item.{Item}
use Rattle.trio_types.specs.World.{World}
use Rattle.history_table.specs.declared.fault.HistFault.{HistFault}
use Rattle.history_table.specs.declared.fault.HistFault.TheVariants as fault
use Rattle.history_table.specs.Printed.{name_of_row}
use Rattle.history_table.specs.Rows.{item_named}
use Rattle.explain_answers.specs.declared.row_form.Line.{Line}
use Rattle.explain_answers.specs.Sources.{start_of, word_of}
use Rattle.explain_answers.specs.RowForm.{line_at, byte_in, value_of}
use Rattle.explain_answers.specs.Said.{said_at, SaysAt, BeginsWith}
use Rattle.explain_answers.specs.SpecWords.{byte_sentence, found_words}

-- the line on a row that no line is
abbrev pub missing_line : World → List ℕ → ℕ → List ℕ
missing_line world file row = file ++ codes ": no line is the row of `" ++ name_of_row world row ++ codes "`\n"

-- why a line is no row: the token at which it is none any more, or its end
abbrev pub no_row_cause : List ℕ → List Token → Line → ℕ → List ℕ
no_row_cause text tokens line number =
    if nat_lt number line.end then found_words text (slice_get tokens number) ++ codes " cannot stand here" else codes "the line ends too early"

-- the sentence on a line that is no row
abbrev pub no_row_sentence : List ℕ → List Token → Line → ℕ → List ℕ
no_row_sentence text tokens line number =
    no_row_cause text tokens line number
    ++ codes "; a row is an item, arguments in `(` and `)` if it has any, `:`, and a value for each instant"

-- a line is no row, which is said of some token of it, or of its end
pub record SaysNoRow (file text : List ℕ) (tokens : List Token) (line : Line) (words : List ℕ) : Type 0 where
  pub number : ℕ
  pub from : line.first ≤ number
  pub is : words ≡ said_at file text (byte_in tokens line number) (no_row_sentence text tokens line number)

-- the item of this name
abbrev pub item_of : World → List ℕ → Option Item
item_of world name = option_and_then (λ number. slice_get world.items number) (item_named world name)

-- a line names no row: its item there is not, or what stands behind the item's name is wrong
abbrev pub SaysUnknownRow : List ℕ → List ℕ → List Token → ℕ → Option Item → List ℕ → Type 0
SaysUnknownRow file text tokens first None words =
    words ≡ said_at file text (start_of tokens first) (codes "the specification has no item `" ++ word_of text (slice_get tokens first) ++ codes "`")
SaysUnknownRow file text tokens first (Some item) words =
    SaysAt file text (start_of tokens (first + 1)) (BeginsWith (codes "the item is declared as `" ++ item.name)) words

-- what is said of a fault of a text with these tokens; nothing is said of want of memory
abbrev pub SaysHistoryFault : World → List ℕ → List ℕ → List Token → HistFault → List ℕ → Type 0
SaysHistoryFault world file text tokens (fault.Lex byte) words = words ≡ said_at file text byte (byte_sentence text byte)
SaysHistoryFault world file text tokens (fault.Syntax number) words = SaysNoRow file text tokens (line_at tokens number) words
SaysHistoryFault world file text tokens (fault.UnknownRow number) words =
    SaysUnknownRow file text tokens (line_at tokens number).first (item_of world (word_of text (slice_get tokens (line_at tokens number).first))) words
SaysHistoryFault world file text tokens (fault.TwiceRow number) words =
    SaysAt file text (start_of tokens (line_at tokens number).first) (BeginsWith (codes "this row stands already in ")) words
SaysHistoryFault world file text tokens (fault.Length number) words =
    SaysAt file text (byte_in tokens (line_at tokens number) (value_of tokens (line_at tokens number) (world.instants + 1)))
    (BeginsWith (codes "the row has ")) words
SaysHistoryFault world file text tokens (fault.Value number column) words =
    SaysAt file text (byte_in tokens (line_at tokens number) (value_of tokens (line_at tokens number) column))
    (BeginsWith (codes "`")) words
SaysHistoryFault world file text tokens (fault.MissingRow row) words = words ≡ missing_line world file row
SaysHistoryFault world file text tokens fault.Memory words = ⊥
