-- The lines of a history text that have tokens, and what they read as.
use Rattle.std.specs.Prelude.{◌≡◌, ℕ, ◌==◌, if◌then◌else◌, List, [], ◌∷◌, Option}
use Rattle.trio_text.specs.declared.token.Token.{Token}
use Rattle.trio_text.specs.declared.lexeme.Lexeme.{Lexeme}
use Rattle.trio_text.specs.Lexemes.{lexeme_of}
use Rattle.history_table.specs.declared.line.Line.{Line}
use Rattle.history_table.specs.Spelled.{ReadsLine}

-- a line that has tokens: its number, from 1, and what the tokens say
pub record Numbered : Type 0 where
  pub number : ℕ
  pub tokens : List Lexeme

-- a lexeme before the lines that follow it: on the first of them, or on a line of its own
abbrev pub with_lexeme : ℕ → Lexeme → List Numbered → List Numbered
with_lexeme number x [] = record { number = number; tokens = x ∷ [] } ∷ []
with_lexeme number x (line ∷ lines) =
    if line.number == number
    then record { number = line.number; tokens = x ∷ line.tokens } ∷ lines
    else record { number = number; tokens = x ∷ [] } ∷ line ∷ lines

-- the lines that have tokens, in order
abbrev pub lines_of : List ℕ → List Token → List Numbered
lines_of text [] = []
lines_of text (token ∷ tokens) = with_lexeme token.line (lexeme_of text token) (lines_of text tokens)

-- a line by its number, where it is one
pub record NumberedLine : Type 0 where
  pub number : ℕ
  pub line : Option Line

-- the lines read as these
abbrev pub AreRead : List Numbered → List NumberedLine → Type 0
AreRead [] [] = Unit {0}
AreRead (n ∷ ns) (l ∷ ls) = (l.number ≡ n.number) × ReadsLine n.tokens l.line × AreRead ns ls
AreRead ns ls = ⊥
