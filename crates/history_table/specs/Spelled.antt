-- How a line of a history is written in tokens.
use Rattle.std.specs.Prelude.{◌≡◌, true, false, List, [], ◌∷◌, ◌++◌, Option, None, Some}
use Rattle.std.specs.List.{flat_map}
use Rattle.trio_text.specs.declared.lexeme.Lexeme.{Lexeme}
use Rattle.trio_text.specs.declared.lexeme.Lexeme.TheVariants as lexeme
use Rattle.trio_text.specs.declared.token.Reserved.TheVariants as reserved
use Rattle.trio_text.specs.declared.token.Symbol.TheVariants as symbol
use Rattle.history_table.specs.declared.line.Value.{Value}
use Rattle.history_table.specs.declared.line.Value.TheVariants as written
use Rattle.history_table.specs.declared.line.Line.{Line}

-- a number, a number behind `-`, `true`, `false` or a word
abbrev pub value_tokens : Value → List Lexeme
value_tokens (written.Number n) = lexeme.Number n ∷ []
value_tokens (written.Opposite n) = lexeme.Sign symbol.Minus ∷ lexeme.Number n ∷ []
value_tokens (written.Truth true) = lexeme.Word reserved.True ∷ []
value_tokens (written.Truth false) = lexeme.Word reserved.False ∷ []
value_tokens (written.Word name) = lexeme.Name name ∷ []

-- a value, or `?`
abbrev pub entry_tokens : Option Value → List Lexeme
entry_tokens None = lexeme.Sign symbol.Unknown ∷ []
entry_tokens (Some value) = value_tokens value

abbrev pub more_tokens : Value → List Lexeme
more_tokens value = lexeme.Sign symbol.Comma ∷ value_tokens value

-- nothing, or values in `(` and `)` with `,` between them
abbrev pub args_tokens : List Value → List Lexeme
args_tokens [] = []
args_tokens (value ∷ values) =
    lexeme.Sign symbol.LeftRound ∷ value_tokens value ++ flat_map more_tokens values ++ lexeme.Sign symbol.RightRound ∷ []

-- a name, arguments, `:` and entries
abbrev pub line_tokens : Line → List Lexeme
line_tokens line =
    lexeme.Name line.name ∷ args_tokens line.args ++ lexeme.Sign symbol.Colon ∷ flat_map entry_tokens line.entries

-- the tokens are this line, or no line
abbrev pub ReadsLine : List Lexeme → Option Line → Type 0
ReadsLine tokens (Some line) = tokens ≡ line_tokens line
ReadsLine tokens None = (line : Line) → tokens ≡ line_tokens line → ⊥
