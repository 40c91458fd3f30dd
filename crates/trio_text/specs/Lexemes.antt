-- What the tokens of a text say.
use Rattle.std.specs.Prelude.{ℕ, ◌+◌, ◌-◌, ◌*◌, min, Bool, true, List, take, drop, map, fold}
use Rattle.trio_base.specs.declared.limits.TheConstants.{GREATEST_NUMBER}
use Rattle.trio_text.specs.declared.token.Token.{Token}
use Rattle.trio_text.specs.declared.token.TokenKind.{TokenKind}
use Rattle.trio_text.specs.declared.token.TokenKind.TheVariants as kind
use Rattle.trio_text.specs.declared.lexeme.Lexeme.{Lexeme}
use Rattle.trio_text.specs.declared.lexeme.Lexeme.TheVariants as lexeme
use Rattle.trio_text.specs.Spelling.{is_name}

-- the bytes of a token
abbrev pub spelling : List ℕ → Token → List ℕ
spelling text token = take (token.end - token.start) (drop token.start text)

-- the number that digits write
abbrev pub number_of : List ℕ → ℕ
number_of digits = fold (λ n b. 10 * n + (b - 48)) 0 digits

-- what a token of this kind and spelling says; the numbers above the greatest that a text may hold are told apart from no other
abbrev pub lexeme_of_kind : TokenKind → List ℕ → Lexeme
lexeme_of_kind kind.Name word = lexeme.Name word
lexeme_of_kind kind.Number word = lexeme.Number (min (number_of word) (GREATEST_NUMBER + 1))
lexeme_of_kind (kind.Word r) word = lexeme.Word r
lexeme_of_kind (kind.Sign s) word = lexeme.Sign s

abbrev pub lexeme_of : List ℕ → Token → Lexeme
lexeme_of text token = lexeme_of_kind token.kind (spelling text token)

abbrev pub lexemes_of : List ℕ → List Token → List Lexeme
lexemes_of text tokens = map (lexeme_of text) tokens

-- a lexeme that is no name, or whose bytes are a name
abbrev pub names_a_name : Lexeme → Bool
names_a_name (lexeme.Name name) = is_name name
names_a_name (lexeme.Number n) = true
names_a_name (lexeme.Word r) = true
names_a_name (lexeme.Sign s) = true
