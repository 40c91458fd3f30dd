-- What stands where in a text with these tokens.
use Rattle.std.specs.Prelude.{◌≡◌, ◌⊎◌, ℕ, ◌-◌, ◌==◌, Bool, false, if◌then◌else◌, List, [], length, Option, None, Some, slice_get}
use Rattle.trio_text.specs.declared.token.Token.{Token}
use Rattle.trio_text.specs.declared.token.TokenKind.{TokenKind}
use Rattle.trio_text.specs.Lexemes.{spelling}
use Rattle.trio_text.specs.Tokens.{IsTokens}

abbrev pub end_of : Option Token → ℕ
end_of None = 0
end_of (Some token) = token.end

-- the byte behind the token that stands before the one of this number; 0 where none does
abbrev pub end_before : List Token → ℕ → ℕ
end_before tokens number = if number == 0 then 0 else end_of (slice_get tokens (number - 1))

abbrev pub start_or : ℕ → Option Token → ℕ
start_or end None = end
start_or end (Some token) = token.start

-- the byte at which the token of this number starts; where there is no such token, the byte behind the last one
abbrev pub start_of : List Token → ℕ → ℕ
start_of tokens number = start_or (end_before tokens (length tokens)) (slice_get tokens number)

-- how a token is spelled; empty where there is none
abbrev pub word_of : List ℕ → Option Token → List ℕ
word_of text None = []
word_of text (Some token) = spelling text token

-- whether there is a token, and its kind passes the test
abbrev pub is_of : (TokenKind → Bool) → Option Token → Bool
is_of test None = false
is_of test (Some token) = test token.kind

-- the tokens of a text; none where it is no list of tokens
abbrev pub AreTokensOf : List ℕ → List Token → Type 0
AreTokensOf text tokens = IsTokens text tokens ⊎ ((tokens ≡ []) × ((others : List Token) → IsTokens text others → ⊥))
