-- Which list of tokens a text is: outside blanks and comments, each token is the longest that fits.
use Rattle.std.specs.Prelude.{◌≡◌, ℕ, ◌+◌, ◌<◌, true, not, ◌==◌, if◌then◌else◌, List, [], ◌∷◌, ◌++◌, length, Result, Ok, Err}
use Rattle.std.specs.List.{list_all}
use Rattle.trio_text.specs.declared.token.Token.{Token}
use Rattle.trio_text.specs.declared.token.TokenKind.{TokenKind}
use Rattle.trio_text.specs.declared.token.LexFault.{LexFault}
use Rattle.trio_text.specs.declared.token.LexFault.TheVariants.{Byte, Memory}
use Rattle.trio_text.specs.Spelling.{is_blank, Spells}

-- no token that begins with this word goes on into the rest
pub record IsLongest (word rest : List ℕ) : Type 0 where
  pub longest : (kind : TokenKind) (more after : List ℕ) → rest ≡ more ++ after → Spells kind (word ++ more) → more ≡ []

-- a comment begins with `//` and goes to the end of its line
pub record IsComment (bytes : List ℕ) : Type 0 where
  pub line : List ℕ
  pub begins : bytes ≡ 47 ∷ 47 ∷ line
  pub one_line : list_all (λ b. not (b == 10)) line ≡ true

-- the line ends here
abbrev pub EndsLine : List ℕ → Type 0
EndsLine [] = Unit {0}
EndsLine (b ∷ bytes) = b ≡ 10

-- the line behind this blank
abbrev pub line_after : ℕ → ℕ → ℕ
line_after line b = if b == 10 then line + 1 else line

-- From this place and line on, the text is blanks, comments and these tokens, and then the rest.
pub data Lexes : ℕ → ℕ → List ℕ → List Token → List ℕ → Type 0 where
  nothing : {place line : ℕ} {text : List ℕ} → Lexes place line text [] text
  blank : {place line b : ℕ} {text rest : List ℕ} {tokens : List Token} → is_blank b ≡ true →
      Lexes (place + 1) (line_after line b) text tokens rest → Lexes place line (b ∷ text) tokens rest
  comment : {place line : ℕ} {bytes text rest : List ℕ} {tokens : List Token} → IsComment bytes → EndsLine text →
      Lexes (place + length bytes) line text tokens rest → Lexes place line (bytes ++ text) tokens rest
  token : {place line : ℕ} {word text rest : List ℕ} {tokens : List Token} {kind : TokenKind} → Spells kind word → IsLongest word text →
      Lexes (place + length word) line text tokens rest →
      Lexes place line (word ++ text) (record { kind = kind; start = place; end = place + length word; line = line } ∷ tokens) rest

-- the whole text is these tokens
abbrev pub IsTokens : List ℕ → List Token → Type 0
IsTokens text tokens = Lexes 0 1 text tokens []

-- a text that is not empty and begins with no blank, no comment and no token
pub record BeginsNothing (text : List ℕ) : Type 0 where
  pub some : 0 < length text
  pub blank : (b : ℕ) (rest : List ℕ) → text ≡ b ∷ rest → is_blank b ≡ true → ⊥
  pub comment : (rest : List ℕ) → text ≡ 47 ∷ 47 ∷ rest → ⊥
  pub token : (kind : TokenKind) (word rest : List ℕ) → text ≡ word ++ rest → Spells kind word → ⊥

-- the byte at this place is the first outside blanks and comments that begins no token
pub record IsLexFault (text : List ℕ) (place : ℕ) : Type 0 where
  pub tokens : List Token
  pub rest : List ℕ
  pub before : Lexes 0 1 text tokens rest
  pub here : place + length rest ≡ length text
  pub stuck : BeginsNothing rest

-- what the reader of tokens answers: the text's only list of tokens, or the fault, and then there is no such list
abbrev pub AreTokens : List ℕ → Result (List Token) LexFault → Type 0
AreTokens text (Ok tokens) = IsTokens text tokens × ((others : List Token) → IsTokens text others → others ≡ tokens)
AreTokens text (Err (Byte place)) = IsLexFault text place × ((others : List Token) → IsTokens text others → ⊥)
AreTokens text (Err Memory) = Unit {0}
