-- What reading goes by: the longest token at the front of a text, and what a part of a text that was read says of the whole.
use Rattle.std.specs.Prelude.{◌≡◌, ℕ, ◌+◌, ◌≤◌, Bool, true, false, ◌&&◌, nat_eq, List, [], ◌∷◌, ◌++◌, length, take, drop, Option}
use Rattle.std.specs.List.{list_all, find, starts_with}
use Rattle.std.specs.Str.{bytes_eq}
use Rattle.trio_text.specs.declared.token.Reserved.{Reserved}
use Rattle.trio_text.specs.declared.token.Symbol.{Symbol}
use Rattle.trio_text.specs.declared.spelling.TheConstants.{RESERVED, SYMBOLS}
use Rattle.trio_text.specs.declared.token.Token.{Token}
use Rattle.trio_text.specs.declared.token.TokenKind.{TokenKind}
use Rattle.trio_text.specs.Spelling.{is_letter, is_name_byte, is_blank, word_text, symbol_text, Spells}
use Rattle.trio_text.specs.Tokens.{IsLongest, Lexes}

-- a letter, then letters, digits and `_`: a name or a reserved word
abbrev pub is_word : List ℕ → Bool
is_word [] = false
is_word (b ∷ bs) = is_letter b && list_all is_name_byte bs

-- the reserved word that is spelled so
abbrev pub reserved_of : List ℕ → Option Reserved
reserved_of word = find (λ r. bytes_eq word (word_text r)) RESERVED

-- the longest symbol with which the text begins: the table has the longer ones first
abbrev pub symbol_of : List ℕ → Option Symbol
symbol_of text = find (λ s. starts_with nat_eq text (symbol_text s)) SYMBOLS

-- the first n bytes are a token of this kind, the longest that fits
pub record IsFront (text : List ℕ) (kind : TokenKind) (n : ℕ) : Type 0 where
  pub within : n ≤ length text
  pub spells : Spells kind (take n text)
  pub longest : IsLongest (take n text) (drop n text)

-- no token stands at the front
pub record BeginsNoToken (text : List ℕ) : Type 0 where
  pub token : (kind : TokenKind) (word rest : List ℕ) → text ≡ word ++ rest → Spells kind word → ⊥

-- neither a blank nor a comment stands at the front
pub record BeginsNoBlank (text : List ℕ) : Type 0 where
  pub blank : (b : ℕ) (rest : List ℕ) → text ≡ b ∷ rest → is_blank b ≡ true → ⊥
  pub comment : (rest : List ℕ) → text ≡ 47 ∷ 47 ∷ rest → ⊥

-- Between one place of a text and a later one stand these tokens, and whatever tokens the text is, it begins with these.
pub record ReadsTokens (place line : ℕ) (text : List ℕ) (tokens : List Token) (at at_line : ℕ) (rest : List ℕ) : Type 0 where
  pub into : (more : List Token) (end : List ℕ) → Lexes at at_line rest more end → Lexes place line text (tokens ++ more) end
  pub only : (others : List Token) → Lexes place line text others [] → (more : List Token) × Lexes at at_line rest more [] × (others ≡ tokens ++ more)
  pub here : at + length rest ≡ place + length text
