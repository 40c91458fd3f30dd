-- What it is to read a list of tokens by a grammar, and where a list stops to begin a text of it.
use Rattle.std.specs.Prelude.{◌≡◌, ℕ, ◌+◌, ◌<◌, ◌≤◌, List, ◌++◌, length, take}
use Rattle.trio_text.specs.declared.lexeme.Lexeme.{Lexeme}

-- which lists of tokens stand for which values
abbrev pub Language : Type 0 → Type 1
Language A = List Lexeme → A → Type 0

-- the tokens are the front of a text
abbrev pub Begins : {A : Type 0} → Language A → List Lexeme → Type 0
Begins {A} P tokens = (more : List Lexeme) × (v : A) × P (tokens ++ more) v

-- the tokens have this value and no other
pub record IsReading {A : Type 0} (P : Language A) (tokens : List Lexeme) (v : A) : Type 0 where
  pub reading : P tokens v
  pub only : (w : A) → P tokens w → w ≡ v

-- The token at this place is the first such that no text begins with the tokens up to and including it;
-- the number of tokens stands for the end, where the text stops too early.
pub record IsSyntaxFault {A : Type 0} (P : Language A) (tokens : List Lexeme) (place : ℕ) : Type 0 where
  pub within : place ≤ length tokens
  pub before : Begins P (take place tokens)
  pub here : place < length tokens → Begins P (take (place + 1) tokens) → ⊥
  pub end : place ≡ length tokens → (v : A) → P tokens v → ⊥
