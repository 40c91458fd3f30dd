-- What is said of a place in a text.
use Rattle.std.specs.Prelude.{◌≡◌, ℕ, List, ◌++◌, codes}
use Rattle.explain_answers.specs.Excerpt.{place_words, excerpt}

-- the place, a sentence, and the line with a mark under the place
abbrev pub said_at : List ℕ → List ℕ → ℕ → List ℕ → List ℕ
said_at file text byte sentence = place_words file text byte ++ sentence ++ codes "\n" ++ excerpt text byte

-- these words begin so
pub record BeginsWith (front words : List ℕ) : Type 0 where
  pub rest : List ℕ
  pub is : words ≡ front ++ rest

-- the place is said of with some sentence of this kind
pub record SaysAt (file text : List ℕ) (byte : ℕ) (is_sentence : List ℕ → Type 0) (words : List ℕ) : Type 0 where
  pub sentence : List ℕ
  pub fits : is_sentence sentence
  pub is : words ≡ said_at file text byte sentence
