-- Texts that close each bracket that they open, and the most brackets that are open in them.
use Rattle.std.proofs.Common.{◌≡◌, ℕ, zero, suc, ◌+◌, ◌-◌, ◌≤◌, max, Bool, true, false, if◌then◌else◌, List, [], ◌∷◌, ◌++◌, length, map, take, fold, refl, ap, ◌∙◌, arith}
use Rattle.std.specs.List.{list_all, flat_map, range_with_len}
use Rattle.std.proofs.lemmas.Bool.{and_parts, false≢true}
use Rattle.std.proofs.lemmas.Grind.{flat_map-append}
use Rattle.std.proofs.lemmas.List.Sums.{fold-append}
use Rattle.trio_text.specs.declared.lexeme.Lexeme.{Lexeme}
use Rattle.trio_text.specs.declared.lexeme.Lexeme.TheVariants as lexeme
use Rattle.trio_text.specs.declared.token.Symbol.TheVariants as symbol
use Rattle.trio_syntax.specs.Depth.{open_after, open_behind}
use Rattle.trio_types.specs.Bounds.{greatest}
use Rattle.trio_types.specs.Nest.{in_brackets}
use Rattle.trio_types.proofs.Lists.{map_same}
use Rattle.trio_print.specs.Pieces.{Piece, token, blank, line_end, lexemes_in}
use Rattle.trio_print.specs.Canonical.{in_round, in_square, joined_pieces, comma, listed_pieces}
use Rattle.trio_canonical.specs.Brackets.{most_open}

-- the most that are open before, at or behind these tokens, where so many are open before them
pub peak : ℕ → List Lexeme → ℕ
peak a [] = a
peak a (t ∷ ts) = max a (peak (open_after a t) ts)

peak_above : (a : ℕ) (ts : List Lexeme) → a ≤ peak a ts
unfolding peak
peak_above a [] = omega arith
peak_above a (t ∷ ts) = omega arith

peak-append : (a : ℕ) (xs ys : List Lexeme) → peak a (xs ++ ys) ≡ max (peak a xs) (peak (fold open_after a xs) ys)
unfolding peak
peak-append a [] ys = omega (arith, peak_above a ys)
peak-append a (x ∷ xs) ys = omega (arith, peak-append (open_after a x) xs ys)

-- no more are open behind any of them
peak_at : (a : ℕ) (ts : List Lexeme) (j : ℕ) → fold open_after a (take j ts) ≤ peak a ts
unfolding peak
peak_at a ts zero = peak_above a ts
peak_at a [] (suc j) = omega arith
peak_at a (t ∷ ts) (suc j) = omega (arith, peak_at (open_after a t) ts j)

range_next : (f : ℕ → ℕ) (a n : ℕ) → map f (range_with_len (a + 1) n) ≡ map (λ k. f (k + 1)) (range_with_len a n)
range_next f a zero = refl
range_next f a (suc n) = ap (λ ns. f (a + 1) ∷ ns) (range_next f (a + 1) n)

abbrev opened : ℕ → List Lexeme → List ℕ
opened a ts = map (λ k. fold open_after a (take (k + 1) ts)) (range_with_len 0 (length ts))

opened_next : (a : ℕ) (t : Lexeme) (ts : List Lexeme) → opened a (t ∷ ts) ≡ open_after a t ∷ opened (open_after a t) ts
opened_next a t ts =
    let f : ℕ → ℕ = λ k. fold open_after a (take (k + 1) (t ∷ ts)) in
    let next : (k : ℕ) → k + 1 + 1 ≡ suc (k + 1) = λ k. omega arith in
    ap (λ ns. open_after a t ∷ ns) (range_next f 0 (length ts)
    ∙ map_same (λ k. f (k + 1)) (λ k. fold open_after (open_after a t) (take (k + 1) ts)) (λ k. ap (λ m. fold open_after a (take m (t ∷ ts))) (next k)) (range_with_len 0 (length ts)))

peak_greatest : (a : ℕ) (ts : List Lexeme) → max a (greatest (opened a ts)) ≡ peak a ts
unfolding peak
peak_greatest a [] = omega arith
peak_greatest a (t ∷ ts) = omega (arith, ap greatest (opened_next a t ts), peak_greatest (open_after a t) ts)

most_open_is : (ts : List Lexeme) → most_open ts ≡ peak 0 ts
unfolding open_behind
most_open_is ts = omega (arith, peak_greatest 0 ts)

-- a text that closes each bracket that it opens, and has n open at most
pub record Nests (text : List Piece) (n : ℕ) : Type 0 where
  pub closed : (a : ℕ) → fold open_after a (lexemes_in text) ≡ a
  pub most : (a : ℕ) → peak a (lexemes_in text) ≡ a + n

pub nest_is_most : (text : List Piece) (n : ℕ) → Nests text n → most_open (lexemes_in text) ≡ n
nest_is_most text n nests = omega (arith, most_open_is (lexemes_in text), nests.most 0)

pub none_above : (text : List Piece) (n : ℕ) → Nests text n → (k : ℕ) → open_behind (take k (lexemes_in text)) ≤ n
unfolding open_behind
none_above text n nests k = omega (arith, peak_at 0 (lexemes_in text) k, nests.most 0)

lexemes_both : (x y : List Piece) → lexemes_in (x ++ y) ≡ lexemes_in x ++ lexemes_in y
lexemes_both x y = flat_map-append _ x y

pub as_many : {x : List Piece} {m n : ℕ} → m ≡ n → Nests x m → Nests x n
as_many {m = m} same nests = record { closed = nests.closed; most = λ a. nests.most a ∙ ap (λ k. a + k) same }

pub empty : Nests [] 0
unfolding peak
empty = record { closed = λ a. refl; most = λ a. omega arith }

pub both : {x y : List Piece} {m n : ℕ} → Nests x m → Nests y n → Nests (x ++ y) (max m n)
both {x = x} {y = y} {m = m} {n = n} first second = record {
  closed = λ a. ap (fold open_after a) (lexemes_both x y) ∙ fold-append open_after a (lexemes_in x) (lexemes_in y)
      ∙ ap (λ b. fold open_after b (lexemes_in y)) (first.closed a) ∙ second.closed a;
  most = λ a.
      let whole : peak a (lexemes_in (x ++ y)) ≡ max (peak a (lexemes_in x)) (peak (fold open_after a (lexemes_in x)) (lexemes_in y)) =
      ap (peak a) (lexemes_both x y) ∙ peak-append a (lexemes_in x) (lexemes_in y) in
      let rest : peak (fold open_after a (lexemes_in x)) (lexemes_in y) ≡ peak a (lexemes_in y) = ap (λ b. peak b (lexemes_in y)) (first.closed a) in
      omega (arith, whole, rest, first.most a, second.most a);
}

pub before : {x y : List Piece} {n : ℕ} → Nests x 0 → Nests y n → Nests (x ++ y) n
before first second = as_many (omega arith) (both first second)

pub behind : {x y : List Piece} {n : ℕ} → Nests x n → Nests y 0 → Nests (x ++ y) n
behind first second = as_many (omega arith) (both first second)

pub either : {x y : List Piece} {n : ℕ} (b : Bool) → Nests x n → Nests y n → Nests (if b then x else y) n
either true first second = first
either false first second = second

-- between a token that opens one and a token that closes one
enclosed : (l r : Lexeme) → ((a : ℕ) → open_after a l ≡ a + 1) → ((a : ℕ) → open_after a r ≡ a - 1) → (x : List Piece) (n : ℕ) → Nests x n →
    Nests (token l ∷ (x ++ token r ∷ [])) (1 + n)
unfolding peak
enclosed l r opens closes x n nests = record {
  closed = λ a.
      ap (fold open_after (open_after a l)) (lexemes_both x (token r ∷ []))
      ∙ fold-append open_after (open_after a l) (lexemes_in x) (r ∷ [])
      ∙ ap (λ b. open_after b r) (nests.closed (open_after a l)) ∙ closes (open_after a l) ∙ ap (λ b. b - 1) (opens a) ∙ omega arith;
  most = λ a.
      let b : ℕ = open_after a l in
      let parts : peak b (lexemes_in (x ++ token r ∷ [])) ≡ max (peak b (lexemes_in x)) (peak (fold open_after b (lexemes_in x)) (r ∷ [])) =
      ap (peak b) (lexemes_both x (token r ∷ [])) ∙ peak-append b (lexemes_in x) (r ∷ []) in
      let last : peak (fold open_after b (lexemes_in x)) (r ∷ []) ≡ max b (open_after b r) = ap (λ c. max c (open_after c r)) (nests.closed b) in
      omega (arith, parts, last, nests.most b, opens a, closes b);
}

pub round : {x : List Piece} {n : ℕ} → Nests x n → Nests (in_round x) (1 + n)
round {x = x} {n = n} nests = enclosed (lexeme.Sign symbol.LeftRound) (lexeme.Sign symbol.RightRound) (λ a. refl) (λ a. refl) x n nests

pub square : {x : List Piece} {n : ℕ} → Nests x n → Nests (in_square x) (1 + n)
square {x = x} {n = n} nests = enclosed (lexeme.Sign symbol.LeftSquare) (lexeme.Sign symbol.RightSquare) (λ a. refl) (λ a. refl) x n nests

-- pieces that are no brackets
abbrev is_no_bracket : Lexeme → Bool
is_no_bracket (lexeme.Sign symbol.LeftRound) = false
is_no_bracket (lexeme.Sign symbol.LeftSquare) = false
is_no_bracket (lexeme.Sign symbol.RightRound) = false
is_no_bracket (lexeme.Sign symbol.RightSquare) = false
is_no_bracket t = true

abbrev pub is_flat : Piece → Bool
is_flat (token t) = is_no_bracket t
is_flat blank = true
is_flat line_end = true

same_open : (a : ℕ) (t : Lexeme) → is_no_bracket t ≡ true → open_after a t ≡ a
same_open a (lexeme.Sign symbol.LeftRound) is = absurd (false≢true is)
same_open a (lexeme.Sign symbol.LeftSquare) is = absurd (false≢true is)
same_open a (lexeme.Sign symbol.RightRound) is = absurd (false≢true is)
same_open a (lexeme.Sign symbol.RightSquare) is = absurd (false≢true is)
same_open a t is = refl

flat_piece : (p : Piece) → is_flat p ≡ true → Nests (p ∷ []) 0
unfolding peak
flat_piece (token t) is = record { closed = λ a. same_open a t is; most = λ a. omega (arith, same_open a t is) }
flat_piece blank is = record { closed = λ a. refl; most = λ a. omega arith }
flat_piece line_end is = record { closed = λ a. refl; most = λ a. omega arith }

pub flat : (x : List Piece) → list_all is_flat x ≡ true → Nests x 0
flat [] all = empty
flat (p ∷ x) all = let both_flat = and_parts (is_flat p) (list_all is_flat x) all in before (flat_piece p both_flat.0) (flat x both_flat.1)

-- texts in a row
module _ {A : Type 0} (text : A → List Piece) (nest : A → ℕ) (each : (x : A) → Nests (text x) (nest x)) where
  pub in_row : (xs : List A) → Nests (flat_map text xs) (greatest (map nest xs))
  in_row [] = empty
  in_row (x ∷ xs) = both (each x) (in_row xs)

  later : (between : List Piece) → Nests between 0 → (xs : List A) → Nests (flat_map (λ y. between ++ y) (map text xs)) (greatest (map nest xs))
  later between gap [] = empty
  later between gap (x ∷ xs) = both (before gap (each x)) (later between gap xs)

  pub in_joined : (between : List Piece) → Nests between 0 → (xs : List A) → Nests (joined_pieces between (map text xs)) (greatest (map nest xs))
  in_joined between gap [] = empty
  in_joined between gap (x ∷ xs) = both (each x) (later between gap xs)

  pub in_listed : (xs : List A) → Nests (listed_pieces (map text xs)) (in_brackets (map nest xs))
  in_listed [] = empty
  in_listed (x ∷ xs) = round (in_joined comma (flat comma refl) (x ∷ xs))

pub greatest-zero : {A : Type 0} (xs : List A) → greatest (map (λ x. 0) xs) ≡ 0
greatest-zero [] = refl
greatest-zero (x ∷ xs) = omega (arith, greatest-zero xs)
