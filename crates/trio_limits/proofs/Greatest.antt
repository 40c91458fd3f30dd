-- The greatest of numbers, their sum, and the brackets round them, with one more behind.
use Rattle.std.proofs.Common.{◌≡◌, ℕ, ◌+◌, max, sum, List, [], ◌∷◌, ◌++◌, map, take, length, get_or, ◌<◌, sym, ap, ◌∙◌, arith}
use Rattle.std.proofs.lemmas.List.Sums.{sum_by-append, sum_by-cons}
use Rattle.std.proofs.lemmas.List.{take_more, map-append}
use Rattle.trio_types.specs.Bounds.{greatest}
use Rattle.trio_types.specs.Nest.{in_brackets}

pub greatest-last : (xs : List ℕ) (x : ℕ) → greatest (xs ++ x ∷ []) ≡ max (greatest xs) x
greatest-last [] x = omega arith
greatest-last (y ∷ ys) x = omega (arith, greatest-last ys x)

pub sum-last : (xs : List ℕ) (x : ℕ) → sum (xs ++ x ∷ []) ≡ sum xs + x
sum-last xs x = sum_by-append (λ y. y) xs (x ∷ []) ∙ ap (λ n. sum xs + n) (sum_by-cons (λ y. y) x [] ∙ omega arith)

pub in_brackets-last : (xs : List ℕ) (x : ℕ) → in_brackets (xs ++ x ∷ []) ≡ max (in_brackets xs) (x + 1)
in_brackets-last [] x = omega arith
in_brackets-last (y ∷ ys) x = omega (arith, greatest-last (y ∷ ys) x)

-- one more number, in a loop over the things that have them
pub mapped_next : {A : Type 0} (f : A → ℕ) (xs : List A) (i : ℕ) (x : A) → i < length xs → x ≡ get_or xs i x →
    map f (take (i + 1) xs) ≡ map f (take i xs) ++ f x ∷ []
mapped_next f xs i x below is =
    ap (map f) (take_more xs i x below ∙ ap (λ y. take i xs ++ y ∷ []) (sym is)) ∙ map-append f (take i xs) (x ∷ [])
