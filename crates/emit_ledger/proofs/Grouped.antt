-- Sums over lists that are made from lists.
use Rattle.std.proofs.Common.{◌≡◌, ℕ, zero, suc, ◌+◌, ◌-◌, List, [], ◌∷◌, ◌++◌, Some, map, take, length, slice_get, refl, ap, arith}
use Rattle.std.specs.List.{sum_by, flat_map}
use Rattle.std.proofs.lemmas.List.Sums.{sum_by-cons, sum_by-append}
use Rattle.std.proofs.lemmas.Option.{none-some, same_Some, slice_get_within}
use Rattle.trio_lists.proofs.Permuted.{sum_by-flat_map}

pub sum_by-map : {A B : Type 0} (h : B → ℕ) (f : A → B) (xs : List A) → sum_by h (map f xs) ≡ sum_by (λ x. h (f x)) xs
sum_by-map h f [] = refl
sum_by-map h f (x ∷ xs) = omega (arith, sum_by-cons h (f x) (map f xs), sum_by-cons (λ y. h (f y)) x xs, sum_by-map h f xs)

-- the weight of what two lists stand for, one after the other
pub sum_by-flat_map_append : {A B : Type 0} (h : B → ℕ) (f : A → List B) (xs ys : List A) →
    sum_by h (flat_map f (xs ++ ys)) ≡ sum_by h (flat_map f xs) + sum_by h (flat_map f ys)
sum_by-flat_map_append h f xs ys =
    omega (arith, sum_by-flat_map h f (xs ++ ys), sum_by-append (λ x. sum_by h (f x)) xs ys, sum_by-flat_map h f xs, sum_by-flat_map h f ys)

-- the weight of what one more stands for
pub sum_by-flat_map_push : {A B : Type 0} (h : B → ℕ) (f : A → List B) (xs : List A) (x : A) →
    sum_by h (flat_map f (xs ++ x ∷ [])) ≡ sum_by h (flat_map f xs) + sum_by h (f x)
sum_by-flat_map_push h f xs x = omega (arith, sum_by-flat_map_append h f xs (x ∷ []), sum_by-append h (f x) [])

apart_at : {A : Type 0} (xs : List A) (place : ℕ) (x : A) → slice_get xs place ≡ Some x → place + 1 ≡ length xs → xs ≡ take place xs ++ x ∷ []
apart_at [] place x at end = absurd (none-some x at)
apart_at (y ∷ []) zero x at end = ap (λ z. z ∷ []) (same_Some y x at)
apart_at (y ∷ z ∷ zs) zero x at end = absurd (omega (arith, end))
apart_at (y ∷ ys) (suc place) x at end = ap (λ zs. y ∷ zs) (apart_at ys place x at (omega (arith, end)))

-- a list is what stands before its last element, and that one
pub last_apart : {A : Type 0} (xs : List A) (x : A) → slice_get xs (length xs - 1) ≡ Some x → xs ≡ take (length xs - 1) xs ++ x ∷ []
last_apart xs x at = apart_at xs (length xs - 1) x at (omega (arith, slice_get_within xs (length xs - 1) x at))
