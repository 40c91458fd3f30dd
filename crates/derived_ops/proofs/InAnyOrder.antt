-- What tests and the greatest say of lists does not depend on their order.
use Rattle.std.proofs.Common.{◌≡◌, ℕ, ◌≤◌, Bool, true, not, ◌&&◌, nat_le, List, [], ◌∷◌, ◌++◌, refl, sym, ap, ◌∙◌, arith}
use Rattle.std.specs.List.{list_all, flat_map}
use Rattle.std.specs.List.Sorted.{IsPermutation}
use Rattle.std.proofs.lemmas.Bool.{and_parts, and_from, le-leb, leb-true}
use Rattle.std.proofs.lemmas.List.Folds.{list_all-append}
use Rattle.std.proofs.lemmas.List.Sorted.{list_any-IsPermutation}
use Rattle.trio_types.specs.Bounds.{greatest}
use Rattle.trio_types.proofs.Lists.{all_is_not_any}

-- each element passes in any order
pub all_permuted : {X : Type 0} (p : X → Bool) (xs ys : List X) → IsPermutation xs ys → list_all p xs ≡ list_all p ys
all_permuted p xs ys order =
    all_is_not_any p xs ∙ ap not (list_any-IsPermutation (λ x. not (p x)) xs ys order) ∙ sym (all_is_not_any p ys)

all_of_flat : {X Y : Type 0} (p : Y → Bool) (f : X → List Y) (xs : List X) → list_all p (flat_map f xs) ≡ list_all (λ x. list_all p (f x)) xs
all_of_flat p f [] = refl
all_of_flat p f (x ∷ xs) = list_all-append p (f x) (flat_map f xs) ∙ ap (λ b. list_all p (f x) && b) (all_of_flat p f xs)

pub flat_permuted : {X Y : Type 0} (p : Y → Bool) (f : X → List Y) (xs ys : List X) → IsPermutation xs ys → list_all p (flat_map f xs) ≡ true → list_all p (flat_map f ys) ≡ true
flat_permuted p f xs ys order all =
    all_of_flat p f ys ∙ sym (all_permuted (λ x. list_all p (f x)) xs ys order) ∙ sym (all_of_flat p f xs) ∙ all

pub both_all : {X : Type 0} (p : X → Bool) (xs ys : List X) → list_all p xs ≡ true → list_all p ys ≡ true → list_all p (xs ++ ys) ≡ true
both_all p xs ys first second = list_all-append p xs ys ∙ and_from (list_all p xs) (list_all p ys) first second

pub all_same : {X : Type 0} (p q : X → Bool) → ((x : X) → p x ≡ q x) → (xs : List X) → list_all p xs ≡ list_all q xs
all_same p q same [] = refl
all_same p q same (x ∷ xs) = rw (same x, all_same p q same xs) refl

-- the greatest is within a limit in any order
all_within : (n : ℕ) (ms : List ℕ) → greatest ms ≤ n → list_all (λ m. nat_le m n) ms ≡ true
all_within n [] within = refl
all_within n (m ∷ ms) within =
    and_from (nat_le m n) (list_all (λ m. nat_le m n) ms) (le-leb m n (omega (arith, within))) (all_within n ms (omega (arith, within)))

greatest_within : (n : ℕ) (ms : List ℕ) → list_all (λ m. nat_le m n) ms ≡ true → greatest ms ≤ n
greatest_within n [] all = omega arith
greatest_within n (m ∷ ms) all =
    let both = and_parts (nat_le m n) (list_all (λ m. nat_le m n) ms) all in
    omega (arith, leb-true m n both.0, greatest_within n ms both.1)

pub greatest_permuted : (n : ℕ) (ms ns : List ℕ) → IsPermutation ms ns → greatest ms ≤ n → greatest ns ≤ n
greatest_permuted n ms ns order within =
    greatest_within n ns (sym (all_permuted (λ m. nat_le m n) ms ns order) ∙ all_within n ms within)
