-- Lists that permute each other.
use Rattle.std.proofs.Common.{◌≡◌, ◌↔◌, ℕ, ◌<◌, Bool, true, false, cond, List, [], ◌∷◌, ◌++◌, reverse, length, refl, sym, ap, ◌∙◌, arith}
use Rattle.std.specs.Bool.{Decides}
use Rattle.std.specs.List.{sum_by, flat_map}
use Rattle.std.specs.List.Sorted.{IsPermutation}
use Rattle.std.proofs.lemmas.List.Sums.{sum_by-cons, sum_by-append}
use Rattle.std.proofs.lemmas.List.Sorted.{IsPermutation-refl, IsPermutation-sym, IsPermutation-trans, IsPermutation-cons, IsPermutation-middle, IsPermutation-reverse, sum_by-IsPermutation}
use Rattle.trio_lists.specs.Multisets.{Permutes}

pub permutes_itself : {A : Type 0} (xs : List A) → Permutes xs xs
permutes_itself xs = record { weights = λ h. refl }

pub permutes_back : {A : Type 0} {xs ys : List A} → Permutes xs ys → Permutes ys xs
permutes_back p = record { weights = λ h. sym (p.weights h) }

pub permutes_on : {A : Type 0} {xs ys zs : List A} → Permutes xs ys → Permutes ys zs → Permutes xs zs
permutes_on p q = record { weights = λ h. p.weights h ∙ q.weights h }

pub permutes_append : {A : Type 0} {xs ys us vs : List A} → Permutes xs ys → Permutes us vs → Permutes (xs ++ us) (ys ++ vs)
permutes_append {A} {xs} {ys} {us} {vs} p q = record {
  weights = λ h. omega (arith, sum_by-append h xs us, sum_by-append h ys vs, p.weights h, q.weights h);
}

-- the weight of lists in a row
pub sum_by-flat_map : {A B : Type 0} (h : B → ℕ) (f : A → List B) (xs : List A) → sum_by h (flat_map f xs) ≡ sum_by (λ x. sum_by h (f x)) xs
sum_by-flat_map h f [] = refl
sum_by-flat_map h f (x ∷ xs) = omega (arith, sum_by-append h (f x) (flat_map f xs), sum_by-cons (λ y. sum_by h (f y)) x xs, sum_by-flat_map h f xs)

-- so lists in the order of a permutation permute each other
pub permutes_flat : {A B : Type 0} (f : A → List B) (xs ys : List A) → Permutes xs ys → Permutes (flat_map f xs) (flat_map f ys)
permutes_flat f xs ys p = record { weights = λ h. sum_by-flat_map h f xs ∙ p.weights (λ x. sum_by h (f x)) ∙ sym (sum_by-flat_map h f ys) }

-- what `sort` ensures
pub permutes_from : {A : Type 0} (xs ys : List A) → IsPermutation xs ys → Permutes xs ys
permutes_from xs ys p = record { weights = λ h. sym (sum_by-IsPermutation h xs ys p) }

pub permutes_reverse : {A : Type 0} (xs : List A) → Permutes xs (reverse xs)
permutes_reverse xs = permutes_from xs (reverse xs) (IsPermutation-reverse xs)

-- lists that permute each other are as long
pub permutes_length : {A : Type 0} (xs ys : List A) → Permutes xs ys → length xs ≡ length ys
permutes_length xs ys p = sym (ones xs) ∙ p.weights (λ x. 1) ∙ ones ys
  where
    ones : {A : Type 0} (zs : List A) → sum_by (λ x. 1) zs ≡ length zs
    ones [] = refl
    ones (z ∷ zs) = omega (arith, sum_by-cons (λ x. 1) z zs, ones zs)

-- how often the test passes
abbrev pub times : {A : Type 0} → (A → Bool) → List A → ℕ
times p xs = sum_by (λ x. cond (p x) 1 0) xs

-- what passes at all stands at some place
pub split_at : {A : Type 0} (p : A → Bool) (xs : List A) → 0 < times p xs → (us : List A) × (x : A) × (vs : List A) × (xs ≡ us ++ x ∷ vs) × (p x ≡ true)
split_at p [] some = absurd (omega arith)
split_at p (x ∷ xs) some = here (p x) refl (λ more. split_at p xs more)
  where
    here : (b : Bool) → p x ≡ b → (0 < times p xs → (us : _) × (y : _) × (vs : _) × (xs ≡ us ++ y ∷ vs) × (p y ≡ true)) →
        (us : _) × (y : _) × (vs : _) × ((x ∷ xs) ≡ us ++ y ∷ vs) × (p y ≡ true)
    here true is rest = ([], x, xs, refl, is)
    here false is rest =
        let none : cond {A = ℕ} (p x) 1 0 ≡ 0 = ap (λ b. cond b 1 0) is in
        let r = rest (omega (arith, sum_by-cons (λ y. cond (p y) 1 0) x xs)) in
        (x ∷ r.0, r.1, r.2, ap (λ ys. x ∷ ys) r.3, r.4)

-- the head counts
pub head_counts : {A : Type 0} (p : A → Bool) (x : A) (xs : List A) → p x ≡ true → 0 < times p (x ∷ xs)
head_counts p x xs is =
    let one : cond {A = ℕ} (p x) 1 0 ≡ 1 = ap (λ b. cond b 1 0) is in omega (arith, sum_by-cons (λ y. cond (p y) 1 0) x xs)

-- an element that both have may go
pub permutes_without : {A : Type 0} (x : A) (xs us vs : List A) → Permutes (x ∷ xs) (us ++ x ∷ vs) → Permutes xs (us ++ vs)
permutes_without x xs us vs p = record {
  weights = λ h. omega (arith, p.weights h, sum_by-cons h x xs, sum_by-append h us (x ∷ vs), sum_by-cons h x vs, sum_by-append h us vs);
}

module _ {A : Type 0} (same : A → A → Bool) (tells : (x y : A) → Decides (same x y) (x ≡ y)) where
  exchanges : (xs ys : List A) → Permutes xs ys → IsPermutation xs ys
  exchanges [] [] p = IsPermutation-refl []
  exchanges [] (y ∷ ys) p = absurd (omega (arith, permutes_length [] (y ∷ ys) p))
  exchanges (x ∷ xs) ys p =
      let found = split_at (same x) ys (omega (arith, head_counts (same x) x xs ((tells x x).1 refl), p.weights (λ y. cond (same x y) 1 0))) in
      with_head found.0 found.1 found.2 ((tells x found.1).0 found.4) found.3 (λ us vs q. exchanges xs (us ++ vs) q)
    where
      with_head : (us : List A) (y : A) (vs : List A) → x ≡ y → ys ≡ us ++ y ∷ vs → ((us vs : List A) → Permutes xs (us ++ vs) → IsPermutation xs (us ++ vs)) → IsPermutation (x ∷ xs) ys
      with_head us y vs is whole fewer =
          let at : ys ≡ us ++ x ∷ vs = rw is whole in
          rw at
          (IsPermutation-trans (x ∷ xs) (x ∷ (us ++ vs)) (us ++ x ∷ vs)
          (IsPermutation-cons x xs (us ++ vs) (fewer us vs (permutes_without x xs us vs (rw at at p))))
          (IsPermutation-sym (us ++ x ∷ vs) (x ∷ (us ++ vs)) (IsPermutation-middle us x vs)))

pub permutation_law : {A : Type 0} (same : A → A → Bool) → ((x y : A) → Decides (same x y) (x ≡ y)) → (xs ys : List A) → Permutes xs ys ↔ IsPermutation xs ys
permutation_law same tells xs ys = (exchanges same tells xs ys, permutes_from xs ys)
