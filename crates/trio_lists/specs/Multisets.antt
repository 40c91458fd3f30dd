-- Lists as multisets.
use Rattle.std.specs.Prelude.{◌≡◌, ◌↔◌, ℕ, Bool, List}
use Rattle.std.specs.Bool.{Decides}
use Rattle.std.specs.List.{sum_by}
use Rattle.std.specs.List.Sorted.{IsPermutation}

-- lists have the same elements, each as often: every weight of elements has the same sum over both
pub record Permutes {A : Type 0} (xs ys : List A) : Type 0 where
  pub weights : (h : A → ℕ) → sum_by h xs ≡ sum_by h ys

-- where elements can be told apart, these are the lists that exchanges make of each other
abbrev pub PermutationLaw : Type 0 → Type 0
PermutationLaw A =
    (same : A → A → Bool) → ((x y : A) → Decides (same x y) (x ≡ y)) → (xs ys : List A) → Permutes xs ys ↔ IsPermutation xs ys
