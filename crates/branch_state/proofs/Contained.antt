-- What ranges and filtered lists contain, and what holds of all that lists contain.
use Rattle.std.proofs.Common.{◌≡◌, ℕ, ◌+◌, ◌-◌, ◌<◌, ◌≤◌, Bool, true, false, cond, List, [], ◌∷◌, filter, All, Contains, refl, ap, ◌∙◌, subst, arith}
use Rattle.std.specs.List.{range_with_len, flat_map, list_all}
use Rattle.std.proofs.Math.Logic.{⊎_elim}
use Rattle.std.proofs.lemmas.Bool.{and_from, false≢true}
use Rattle.std.proofs.lemmas.List.Elements.{All-nil, All-head, All-tail, All-append, All-filter, All-contains, All-contains_itself, filter_passes}
use Rattle.std.proofs.lemmas.List.FromFn.{length-range_with_len, get_or-range_with_len}
use Rattle.trio_types.proofs.Contained.{contains_here, contains_behind, contains_cases}

pub contains_range : (a n v : ℕ) → a ≤ v → v < a + n → Contains (range_with_len a n) v
contains_range a n v from to =
    let is : a + (v - a) ≡ v = omega arith in
    (v - a, omega (arith, length-range_with_len a n), get_or-range_with_len a n (v - a) v (omega arith) ∙ is)

pub all_range : (n : ℕ) → All (λ v. v < n) (range_with_len 0 n)
all_range n = λ k d inside. omega (arith, length-range_with_len 0 n, get_or-range_with_len 0 n k d (omega (arith, length-range_with_len 0 n)))

pub all_flat : {X Y : Type 0} (P : Y → Type 0) (f : X → List Y) (xs : List X) → All (λ x. All P (f x)) xs → All P (flat_map f xs)
all_flat P f [] each = All-nil P
all_flat P f (x ∷ xs) each =
    All-append P (f x) (flat_map f xs) (All-head (λ y. All P (f y)) x xs each) (all_flat P f xs (All-tail (λ y. All P (f y)) x xs each))

pub contains_filter : {X : Type 0} (p : X → Bool) (xs : List X) (x : X) → Contains xs x → p x ≡ true → Contains (filter p xs) x
contains_filter p [] x has passes = absurd (omega (arith, has.1))
contains_filter p (y ∷ ys) x has passes =
    ⊎_elim (λ same. here (p y) (ap p same ∙ passes) same)
    (λ behind. further (p y) (contains_filter p ys x behind passes)) (contains_cases y x ys has)
  where
    here : (b : Bool) → b ≡ true → y ≡ x → Contains (cond b (y ∷ filter p ys) (filter p ys)) x
    here true is same = subst (Contains (y ∷ filter p ys)) same (contains_here y (filter p ys))
    here false is same = absurd (false≢true is)

    further : (b : Bool) → Contains (filter p ys) x → Contains (cond b (y ∷ filter p ys) (filter p ys)) x
    further true more = contains_behind y x (filter p ys) more
    further false more = more

pub filter_contains : {X : Type 0} (p : X → Bool) (xs : List X) (x : X) → Contains (filter p xs) x → Contains xs x × (p x ≡ true)
filter_contains p xs x has = (
  All-contains (Contains xs) (filter p xs) x (All-filter p (Contains xs) xs (All-contains_itself xs)) has,
  All-contains (λ y. p y ≡ true) (filter p xs) x (filter_passes p xs) has,
)

-- what passes one test passes another
pub all_filtered : {X : Type 0} (p q : X → Bool) → ((x : X) → q x ≡ true → p x ≡ true) → (xs : List X) → list_all p (filter q xs) ≡ true
all_filtered p q follows [] = refl
all_filtered {X} p q follows (x ∷ xs) = at_head (q x) refl (all_filtered p q follows xs)
  where
    at_head : (b : Bool) → q x ≡ b → list_all p (filter q xs) ≡ true → list_all p (cond b (x ∷ filter q xs) (filter q xs)) ≡ true
    at_head true is more = and_from (p x) (list_all p (filter q xs)) (follows x is) more
    at_head false is more = more
