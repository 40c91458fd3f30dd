-- Filters of a list by tests that agree, or add up, on its elements.
use Rattle.std.proofs.Common.{◌≡◌, ℕ, ◌+◌, Bool, true, false, cond, List, [], ◌∷◌, ◌++◌, filter, All, refl, sym, ap, ◌∙◌, arith}
use Rattle.std.specs.List.{sum_by}
use Rattle.std.proofs.lemmas.List.Sums.{sum_by-cons, sum_by-append}
use Rattle.std.proofs.lemmas.List.Elements.{All-head, All-tail}
use Rattle.trio_lists.specs.Multisets.{Permutes}

-- 1 for true and 0 for false
abbrev pub one_if : Bool → ℕ
one_if b = cond b 1 0

split_sum : {A : Type 0} (p q r : A → Bool) (h : A → ℕ) (xs : List A) → All (λ x. one_if (p x) ≡ one_if (q x) + one_if (r x)) xs →
    sum_by h (filter p xs) ≡ sum_by h (filter q xs) + sum_by h (filter r xs)
split_sum p q r h [] adds = refl
split_sum {A} p q r h (x ∷ xs) adds =
    at_head (p x) (q x) (r x) (All-head (λ y. one_if (p y) ≡ one_if (q y) + one_if (r y)) x xs adds) (filter p xs) (filter q xs) (filter r xs) (split_sum p q r h xs (All-tail (λ y. one_if (p y) ≡ one_if (q y) + one_if (r y)) x xs adds))
  where
    at_head : (a b c : Bool) → one_if a ≡ one_if b + one_if c → (ps qs rs : List A) → sum_by h ps ≡ sum_by h qs + sum_by h rs →
        sum_by h (cond a (x ∷ ps) ps) ≡ sum_by h (cond b (x ∷ qs) qs) + sum_by h (cond c (x ∷ rs) rs)
    at_head true true true e ps qs rs more = absurd (omega (arith, e))
    at_head true true false e ps qs rs more = omega (arith, sum_by-cons h x ps, sum_by-cons h x qs, more)
    at_head true false true e ps qs rs more = omega (arith, sum_by-cons h x ps, sum_by-cons h x rs, more)
    at_head true false false e ps qs rs more = absurd (omega (arith, e))
    at_head false true c e ps qs rs more = absurd (omega (arith, e))
    at_head false false true e ps qs rs more = absurd (omega (arith, e))
    at_head false false false e ps qs rs more = more

-- each element that passes the first test passes just one of the others, and no other element does
pub filter_split : {A : Type 0} (p q r : A → Bool) (xs : List A) → All (λ x. one_if (p x) ≡ one_if (q x) + one_if (r x)) xs →
    Permutes (filter p xs) (filter q xs ++ filter r xs)
filter_split p q r xs adds = record { weights = λ h. split_sum p q r h xs adds ∙ sym (sum_by-append h (filter q xs) (filter r xs)) }

pub filter_same : {A : Type 0} (p q : A → Bool) (xs : List A) → All (λ x. p x ≡ q x) xs → filter p xs ≡ filter q xs
filter_same p q [] agree = refl
filter_same p q (x ∷ xs) agree = rw (All-head (λ y. p y ≡ q y) x xs agree, filter_same p q xs (All-tail (λ y. p y ≡ q y) x xs agree)) refl

pub filter_none : {A : Type 0} (p : A → Bool) (xs : List A) → All (λ x. p x ≡ false) xs → filter p xs ≡ []
filter_none p [] fail = refl
filter_none p (x ∷ xs) fail = rw (All-head (λ y. p y ≡ false) x xs fail) (filter_none p xs (All-tail (λ y. p y ≡ false) x xs fail))

pub filter_every : {A : Type 0} (p : A → Bool) (xs : List A) → All (λ x. p x ≡ true) xs → filter p xs ≡ xs
filter_every p [] pass = refl
filter_every p (x ∷ xs) pass = rw (All-head (λ y. p y ≡ true) x xs pass) (ap (λ ys. x ∷ ys) (filter_every p xs (All-tail (λ y. p y ≡ true) x xs pass)))
