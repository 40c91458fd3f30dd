-- The values of domains, and their indexes.
use Rattle.std.proofs.Common.{◌≡◌, ◌≢◌, ℕ, zero, suc, ◌<◌, ℤ, pos, negsuc, ◌+ℤ◌, ◌-ℤ◌, ◌≤ℤ◌, cond, nat_lt, List, length, get_or, None, Some, slice_get, refl, sym, ap, ◌∙◌, arith, inl, inr, ⊎_elim}
use Rattle.std.specs.Ordering.{int_eq}
use Rattle.std.proofs.lemmas.Bool.{cond-true, cond-false, lt-ltb, le-ltb, false_from_ne_true}
use Rattle.std.proofs.lemmas.Bool.Decides.{Decides-int_eq}
use Rattle.std.proofs.lemmas.Int.{ints}
use Rattle.std.proofs.lemmas.List.FromFn.{length-map-range_with_len, get_or-map-range_with_len}
use Rattle.std.proofs.lemmas.List.Quantifiers.{position-Some}
use Rattle.std.proofs.lemmas.List.Sums.{position_or_len_is}
use Rattle.std.proofs.lemmas.Option.{slice_get-get_or, slice_get_within, get_or_from_slice_get}
use Rattle.trio_types.specs.declared.spec.DomainKind.{DomainKind}
use Rattle.trio_types.specs.declared.spec.DomainKind.TheVariants as kind
use Rattle.trio_types.specs.declared.spec.Domain.{Domain}
use Rattle.trio_types.specs.World.{integers, at_least_zero, values_of, values_in, size_of}
use Rattle.trio_types.specs.Values.{index_of}
use Rattle.trio_types.specs.Laws.{IsValue, number_of_index}

pub length-integers : (low : ℤ) (n : ℕ) → length (integers low n) ≡ n
unfolding integers
length-integers low n = length-map-range_with_len (λ k. low +ℤ pos k) 0 n

read : (low : ℤ) (n k : ℕ) (d : ℤ) → k < n → get_or (integers low n) k d ≡ low +ℤ pos k
unfolding integers
read low n k d inside = get_or-map-range_with_len (λ k. low +ℤ pos k) 0 n k k d inside (omega arith)

-- the k-th of numbers in a row
pub at_integers : (low : ℤ) (n k : ℕ) → k < n → slice_get (integers low n) k ≡ Some (low +ℤ pos k)
at_integers low n k inside =
    slice_get-get_or (integers low n) k (pos 0) (omega (arith, length-integers low n)) ∙ ap Some (read low n k (pos 0) inside)

pub integers_at : (low : ℤ) (n k : ℕ) (z : ℤ) → slice_get (integers low n) k ≡ Some z → (k < n) × (z ≡ low +ℤ pos k)
integers_at low n k z at =
    let inside : k < n = omega (arith, length-integers low n, slice_get_within (integers low n) k z at) in
    (inside, sym (get_or_from_slice_get (integers low n) k z (pos 0) at) ∙ read low n k (pos 0) inside)

-- the place of a number among them
pub index_of_integer : (low : ℤ) (n k : ℕ) (z : ℤ) → k < n → z ≡ low +ℤ pos k → index_of (integers low n) z ≡ Some k
unfolding index_of
index_of_integer low n k z inside is =
    let whole = length-integers low n in
    let place = position_or_len_is (int_eq z) (integers low n) k (pos 0) (omega (arith, whole))
    (λ j before. false_from_ne_true (int_eq z (get_or (integers low n) j (pos 0)))
    (λ yes. let e : z ≡ low +ℤ pos j = (Decides-int_eq z (get_or (integers low n) j (pos 0))).0 yes ∙ read low n j (pos 0) (omega arith) in
    absurd (omega (arith, ints, is, e))))
    (λ l. (Decides-int_eq z (get_or (integers low n) k (pos 0))).1 (is ∙ sym (read low n k (pos 0) inside))) in
    ap (λ p. cond (nat_lt p (length (integers low n))) (Some p) None) place
    ∙ cond-true (nat_lt k (length (integers low n))) (Some k) None (lt-ltb k (length (integers low n)) (omega (arith, whole)))

pub index_of_other : (low : ℤ) (n : ℕ) (z : ℤ) → ((k : ℕ) → k < n → z ≢ low +ℤ pos k) → index_of (integers low n) z ≡ None
unfolding index_of
index_of_other low n z other =
    let whole = length-integers low n in
    let place = position_or_len_is (int_eq z) (integers low n) n (pos 0) (omega (arith, whole))
    (λ j before. false_from_ne_true (int_eq z (get_or (integers low n) j (pos 0)))
    (λ yes. other j before ((Decides-int_eq z (get_or (integers low n) j (pos 0))).0 yes ∙ read low n j (pos 0) before)))
    (λ l. absurd (omega (arith, whole, l))) in
    ap (λ p. cond (nat_lt p (length (integers low n))) (Some p) None) place
    ∙ cond-false (nat_lt n (length (integers low n))) (Some n) None (le-ltb n (length (integers low n)) (omega (arith, whole)))

-- the first value of a domain, and how many there are
abbrev pub first_of : DomainKind → ℤ
first_of kind.Bool = pos 0
first_of (kind.Range low high) = low
first_of (kind.Words words) = pos 0

abbrev pub count_of_values : DomainKind → ℕ
count_of_values kind.Bool = 2
count_of_values (kind.Range low high) = at_least_zero ((high +ℤ pos 1) -ℤ low)
count_of_values (kind.Words words) = length words

pub values_are : (k : DomainKind) → values_of k ≡ integers (first_of k) (count_of_values k)
values_are kind.Bool = refl
values_are (kind.Range low high) = refl
values_are (kind.Words words) = refl

pub values_at : (domains : List Domain) (d : ℕ) (domain : Domain) → slice_get domains d ≡ Some domain →
    values_in domains d ≡ integers (first_of domain.kind) (count_of_values domain.kind)
values_at domains d domain at = rw at (values_are domain.kind)

pub size_at : (domains : List Domain) (d : ℕ) (domain : Domain) → slice_get domains d ≡ Some domain → size_of domains d ≡ count_of_values domain.kind
size_at domains d domain at = ap length (values_at domains d domain at) ∙ length-integers (first_of domain.kind) (count_of_values domain.kind)

-- a domain's values, by their distance from the first
not_negative : (z : ℤ) → pos 0 ≤ℤ z → z ≡ pos (at_least_zero z)
not_negative (pos n) from = refl
not_negative (negsuc n) from = absurd (omega (arith, ints, from))

above_zero : (z : ℤ) (m : ℕ) → m < at_least_zero z → z ≡ pos (at_least_zero z)
above_zero (pos n) m below = refl
above_zero (negsuc n) m below = absurd (omega arith)

pub from_first : (k : DomainKind) (z : ℤ) → IsValue k z → (m : ℕ) × (m < count_of_values k) × (z ≡ first_of k +ℤ pos m)
from_first kind.Bool z is =
    ⊎_elim (λ h. let e : z ≡ pos 0 +ℤ pos 0 = h in (0, omega arith, e)) (λ h. let e : z ≡ pos 0 +ℤ pos 1 = h in (1, omega arith, e)) is
from_first (kind.Range low high) z is =
    let from : pos 0 ≤ℤ (z -ℤ low) = omega (arith, ints, is.0) in
    let m = not_negative (z -ℤ low) from in
    let all : pos 0 ≤ℤ ((high +ℤ pos 1) -ℤ low) = omega (arith, ints, is.0, is.1) in
    let n = not_negative ((high +ℤ pos 1) -ℤ low) all in
    let at : z ≡ low +ℤ pos (at_least_zero (z -ℤ low)) = omega (arith, ints, m) in
    (at_least_zero (z -ℤ low), omega (arith, ints, m, n, is.1), at)
from_first (kind.Words words) z is = let e : z ≡ pos 0 +ℤ pos is.0 = omega (arith, ints, is.2) in (is.0, is.1, e)

pub value_at_first : (k : DomainKind) (z : ℤ) (m : ℕ) → m < count_of_values k → z ≡ first_of k +ℤ pos m → IsValue k z
value_at_first kind.Bool z zero inside at = inl at
value_at_first kind.Bool z (suc zero) inside at = inr at
value_at_first kind.Bool z (suc (suc m)) inside at = absurd (omega arith)
value_at_first (kind.Range low high) z m inside at =
    let n = above_zero ((high +ℤ pos 1) -ℤ low) m inside in
    (omega (arith, ints), omega (arith, ints, n))
value_at_first (kind.Words words) z m inside at = let e : z ≡ pos m = omega (arith, ints) in (m, inside, e)

pub number_is : (k : DomainKind) (v : ℕ) → number_of_index k v ≡ first_of k +ℤ pos v
number_is kind.Bool v = let e : pos v ≡ pos 0 +ℤ pos v = omega (arith, ints) in e
number_is (kind.Range low high) v = refl
number_is (kind.Words words) v = let e : pos v ≡ pos 0 +ℤ pos v = omega (arith, ints) in e

pub index_of_value : (domains : List Domain) (d : ℕ) (domain : Domain) (v : ℕ) (z : ℤ) → slice_get domains d ≡ Some domain → v < count_of_values domain.kind →
    z ≡ first_of domain.kind +ℤ pos v → index_of (values_in domains d) z ≡ Some v
index_of_value domains d domain v z at inside is =
    ap (λ zs. index_of zs z) (values_at domains d domain at) ∙ index_of_integer (first_of domain.kind) (count_of_values domain.kind) v z inside is

pub no_index : (domains : List Domain) (d : ℕ) (domain : Domain) (z : ℤ) → slice_get domains d ≡ Some domain →
    ((m : ℕ) → m < count_of_values domain.kind → z ≢ first_of domain.kind +ℤ pos m) → index_of (values_in domains d) z ≡ None
no_index domains d domain z at other =
    ap (λ zs. index_of zs z) (values_at domains d domain at) ∙ index_of_other (first_of domain.kind) (count_of_values domain.kind) z other

pub value_of_index : (domains : List Domain) (d : ℕ) (domain : Domain) (v : ℕ) → slice_get domains d ≡ Some domain → v < count_of_values domain.kind →
    slice_get (values_in domains d) v ≡ Some (first_of domain.kind +ℤ pos v)
value_of_index domains d domain v at inside =
    ap (λ zs. slice_get zs v) (values_at domains d domain at) ∙ at_integers (first_of domain.kind) (count_of_values domain.kind) v inside

-- an index is below the number of values
pub index_below : (values : List ℤ) (z : ℤ) (v : ℕ) → index_of values z ≡ Some v → v < length values
unfolding index_of
index_below values z v is = (position-Some (int_eq z) values v z is).0
