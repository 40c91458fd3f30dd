-- How many values a domain has, and the greatest of them.
use Rattle.std.proofs.Common.{◌≡◌, ℕ, zero, suc, ℤ, pos, negsuc, neg_ℤ, int_le, ◌&&◌, ◌+ℤ◌, ◌-ℤ◌, ◌+◌, ◌-◌, ◌≤◌, ◌≤ℤ◌, max, nat_abs, T, Fits, w64, rules, true, map, length, refl, sym, ap, ◌∙◌, arith}
use Rattle.std.specs.List.{range_with_len}
use Rattle.std.proofs.lemmas.Bool.{and_parts, ltb-true, leb-true}
use Rattle.std.proofs.lemmas.Int.{ints}
use Rattle.trio_base.specs.declared.limits.TheConstants.{MOST_VALUES, GREATEST_NUMBER}
use Rattle.trio_types.specs.declared.spec.DomainKind.{DomainKind}
use Rattle.trio_types.specs.declared.spec.DomainKind.TheVariants as kind
use Rattle.trio_types.specs.World.{integers, at_least_zero, values_of}
use Rattle.trio_types.specs.WellFormed.{is_written, values_fit}
use Rattle.trio_types.specs.Bounds.{greatest}
use lib.Signed.{non_neg}
use Rattle.trio_types.proofs.Lists.{map-map}
use Rattle.trio_types.proofs.Domains.{length-integers}
use Rattle.trio_types.proofs.Integers.{Decides-int_le}

-- a domain that fits has 1 to 64 values
pub some_values : (k : DomainKind) → values_fit k ≡ true → (1 ≤ length (values_of k)) × (length (values_of k) ≤ 64)
some_values k fit =
    let both = and_parts _ _ (and_parts _ _ fit).1 in
    (ltb-true 0 (length (values_of k)) both.0, leb-true (length (values_of k)) MOST_VALUES both.1)

-- a range
pub record Range (low high : ℤ) : Type 0 where
  pub not_far_back : negsuc 999999 ≤ℤ low
  pub not_far_on : high ≤ℤ pos 1000000
  pub count : (high +ℤ pos 1) -ℤ low ≡ pos (length (integers low (at_least_zero ((high +ℤ pos 1) -ℤ low))))
  pub some : 1 ≤ length (integers low (at_least_zero ((high +ℤ pos 1) -ℤ low)))
  pub few : length (integers low (at_least_zero ((high +ℤ pos 1) -ℤ low))) ≤ 64

positive : (z : ℤ) → 1 ≤ at_least_zero z → z ≡ pos (at_least_zero z)
positive (pos n) some = refl
positive (negsuc n) some = absurd (omega arith)

pub range_is : (low high : ℤ) → values_fit (kind.Range low high) ≡ true → Range low high
range_is low high fit =
    let written = and_parts (is_written low) (is_written high) (and_parts (is_written low && is_written high) _ fit).0 in
    let lower = and_parts (int_le (neg_ℤ (pos GREATEST_NUMBER)) low) (int_le low (pos GREATEST_NUMBER)) written.0 in
    let upper = and_parts (int_le (neg_ℤ (pos GREATEST_NUMBER)) high) (int_le high (pos GREATEST_NUMBER)) written.1 in
    let sizes = some_values (kind.Range low high) fit in
    let whole = length-integers low (at_least_zero ((high +ℤ pos 1) -ℤ low)) in
    record {
      not_far_back = (Decides-int_le (negsuc 999999) low).0 lower.0;
      not_far_on = (Decides-int_le high (pos 1000000)).0 upper.1;
      count = positive ((high +ℤ pos 1) -ℤ low) (omega (arith, whole, sizes.0)) ∙ ap pos (sym whole);
      some = sizes.0;
      few = sizes.1;
    }

-- a number between two is no greater than both
between : (x y z : ℤ) → x ≤ℤ y → y ≤ℤ z → nat_abs y ≤ max (nat_abs x) (nat_abs z)
between (pos x) (pos y) (pos z) first second = omega (arith, ints, first, second)
between (pos x) (pos y) (negsuc z) first second = omega (arith, ints, first, second)
between (pos x) (negsuc y) z first second = absurd (omega (arith, ints, first))
between (negsuc x) (pos y) (pos z) first second = omega (arith, ints, first, second)
between (negsuc x) (pos y) (negsuc z) first second = absurd (omega (arith, ints, second))
between (negsuc x) (negsuc y) z first second = omega (arith, ints, first, second)

-- the greatest of numbers in a row, by their ends
ends : (low : ℤ) (a n : ℕ) → greatest (map (λ k. nat_abs (low +ℤ pos k)) (range_with_len a (suc n))) ≡ max (nat_abs (low +ℤ pos a)) (nat_abs (low +ℤ pos (a + n)))
ends low a zero =
    let same : a + 0 ≡ a = omega arith in
    rw same (omega arith)
ends low a (suc n) =
    let same : (a + 1) + n ≡ a + suc n = omega arith in
    let rest : greatest (map (λ k. nat_abs (low +ℤ pos k)) (range_with_len (a + 1) (suc n))) ≡ max (nat_abs (low +ℤ pos (a + 1))) (nat_abs (low +ℤ pos (a + suc n))) =
    ends low (a + 1) n ∙ ap (λ m. max (nat_abs (low +ℤ pos (a + 1))) (nat_abs (low +ℤ pos m))) same in
    let middle : nat_abs (low +ℤ pos (a + 1)) ≤ max (nat_abs (low +ℤ pos a)) (nat_abs (low +ℤ pos (a + suc n))) =
    between (low +ℤ pos a) (low +ℤ pos (a + 1)) (low +ℤ pos (a + suc n)) (omega (arith, ints)) (omega (arith, ints)) in
    ap (max (nat_abs (low +ℤ pos a))) rest ∙ omega (arith, middle)

pub greatest_in_row : (low : ℤ) (n : ℕ) → greatest (map nat_abs (integers low (suc n))) ≡ max (nat_abs low) (nat_abs (low +ℤ pos n))
unfolding integers
greatest_in_row low n =
    let from : 0 + n ≡ n = omega arith in
    let start : low +ℤ pos 0 ≡ low = omega (arith, ints) in
    ap greatest (map-map nat_abs (λ k. low +ℤ pos k) (range_with_len 0 (suc n))) ∙ ends low 0 n
    ∙ ap (λ m. max (nat_abs (low +ℤ pos 0)) (nat_abs (low +ℤ pos m))) from ∙ ap (λ z. max (nat_abs z) (nat_abs (low +ℤ pos n))) start

pub castable : (z : ℤ) (n : ℕ) → z ≡ pos n → n ≤ 64 → T (non_neg z) × Fits w64 (nat_abs z)
castable z n is small = rw is (tt, search rules)

pub greatest_of_words : (n : ℕ) → 1 ≤ n → greatest (map nat_abs (integers (pos 0) n)) ≡ n - 1
greatest_of_words zero some = absurd (omega arith)
greatest_of_words (suc n) some = greatest_in_row (pos 0) n ∙ omega (arith, ap nat_abs (zero_plus n))
  where
    zero_plus : (n : ℕ) → pos 0 +ℤ pos n ≡ pos n
    zero_plus n = omega (arith, ints)

pub greatest_of_range : (low high : ℤ) → values_fit (kind.Range low high) ≡ true → greatest (map nat_abs (values_of (kind.Range low high))) ≡ max (nat_abs low) (nat_abs high)
greatest_of_range low high fit =
    let r = range_is low high fit in
    by (at_least_zero ((high +ℤ pos 1) -ℤ low)) (omega (arith, r.some, length-integers low (at_least_zero ((high +ℤ pos 1) -ℤ low))))
    (r.count ∙ ap pos (length-integers low (at_least_zero ((high +ℤ pos 1) -ℤ low))))
  where
    by : (n : ℕ) → 1 ≤ n → (high +ℤ pos 1) -ℤ low ≡ pos n → greatest (map nat_abs (integers low n)) ≡ max (nat_abs low) (nat_abs high)
    by zero some is = absurd (omega arith)
    by (suc n) some is =
        let last : low +ℤ pos n ≡ high = omega (arith, ints, is) in
        greatest_in_row low n ∙ ap (λ z. max (nat_abs low) (nat_abs z)) last
