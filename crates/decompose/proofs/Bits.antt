-- A set, one of its members alone, and the set without it.
use Rattle.std.proofs.Common.{◌≡◌, ℕ, zero, suc, ◌+◌, ◌-◌, ◌/◌, ◌^◌, ◌<◌, ◌≤◌, Bool, true, false, ◌==◌, nat_lt, [], ◌∷◌, ◌++◌, length, Some, slice_get, refl, sym, ap, ◌∙◌, arith, pow-suc}
use Rattle.std.specs.Int.{bit_at}
use Rattle.std.specs.List.{range_with_len}
use Rattle.std.proofs.Math.Logic.{⊎_elim}
use Rattle.std.proofs.lemmas.Bool.{and_parts, and_from, ltb-true, lt-ltb, eqb-true, cases_lt}
use Rattle.std.proofs.lemmas.List.{length-append}
use Rattle.std.proofs.lemmas.Nat.Bits.{bit_at_lowest, bit_at-suc, bit_at-zero, bit_at-lt}
use Rattle.trio_types.proofs.Lists.{get_within}
use Rattle.trio_core.specs.Sets.{set_has, members, is_set}
use Rattle.trio_core.proofs.Sole.{member_in, one_bit}
use Rattle.trio_lists.proofs.Filters.{one_if, filter_split}
use Rattle.trio_lists.proofs.Permuted.{permutes_length}
use Rattle.branch_state.specs.Branches.{single_set}
use Rattle.branch_state.proofs.SetsFit.{single_is_set}

-- a number is at least the value of each of its bits
pub bit_below : (set v : ℕ) → bit_at set v ≡ 1 → 2 ^ v ≤ set
bit_below set zero one = omega (arith, one, bit_at_lowest set)
bit_below set (suc v) one = omega (arith, bit_below (set / 2) v (sym (bit_at-suc set v) ∙ one), pow-suc 2 v)

bits_split : (set v u : ℕ) → bit_at set v ≡ 1 → bit_at set u ≡ bit_at (2 ^ v) u + bit_at (set - 2 ^ v) u
bits_split set zero zero one = omega (arith, one, bit_at_lowest set, bit_at_lowest 1, bit_at_lowest (set - 1))
bits_split set zero (suc u) one =
    let half : (set - 1) / 2 ≡ set / 2 = omega (arith, one, bit_at_lowest set) in
    omega (arith, bit_at-suc set u, bit_at-suc 1 u, bit_at-zero u, bit_at-suc (set - 1) u, ap (λ n. bit_at n u) half)
bits_split set (suc v) zero one =
    omega (arith, bit_below set (suc v) one, pow-suc 2 v, bit_at_lowest set, bit_at_lowest (2 ^ suc v), bit_at_lowest (set - 2 ^ suc v))
bits_split set (suc v) (suc u) one =
    let half : (set - 2 ^ suc v) / 2 ≡ set / 2 - 2 ^ v = omega (arith, pow-suc 2 v) in
    let half_power : 2 ^ suc v / 2 ≡ 2 ^ v = omega (arith, pow-suc 2 v) in
    omega (
      arith,
      bit_at-suc set u,
      bit_at-suc (2 ^ suc v) u,
      bit_at-suc (set - 2 ^ suc v) u,
      ap (λ n. bit_at n u) half,
      ap (λ n. bit_at n u) half_power,
      bits_split (set / 2) v u (sym (bit_at-suc set v) ∙ one),
    )

one_if_bit : (b : ℕ) → b < 2 → one_if (b == 1) ≡ b
one_if_bit zero small = refl
one_if_bit (suc zero) small = refl
one_if_bit (suc (suc b)) small = absurd (omega arith)

-- each member of a set is the one, or one of the others
pub has_split : (set v u : ℕ) → set_has set v ≡ true → one_if (set_has set u) ≡ one_if (set_has (single_set v) u) + one_if (set_has (set - single_set v) u)
has_split set v u has =
    omega (
      arith,
      one_if_bit (bit_at set u) (bit_at-lt set u),
      one_if_bit (bit_at (2 ^ v) u) (bit_at-lt (2 ^ v) u),
      one_if_bit (bit_at (set - 2 ^ v) u) (bit_at-lt (set - 2 ^ v) u),
      bits_split set v u (eqb-true (bit_at set v) 1 has),
    )

-- what is left is a part of the set
pub left_has : (set v u : ℕ) → set_has set v ≡ true → set_has (set - single_set v) u ≡ true → set_has set u ≡ true
left_has set v u has left = at (set_has set u) refl
  where
    at : (b : Bool) → set_has set u ≡ b → set_has set u ≡ true
    at true is = is
    at false is =
        absurd (omega (arith, has_split set v u has, ap one_if is, ap one_if left))

-- the members of a set, without one of several
pub record Without (size set v : ℕ) : Type 0 where
  pub alone : members size (single_set v) ≡ v ∷ []
  pub others : length (members size (set - single_set v)) + 1 ≡ length (members size set)
  pub is_set_without : is_set size (set - single_set v) ≡ true

pub without : (size set v : ℕ) → is_set size set ≡ true → slice_get (members size set) 0 ≡ Some v → 2 ≤ length (members size set) → Without size set v
without size set v is first several =
    let inside = member_in size set 0 v first in
    let alone = one_bit size (single_set v) v (single_is_set size v inside.1) refl in
    let whole = permutes_length (members size set) (members size (single_set v) ++ members size (set - single_set v))
    (filter_split (set_has set) (set_has (single_set v)) (set_has (set - single_set v)) (range_with_len 0 size) (λ k d _. has_split set v _ inside.0)) in
    let others : length (members size (set - single_set v)) + 1 ≡ length (members size set) =
    omega (arith, whole, length-append (members size (single_set v)) (members size (set - single_set v)), ap length alone) in
    let both = and_parts (nat_lt 0 set) (nat_lt set (2 ^ size)) is in
    record {
      alone = alone;
      others = others;
      is_set_without = and_from (nat_lt 0 (set - 2 ^ v)) (nat_lt (set - 2 ^ v) (2 ^ size)) (lt-ltb 0 (set - 2 ^ v) (some others several)) (lt-ltb (set - 2 ^ v) (2 ^ size) (omega (arith, ltb-true set (2 ^ size) both.1)));
    }
  where
    some : length (members size (set - single_set v)) + 1 ≡ length (members size set) → 2 ≤ length (members size set) → 0 < set - 2 ^ v
    some others several =
        let left = set - 2 ^ v in
        let u = get_within (members size left) 0 (omega (arith, others, several)) in
        let one : bit_at left u.0 ≡ 1 = eqb-true (bit_at left u.0) 1 (member_in size left 0 u.0 u.1).0 in
        ⊎_elim (λ more. more)
        (λ none. let zero_left : left ≡ 0 = omega (arith, none) in absurd (omega (arith, one, ap (λ n. bit_at n u.0) zero_left, bit_at-zero u.0)))
        (cases_lt 0 left)
