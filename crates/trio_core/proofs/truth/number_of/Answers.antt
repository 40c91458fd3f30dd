-- The answers to the goals of `number_of`.
use Rattle.std.proofs.Common.{◌≡◌, ℤ, pos, negsuc, neg_ℤ, ◌+ℤ◌, ◌-ℤ◌, ◌≤ℤ◌, nat_abs, int_le, to_z, of_z, w64, refl, ap, sym, ◌∙◌, arith}
use Rattle.std.proofs.lemmas.Bool.{and_parts}
use Rattle.std.proofs.lemmas.Int.{ints}
use Rattle.trio_types.specs.World.{at_least_zero}
use Rattle.trio_types.proofs.Domains.{length-integers}
use Rattle.trio_types.proofs.Integers.{Decides-int_le}
use Rattle.trio_core.proofs.truth.number_of.Goals as goal

positive : (z : ℤ) → pos 0 ≤ℤ z → nat_abs z ≡ at_least_zero z
positive (pos n) from = refl
positive (negsuc n) from = absurd (omega (arith, ints, from))

negative : (z : ℤ) → z ≤ℤ pos 0 → at_least_zero z ≡ 0
negative (pos n) to = omega (arith, ints, to)
negative (negsuc n) to = refl

pub returns-then-low-high : goal.returns-then-low-high
returns-then-low-high c =
    let low = c.args.low in
    let high = c.args.high in
    let l = and_parts (int_le (neg_ℤ (pos 1000000)) low) (int_le low (pos 1000000)) c.requires.low_near in
    let h = and_parts (int_le (neg_ℤ (pos 1000000)) high) (int_le high (pos 1000000)) c.requires.high_near in
    let lb = (Decides-int_le (neg_ℤ (pos 1000000)) low).0 l.0 in
    let lt = (Decides-int_le low (pos 1000000)).0 l.1 in
    let hb = (Decides-int_le (neg_ℤ (pos 1000000)) high).0 h.0 in
    let ht = (Decides-int_le high (pos 1000000)).0 h.1 in
    let whole = (high +ℤ pos 1) -ℤ low in
    let is : to_z w64 (of_z w64 (to_z w64 (of_z w64 (to_z w64 (of_z w64 high) -ℤ to_z w64 (of_z w64 low))) +ℤ pos 1)) ≡ whole = omega (arith, ints, lb, lt, hb, ht) in
    let from : pos 0 ≤ℤ whole = omega (arith, ints, lb, lt, hb, ht, c.if-low-high.true) in
    ap nat_abs is ∙ positive whole from ∙ sym (length-integers low (at_least_zero whole))

pub returns-else-low-high : goal.returns-else-low-high
returns-else-low-high c =
    let low = c.args.low in
    let high = c.args.high in
    let l = and_parts (int_le (neg_ℤ (pos 1000000)) low) (int_le low (pos 1000000)) c.requires.low_near in
    let h = and_parts (int_le (neg_ℤ (pos 1000000)) high) (int_le high (pos 1000000)) c.requires.high_near in
    let lb = (Decides-int_le (neg_ℤ (pos 1000000)) low).0 l.0 in
    let lt = (Decides-int_le low (pos 1000000)).0 l.1 in
    let hb = (Decides-int_le (neg_ℤ (pos 1000000)) high).0 h.0 in
    let ht = (Decides-int_le high (pos 1000000)).0 h.1 in
    let whole = (high +ℤ pos 1) -ℤ low in
    let to : whole ≤ℤ pos 0 = omega (arith, ints, lb, lt, hb, ht, c.if-low-high.false) in
    sym (length-integers low (at_least_zero whole) ∙ negative whole to)
