-- The answers to the goals of `kind_bound`.
use Rattle.std.proofs.Common.{◌≡◌, pos, nat_abs, to_z, of_z, w64, max, length, map, sym, ap, ◌∙◌, arith}
use Rattle.std.proofs.lemmas.Int.{ints}
use Rattle.trio_types.specs.World.{values_of}
use Rattle.trio_types.specs.WellFormed.{values_fit}
use Rattle.trio_types.specs.Bounds.{greatest}
use Rattle.trio_types.proofs.Domains.{length-integers}
use Rattle.trio_limits.proofs.DomainSizes.{some_values, range_is, greatest_in_row, greatest_of_words, greatest_of_range}
use Rattle.trio_limits.proofs.sizes.kind_bound.Goals as goal

pub overflow_sub-result : goal.overflow_sub-result
overflow_sub-result c =
    omega (arith, c.len.ensures, (some_values c.args.kind.now c.requires).0, ap (λ k. length (values_of k)) c.in-Words.is, length-integers (pos 0) (length c.in-Words.words))

pub returns-in-Bool : goal.returns-in-Bool
returns-in-Bool c = sym (ap (λ k. greatest (map nat_abs (values_of k))) c.in-Bool.is ∙ greatest_in_row (pos 0) 1)

pub returns-in-Range : goal.returns-in-Range
returns-in-Range c =
    let r = range_is c.in-Range.low c.in-Range.high (sym (ap values_fit c.in-Range.is) ∙ c.requires) in
    let low : to_z w64 (of_z w64 c.in-Range.low) ≡ c.in-Range.low = omega (arith, ints, r.not_far_back, r.not_far_on, r.count, r.some, r.few) in
    let high : to_z w64 (of_z w64 c.in-Range.high) ≡ c.in-Range.high = omega (arith, ints, r.not_far_back, r.not_far_on, r.count, r.some, r.few) in
    rw (c.max.ensures, c.unsigned_abs.ensures.value, c.unsigned_abs-in-Range.ensures.value)
    (ap (λ z. max (nat_abs z) (nat_abs (to_z w64 (of_z w64 c.in-Range.high)))) low ∙ ap (λ z. max (nat_abs c.in-Range.low) (nat_abs z)) high
    ∙ sym (ap (λ k. greatest (map nat_abs (values_of k))) c.in-Range.is
    ∙ greatest_of_range c.in-Range.low c.in-Range.high (sym (ap values_fit c.in-Range.is) ∙ c.requires)))

pub returns-in-Words : goal.returns-in-Words
returns-in-Words c =
    rw c.len.ensures (sym (ap (λ k. greatest (map nat_abs (values_of k))) c.in-Words.is
    ∙ greatest_of_words (length c.in-Words.words) (omega (
      arith,
      (some_values c.args.kind.now c.requires).0,
      ap (λ k. length (values_of k)) c.in-Words.is,
      length-integers (pos 0) (length c.in-Words.words),
    ))))
