-- The answers to the goals of `kind_size`.
use Rattle.std.proofs.Common.{◌≡◌, pos, ◌+ℤ◌, ◌-ℤ◌, w64, to_z, of_z, nat_abs, length, sym, ap, ◌∙◌, arith}
use Rattle.std.proofs.lemmas.Int.{ints}
use Rattle.trio_types.specs.World.{integers, at_least_zero, values_of}
use Rattle.trio_types.specs.WellFormed.{values_fit}
use Rattle.trio_types.proofs.Domains.{length-integers}
use Rattle.trio_limits.proofs.DomainSizes.{some_values, range_is, castable}
use Rattle.trio_limits.proofs.sizes.kind_size.Goals as goal

pub overflow_cast-result : goal.overflow_cast-result
overflow_cast-result c =
    let r = range_is c.in-Range.low c.in-Range.high (sym (ap values_fit c.in-Range.is) ∙ c.requires) in
    castable _ (length (integers c.in-Range.low (at_least_zero ((c.in-Range.high +ℤ pos 1) -ℤ c.in-Range.low))))
    (omega (arith, ints, r.not_far_back, r.not_far_on, r.count, r.some, r.few)) r.few

pub returns-in-Bool-clause-is : goal.returns-in-Bool-clause-is
returns-in-Bool-clause-is c = sym (ap (λ k. length (values_of k)) c.in-Bool.is ∙ length-integers (pos 0) 2)

pub returns-in-Range-clause-is : goal.returns-in-Range-clause-is
returns-in-Range-clause-is c =
    let r = range_is c.in-Range.low c.in-Range.high (sym (ap values_fit c.in-Range.is) ∙ c.requires) in
    let difference = to_z w64 (of_z w64 (to_z w64 (of_z w64 c.in-Range.high) -ℤ to_z w64 (of_z w64 c.in-Range.low))) in
    let number = to_z w64 (of_z w64 (difference +ℤ pos 1)) in
    let is : number ≡ pos (length (integers c.in-Range.low (at_least_zero ((c.in-Range.high +ℤ pos 1) -ℤ c.in-Range.low)))) =
    omega (arith, ints, r.not_far_back, r.not_far_on, r.count, r.some, r.few) in
    ap nat_abs is ∙ sym (ap (λ k. length (values_of k)) c.in-Range.is)

pub returns-in-Range-clause-few : goal.returns-in-Range-clause-few
returns-in-Range-clause-few c =
    let r = range_is c.in-Range.low c.in-Range.high (sym (ap values_fit c.in-Range.is) ∙ c.requires) in
    let difference = to_z w64 (of_z w64 (to_z w64 (of_z w64 c.in-Range.high) -ℤ to_z w64 (of_z w64 c.in-Range.low))) in
    let number = to_z w64 (of_z w64 (difference +ℤ pos 1)) in
    let is : number ≡ pos (length (integers c.in-Range.low (at_least_zero ((c.in-Range.high +ℤ pos 1) -ℤ c.in-Range.low)))) =
    omega (arith, ints, r.not_far_back, r.not_far_on, r.count, r.some, r.few) in
    omega (arith, ap nat_abs is, r.few)

pub returns-in-Words-clause-is : goal.returns-in-Words-clause-is
returns-in-Words-clause-is c =
    c.len.ensures ∙ sym (ap (λ k. length (values_of k)) c.in-Words.is ∙ length-integers (pos 0) (length c.in-Words.words))

pub returns-in-Words-clause-few : goal.returns-in-Words-clause-few
returns-in-Words-clause-few c =
    omega (arith, c.len.ensures, (some_values c.args.kind.now c.requires).1, ap (λ k. length (values_of k)) c.in-Words.is, length-integers (pos 0) (length c.in-Words.words))
