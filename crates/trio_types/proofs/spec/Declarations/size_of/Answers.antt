-- The answers to the goals of `size_of`.
use Rattle.std.proofs.Common.{◌≡◌, ℤ, pos, ◌+ℤ◌, ◌-ℤ◌, ℕ, ◌<◌, ◌^◌, T, Fits, w32, w64, to_z, of_z, nat_abs, sym, ap, ◌∙◌, arith, rules}
use Rattle.std.proofs.lemmas.Int.{ints}
use lib.Signed.{non_neg}
use Rattle.trio_types.specs.World.{at_least_zero}
use Rattle.trio_types.specs.Declarations.{declared_parts}
use Rattle.trio_types.proofs.Domains.{size_at, count_of_values}
use Rattle.trio_types.proofs.Specs.{declared_formed, range_fits, some_value}
use Rattle.trio_types.proofs.spec.Declarations.size_of.Goals as goal

castable : (z : ℤ) (n : ℕ) → z ≡ pos n → n < 2 ^ 32 → T (non_neg z) × Fits w32 (nat_abs z)
castable z n is small = rw is (tt, search rules)

absolute : (z : ℤ) (n : ℕ) → z ≡ pos n → nat_abs z ≡ n
absolute z n is = ap nat_abs is

pub overflow_sub-result : goal.overflow_sub-result
overflow_sub-result c =
    let r = range_fits (declared_parts c.args.self) (declared_formed c.args.self) c.args.domain c.get.result.now c.get.ensures c.in-Range.low c.in-Range.high c.in-Range.is in
    omega (arith, ints, r.not_far_back, r.not_far_on, r.number, r.some, r.few)

pub overflow_add-result : goal.overflow_add-result
overflow_add-result c =
    let r = range_fits (declared_parts c.args.self) (declared_formed c.args.self) c.args.domain c.get.result.now c.get.ensures c.in-Range.low c.in-Range.high c.in-Range.is in
    omega (arith, ints, r.not_far_back, r.not_far_on, r.number, r.some, r.few)

pub overflow_cast-result : goal.overflow_cast-result
overflow_cast-result c =
    let r = range_fits (declared_parts c.args.self) (declared_formed c.args.self) c.args.domain c.get.result.now c.get.ensures c.in-Range.low c.in-Range.high c.in-Range.is in
    castable _ (at_least_zero ((c.in-Range.high +ℤ pos 1) -ℤ c.in-Range.low)) (omega (arith, ints, r.not_far_back, r.not_far_on, r.number, r.some, r.few)) (omega (arith, r.few))

pub overflow_cast-result-in-Words : goal.overflow_cast-result-in-Words
overflow_cast-result-in-Words c =
    let s = some_value (declared_parts c.args.self) (declared_formed c.args.self) c.args.domain c.get.result.now c.get.ensures in
    let whole = ap count_of_values c.in-Words.is in
    omega (arith, c.len.ensures, s.1, whole)

pub returns-in-Bool : goal.returns-in-Bool
returns-in-Bool c = sym (size_at c.args.self.domains.now c.args.domain c.get.result.now c.get.ensures ∙ ap count_of_values c.in-Bool.is)

pub returns-in-Range : goal.returns-in-Range
returns-in-Range c =
    let r = range_fits (declared_parts c.args.self) (declared_formed c.args.self) c.args.domain c.get.result.now c.get.ensures c.in-Range.low c.in-Range.high c.in-Range.is in
    let difference = to_z w64 (of_z w64 (to_z w64 (of_z w64 c.in-Range.high) -ℤ to_z w64 (of_z w64 c.in-Range.low))) in
    let number = to_z w64 (of_z w64 (difference +ℤ pos 1)) in
    let is : number ≡ pos (at_least_zero ((c.in-Range.high +ℤ pos 1) -ℤ c.in-Range.low)) = omega (arith, ints, r.not_far_back, r.not_far_on, r.number, r.some, r.few) in
    absolute number (at_least_zero ((c.in-Range.high +ℤ pos 1) -ℤ c.in-Range.low)) is
    ∙ sym (size_at c.args.self.domains.now c.args.domain c.get.result.now c.get.ensures ∙ ap count_of_values c.in-Range.is)

pub returns-in-Words : goal.returns-in-Words
returns-in-Words c = c.len.ensures ∙ sym (size_at c.args.self.domains.now c.args.domain c.get.result.now c.get.ensures ∙ ap count_of_values c.in-Words.is)
