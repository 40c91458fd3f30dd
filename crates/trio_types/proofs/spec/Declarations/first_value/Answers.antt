-- The answers to the goals of `first_value`.
use Rattle.std.proofs.Common.{◌≡◌, Some, to_z, of_z, w64, ap, ◌∙◌, arith}
use Rattle.std.proofs.lemmas.Int.{ints}
use Rattle.trio_types.specs.Declarations.{declared_parts}
use Rattle.trio_types.proofs.Domains.{first_of}
use Rattle.trio_types.proofs.Specs.{declared_formed, first_at_zero, range_fits}
use Rattle.trio_types.proofs.spec.Declarations.first_value.Goals as goal

pub returns-in-Bool : goal.returns-in-Bool
returns-in-Bool c = first_at_zero (declared_parts c.args.self) (declared_formed c.args.self) c.args.domain c.get.result.now c.get.ensures ∙ ap (λ k. Some (first_of k)) c.in-Bool.is

pub returns-in-Range : goal.returns-in-Range
returns-in-Range c =
    let r = range_fits (declared_parts c.args.self) (declared_formed c.args.self) c.args.domain c.get.result.now c.get.ensures c.in-Range.low c.in-Range.field-1 c.in-Range.is in
    let passed : c.in-Range.low ≡ to_z w64 (of_z w64 c.in-Range.low) = omega (arith, ints, r.not_far_back, r.not_far_on, r.number, r.some) in
    first_at_zero (declared_parts c.args.self) (declared_formed c.args.self) c.args.domain c.get.result.now c.get.ensures ∙ ap (λ k. Some (first_of k)) c.in-Range.is ∙ ap Some passed

pub returns-in-Words : goal.returns-in-Words
returns-in-Words c = first_at_zero (declared_parts c.args.self) (declared_formed c.args.self) c.args.domain c.get.result.now c.get.ensures ∙ ap (λ k. Some (first_of k)) c.in-Words.is
