-- The answers to the goals of `value_at`.
use Rattle.std.proofs.Common.{◌≡◌, pos, ◌+ℤ◌, Some, to_z, of_z, w64, ap, ◌∙◌, arith}
use Rattle.std.proofs.lemmas.Int.{ints}
use Rattle.trio_types.specs.Declarations.{declared_parts}
use Rattle.trio_types.proofs.Lists.{get_within}
use Rattle.trio_types.proofs.Specs.{declared_formed, first_fits, value_from_first}
use Rattle.trio_types.proofs.CellNumbers.{small_size}
use Rattle.trio_types.proofs.spec.Declarations.value_at.Goals as goal

pub overflow_add-result : goal.overflow_add-result
overflow_add-result c =
    let p = declared_parts c.args.self in
    let domain = get_within p.domains c.args.domain c.requires.domain_in in
    let near = first_fits p (declared_formed c.args.self) c.args.domain domain.0 domain.1 c.first_value.result c.first_value.ensures in
    let small = small_size p (declared_formed c.args.self) c.args.domain c.requires.domain_in in
    omega (arith, ints, near.not_far_back, near.not_far_on, small, c.requires.index_in)

pub returns : goal.returns
returns c =
    let p = declared_parts c.args.self in
    let domain = get_within p.domains c.args.domain c.requires.domain_in in
    let near = first_fits p (declared_formed c.args.self) c.args.domain domain.0 domain.1 c.first_value.result c.first_value.ensures in
    let small = small_size p (declared_formed c.args.self) c.args.domain c.requires.domain_in in
    let sum = to_z w64 (of_z w64 (to_z w64 (of_z w64 c.first_value.result) +ℤ to_z w64 (of_z w64 c.from.result))) in
    let is : c.first_value.result +ℤ pos c.args.index ≡ sum = omega (arith, ints, near.not_far_back, near.not_far_on, small, c.requires.index_in) in
    value_from_first p (declared_formed c.args.self) c.args.domain c.requires.domain_in c.args.index c.requires.index_in c.first_value.result c.first_value.ensures ∙ ap Some is
