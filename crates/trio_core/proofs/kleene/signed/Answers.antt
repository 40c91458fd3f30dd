-- The answers to the goals of `signed`.
use Rattle.std.proofs.Common.{◌≡◌, pos, neg_ℤ, ◌-ℤ◌, to_z, of_z, w64, ap, arith}
use Rattle.std.proofs.lemmas.Int.{ints}
use Rattle.trio_types.proofs.Bounded.{near_of}
use Rattle.trio_core.specs.declared.nodes.Known.TheVariants.{One}
use Rattle.trio_core.proofs.kleene.signed.Goals as goal

pub overflow_sub-result : goal.overflow_sub-result
overflow_sub-result c =
    let n = near_of c.in-One.value (c.requires c.in-One.value c.in-One.is) in
    omega (arith, ints, n.not_far_back, n.not_far_on)

pub returns-in-One : goal.returns-in-One
returns-in-One c =
    let z = c.in-One.value in
    let n = near_of z (c.requires z c.in-One.is) in
    let opposite : to_z w64 (of_z w64 (pos 0 -ℤ to_z w64 (of_z w64 z))) ≡ neg_ℤ z = omega (arith, ints, n.not_far_back, n.not_far_on) in
    rw (c.if-minus.true, c.in-One.is) (ap One opposite)
