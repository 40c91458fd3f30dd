-- The answers to the goals of `plus`.
use Rattle.std.proofs.Common.{◌≡◌, ◌+ℤ◌, to_z, of_z, w64, ap, arith}
use Rattle.std.proofs.lemmas.Int.{ints}
use Rattle.trio_types.proofs.Bounded.{near_of}
use Rattle.trio_core.specs.declared.nodes.Known.TheVariants.{One}
use Rattle.trio_core.proofs.kleene.plus.Goals as goal

pub overflow_add-result : goal.overflow_add-result
overflow_add-result c =
    let l = near_of c.in-One-One.left (c.requires.left_near c.in-One-One.left c.in-One-One.is-0) in
    let r = near_of c.in-One-One.right (c.requires.right_near c.in-One-One.right c.in-One-One.is-1) in
    omega (arith, ints, l.not_far_back, l.not_far_on, r.not_far_back, r.not_far_on)

pub returns-in-One-One : goal.returns-in-One-One
returns-in-One-One c =
    let x = c.in-One-One.left in
    let y = c.in-One-One.right in
    let l = near_of x (c.requires.left_near x c.in-One-One.is-0) in
    let r = near_of y (c.requires.right_near y c.in-One-One.is-1) in
    let sum : to_z w64 (of_z w64 (to_z w64 (of_z w64 x) +ℤ to_z w64 (of_z w64 y))) ≡ x +ℤ y = omega (arith, ints, l.not_far_back, l.not_far_on, r.not_far_back, r.not_far_on) in
    rw (c.in-One-One.is-0, c.in-One-One.is-1) (ap One sum)
