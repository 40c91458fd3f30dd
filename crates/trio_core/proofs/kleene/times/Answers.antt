-- The answers to the goals of `times`.
use Rattle.std.proofs.Common.{◌≡◌, ◌≤◌, pos, ◌*ℤ◌, nat_abs, to_z, of_z, w64, ap, sym, ◌∙◌, arith}
use Rattle.std.proofs.lemmas.Int.{ints}
use Rattle.trio_types.proofs.Bounded.{passed, product_fits, product_passed}
use Rattle.trio_core.specs.declared.nodes.Known.TheVariants.{One}
use Rattle.trio_core.specs.Three.{known_map}
use Rattle.trio_core.proofs.kleene.times.Goals as goal

pub overflow_mul-result : goal.overflow_mul-result
overflow_mul-result c =
    let n = c.args.number in
    let z = c.in-One.value in
    let a = to_z w64 (of_z w64 c.from.result) in
    let b = to_z w64 (of_z w64 z) in
    let a_is : a ≡ pos n = omega (arith, ints, c.from.ensures, c.ranges.number) in
    let small : nat_abs (pos n *ℤ z) ≤ 1000000000000 = c.requires.product_near (pos n *ℤ z) (ap (known_map (λ z. pos n *ℤ z)) c.in-One.is) in
    product_fits a b z n a_is (sym (passed z (c.requires.near z c.in-One.is))) small

pub returns-in-One : goal.returns-in-One
returns-in-One c =
    let n = c.args.number in
    let z = c.in-One.value in
    let a = to_z w64 (of_z w64 c.from.result) in
    let b = to_z w64 (of_z w64 z) in
    let a_is : a ≡ pos n = omega (arith, ints, c.from.ensures, c.ranges.number) in
    let small : nat_abs (pos n *ℤ z) ≤ 1000000000000 = c.requires.product_near (pos n *ℤ z) (ap (known_map (λ z. pos n *ℤ z)) c.in-One.is) in
    ap One (sym (product_passed a b z n a_is (sym (passed z (c.requires.near z c.in-One.is))) small)) ∙ sym (ap (known_map (λ z. pos n *ℤ z)) c.in-One.is)
