-- The answers to the goals of `at_distance`.
use Rattle.std.proofs.Common.{◌≡◌, pos, ◌+ℤ◌, to_z, of_z, w64, ap, ◌∙◌, arith}
use Rattle.std.proofs.lemmas.Int.{ints}
use Rattle.trio_types.specs.Truth.{is_at_distance}
use Rattle.trio_types.proofs.Bounded.{near_of}
use Rattle.history_check.proofs.Windows.{selects_of, distance_between}
use Rattle.history_check.proofs.window.at_distance.Goals as goal

pub overflow_add-target : goal.overflow_add-target
overflow_add-target c =
    let near = near_of c.in-Some.distance (c.requires.near c.in-Some.distance c.in-Some.is) in
    omega (arith, ints, near.not_far_back, near.not_far_on, c.from.ensures)

pub overflow_add-target-in-Some : goal.overflow_add-target-in-Some
overflow_add-target-in-Some c =
    let near = near_of c.in-Some.distance (c.requires.near c.in-Some.distance c.in-Some.is) in
    omega (arith, ints, near.not_far_back, near.not_far_on, c.from.ensures)

pub returns-in-Some : goal.returns-in-Some
returns-in-Some c =
    let d = c.in-Some.distance in
    let i = c.args.instant in
    let near = near_of d (c.requires.near d c.in-Some.is) in
    let target = to_z w64 (of_z w64 c.from.result) +ℤ to_z w64 (of_z w64 d) in
    let from = to_z w64 (of_z w64 target) in
    let to = to_z w64 (of_z w64 (to_z w64 (of_z w64 target) +ℤ pos 1)) in
    let from_is : from ≡ pos i +ℤ d = omega (arith, ints, near.not_far_back, near.not_far_on, c.from.ensures) in
    let to_is : to ≡ (pos i +ℤ d) +ℤ pos 1 = omega (arith, ints, near.not_far_back, near.not_far_on, c.from.ensures) in
    selects_of c.args.instants c.inside.result.from c.inside.result.to (is_at_distance i c.args.distance) (pos i +ℤ d) ((pos i +ℤ d) +ℤ pos 1) from to
    c.inside.ensures from_is to_is (λ j. ap (λ v. is_at_distance i v j) c.in-Some.is ∙ distance_between i d j)
