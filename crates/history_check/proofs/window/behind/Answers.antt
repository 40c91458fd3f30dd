-- The answers to the goals of `behind`.
use Rattle.std.proofs.Common.{◌≡◌, pos, ◌+ℤ◌, ◌-ℤ◌, to_z, of_z, w64, ap, ◌∙◌, arith}
use Rattle.std.proofs.lemmas.Int.{ints}
use Rattle.trio_base.specs.declared.operators.Ends.TheVariants as ends
use Rattle.trio_types.specs.Truth.{is_behind}
use Rattle.trio_types.proofs.Bounded.{near_of}
use Rattle.history_check.proofs.Windows.{selects_of, behind_between, behind_from, behind_to}
use Rattle.history_check.proofs.window.behind.Goals as goal

pub overflow_sub-far : goal.overflow_sub-far
overflow_sub-far c =
    let near = near_of c.in-Some.distance (c.requires.near c.in-Some.distance c.in-Some.is) in
    omega (arith, ints, near.not_far_back, near.not_far_on, c.from-now.ensures)

pub overflow_add-far : goal.overflow_add-far
overflow_add-far c =
    let near = near_of c.in-Some.distance (c.requires.near c.in-Some.distance c.in-Some.is) in
    omega (arith, ints, near.not_far_back, near.not_far_on, c.from-now.ensures)

pub overflow_add-far-in-Ie : goal.overflow_add-far-in-Ie
overflow_add-far-in-Ie c =
    let near = near_of c.in-Some.distance (c.requires.near c.in-Some.distance c.in-Some.is) in
    omega (arith, ints, near.not_far_back, near.not_far_on, c.from-now.ensures)

pub returns-in-Bare : goal.returns-in-Bare
returns-in-Bare c =
    let d = c.in-Some.distance in
    let i = c.args.instant in
    let near = near_of d (c.requires.near d c.in-Some.is) in
    let now = to_z w64 (of_z w64 c.from-now.result) in
    let far = to_z w64 (of_z w64 (now -ℤ to_z w64 (of_z w64 d))) in
    let from = to_z w64 (of_z w64 (far +ℤ pos 1)) in
    let to = now in
    let from_is : from ≡ behind_from ends.Bare i d = omega (arith, ints, near.not_far_back, near.not_far_on, c.from-now.ensures) in
    let to_is : to ≡ behind_to ends.Bare i = omega (arith, ints, near.not_far_back, near.not_far_on, c.from-now.ensures) in
    selects_of c.args.instants c.inside.result.from c.inside.result.to (is_behind c.args.ends i c.args.distance) (behind_from ends.Bare i d) (behind_to ends.Bare i) from to
    c.inside.ensures from_is to_is (λ j. ap (λ s. is_behind s i c.args.distance j) c.in-Bare.is ∙ ap (λ v. is_behind ends.Bare i v j) c.in-Some.is ∙ behind_between ends.Bare i d j)

pub returns-in-Ii : goal.returns-in-Ii
returns-in-Ii c =
    let d = c.in-Some.distance in
    let i = c.args.instant in
    let near = near_of d (c.requires.near d c.in-Some.is) in
    let now = to_z w64 (of_z w64 c.from-now.result) in
    let far = to_z w64 (of_z w64 (now -ℤ to_z w64 (of_z w64 d))) in
    let from = far in
    let to = to_z w64 (of_z w64 (now +ℤ pos 1)) in
    let from_is : from ≡ behind_from ends.Ii i d = omega (arith, ints, near.not_far_back, near.not_far_on, c.from-now.ensures) in
    let to_is : to ≡ behind_to ends.Ii i = omega (arith, ints, near.not_far_back, near.not_far_on, c.from-now.ensures) in
    selects_of c.args.instants c.inside-in-Ii.result.from c.inside-in-Ii.result.to (is_behind c.args.ends i c.args.distance) (behind_from ends.Ii i d) (behind_to ends.Ii i) from to
    c.inside-in-Ii.ensures from_is to_is (λ j. ap (λ s. is_behind s i c.args.distance j) c.in-Ii.is ∙ ap (λ v. is_behind ends.Ii i v j) c.in-Some.is ∙ behind_between ends.Ii i d j)

pub returns-in-Ie : goal.returns-in-Ie
returns-in-Ie c =
    let d = c.in-Some.distance in
    let i = c.args.instant in
    let near = near_of d (c.requires.near d c.in-Some.is) in
    let now = to_z w64 (of_z w64 c.from-now.result) in
    let far = to_z w64 (of_z w64 (now -ℤ to_z w64 (of_z w64 d))) in
    let from = to_z w64 (of_z w64 (far +ℤ pos 1)) in
    let to = to_z w64 (of_z w64 (now +ℤ pos 1)) in
    let from_is : from ≡ behind_from ends.Ie i d = omega (arith, ints, near.not_far_back, near.not_far_on, c.from-now.ensures) in
    let to_is : to ≡ behind_to ends.Ie i = omega (arith, ints, near.not_far_back, near.not_far_on, c.from-now.ensures) in
    selects_of c.args.instants c.inside-in-Ie.result.from c.inside-in-Ie.result.to (is_behind c.args.ends i c.args.distance) (behind_from ends.Ie i d) (behind_to ends.Ie i) from to
    c.inside-in-Ie.ensures from_is to_is (λ j. ap (λ s. is_behind s i c.args.distance j) c.in-Ie.is ∙ ap (λ v. is_behind ends.Ie i v j) c.in-Some.is ∙ behind_between ends.Ie i d j)

pub returns-in-Ei : goal.returns-in-Ei
returns-in-Ei c =
    let d = c.in-Some.distance in
    let i = c.args.instant in
    let near = near_of d (c.requires.near d c.in-Some.is) in
    let now = to_z w64 (of_z w64 c.from-now.result) in
    let far = to_z w64 (of_z w64 (now -ℤ to_z w64 (of_z w64 d))) in
    let from = far in
    let to = now in
    let from_is : from ≡ behind_from ends.Ei i d = omega (arith, ints, near.not_far_back, near.not_far_on, c.from-now.ensures) in
    let to_is : to ≡ behind_to ends.Ei i = omega (arith, ints, near.not_far_back, near.not_far_on, c.from-now.ensures) in
    selects_of c.args.instants c.inside-in-Ei.result.from c.inside-in-Ei.result.to (is_behind c.args.ends i c.args.distance) (behind_from ends.Ei i d) (behind_to ends.Ei i) from to
    c.inside-in-Ei.ensures from_is to_is (λ j. ap (λ s. is_behind s i c.args.distance j) c.in-Ei.is ∙ ap (λ v. is_behind ends.Ei i v j) c.in-Some.is ∙ behind_between ends.Ei i d j)
