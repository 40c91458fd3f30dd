-- The answers to the goals of `at_distance`.
use Rattle.std.proofs.Common.{◌≡◌, ◌<◌, pos, ◌+ℤ◌, ◌≤ℤ◌, nat_abs, to_z, of_z, w64, [], ◌∷◌, map, sym, ap, ◌∙◌, arith}
use Rattle.std.proofs.lemmas.Int.{ints}
use Rattle.trio_types.proofs.Bounded.{near_of}
use Rattle.trio_types.proofs.Specs.{few_instants}
use Rattle.trio_types.specs.Parts.{declarations_of}
use Rattle.trio_core.specs.Stands.{world_of_core}
use Rattle.trio_core.proofs.Evaluating.{only_at, nowhere_at, absolute, castable}
use Rattle.trio_core.proofs.NodesFit.{core_formed}
use Rattle.trio_core.proofs.TermsFit.{term_near}
use Rattle.branch_state.specs.declared.branch.Want.{Want}
use Rattle.decompose.specs.Rule.{Becomes, part_at, dist_row}
use Rattle.decompose.proofs.fates.at_distance.Goals.{else-target-ge0-via-then-target-ge0+else-target-from, else-target-ge0-via-else-target-ge0}
use Rattle.decompose.proofs.fates.at_distance.Goals as goal

pub overflow_add-target : goal.overflow_add-target
overflow_add-target c =
    let core = c.args.under.core.now in
    let w = world_of_core core in
    let sets = c.args.under.doms.now in
    let e = c.args.under.values.now in
    let i = c.args.want.now.now in
    let x = c.args.distance.now in
    let d = c.in-One.distance in
    let known = sym c.term_value.ensures ∙ c.in-One.is in
    let near = near_of d (term_near w sets x e i c.requires.term_fits d known) in
    let few = few_instants (declarations_of w) (core_formed core) in
    omega (arith, ints, near.not_far_back, near.not_far_on, few, c.requires.instant_in, c.from.ensures)

pub overflow_cast-target : goal.overflow_cast-target
overflow_cast-target c =
    let core = c.args.under.core.now in
    let w = world_of_core core in
    let sets = c.args.under.doms.now in
    let e = c.args.under.values.now in
    let i = c.args.want.now.now in
    let x = c.args.distance.now in
    let d = c.in-One.distance in
    let known = sym c.term_value.ensures ∙ c.in-One.is in
    let near = near_of d (term_near w sets x e i c.requires.term_fits d known) in
    let few = few_instants (declarations_of w) (core_formed core) in
    let target = to_z w64 (of_z w64 (to_z w64 (of_z w64 c.from.result) +ℤ to_z w64 (of_z w64 d))) in
    let target_is : target ≡ pos i +ℤ d = omega (arith, ints, near.not_far_back, near.not_far_on, few, c.requires.instant_in, c.from.ensures) in
    let from : pos 0 ≤ℤ target = omega (arith, ints, c.if-target-ge0.true) in
    let same = absolute target from in
    let j = nat_abs target in
    let there : j < core.instants = omega (arith, ints, same, c.if-target-from.true, c.from-then-target-ge0.ensures, few) in
    castable target j same (omega (arith, there, few))

pub returns-in_ok-part_at : goal.returns-in_ok-part_at
returns-in_ok-part_at c =
    let core = c.args.under.core.now in
    let w = world_of_core core in
    let sets = c.args.under.doms.now in
    let e = c.args.under.values.now in
    let i = c.args.want.now.now in
    let x = c.args.distance.now in
    let d = c.in-One.distance in
    let known = sym c.term_value.ensures ∙ c.in-One.is in
    let near = near_of d (term_near w sets x e i c.requires.term_fits d known) in
    let few = few_instants (declarations_of w) (core_formed core) in
    let target = to_z w64 (of_z w64 (to_z w64 (of_z w64 c.from.result) +ℤ to_z w64 (of_z w64 d))) in
    let target_is : target ≡ pos i +ℤ d = omega (arith, ints, near.not_far_back, near.not_far_on, few, c.requires.instant_in, c.from.ensures) in
    let from : pos 0 ≤ℤ target = omega (arith, ints, c.if-target-ge0.true) in
    let same = absolute target from in
    let j = nat_abs target in
    let there : j < core.instants = omega (arith, ints, same, c.if-target-from.true, c.from-then-target-ge0.ensures, few) in
    ap (λ (v : Want). Becomes (v ∷ [])) c.in_ok-part_at.ensures
    ∙ sym (ap (dist_row w c.args.want.now c.args.a) known ∙ ap (λ js. Becomes (map (part_at c.args.want.now c.args.a) js)) (only_at w i d j (sym same ∙ target_is) there))

pub returns-else-target-ge0 : goal.returns-else-target-ge0
returns-else-target-ge0 c =
    let core = c.args.under.core.now in
    let w = world_of_core core in
    let sets = c.args.under.doms.now in
    let e = c.args.under.values.now in
    let i = c.args.want.now.now in
    let x = c.args.distance.now in
    let d = c.in-One.distance in
    let known = sym c.term_value.ensures ∙ c.in-One.is in
    let near = near_of d (term_near w sets x e i c.requires.term_fits d known) in
    let few = few_instants (declarations_of w) (core_formed core) in
    let target = to_z w64 (of_z w64 (to_z w64 (of_z w64 c.from.result) +ℤ to_z w64 (of_z w64 d))) in
    let target_is : target ≡ pos i +ℤ d = omega (arith, ints, near.not_far_back, near.not_far_on, few, c.requires.instant_in, c.from.ensures) in
    sym (ap (dist_row w c.args.want.now c.args.a) known
    ∙ ap (λ js. Becomes (map (part_at c.args.want.now c.args.a) js)) (nowhere_at w i d (λ j below is. elim c.else-target-ge0.branch [
      | else-target-ge0-via-then-target-ge0+else-target-from b ↦ omega (arith, ints, target_is, is, below, few, b.from-then-target-ge0.ensures, b.if-target-from.false)
      | else-target-ge0-via-else-target-ge0 b ↦ omega (arith, ints, target_is, is, b.if-target-ge0.false)
    ])))
