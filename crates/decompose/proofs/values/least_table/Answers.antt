-- The answers to the goals of `least_table`.
use Rattle.std.proofs.Common.{◌≡◌, ◌∷◌, [], ◌++◌, Some, get_or, length, slice_get, sym, ap, ◌∙◌, ◌<◌, arith, rules}
use Rattle.std.proofs.lemmas.List.{take_all}
use Rattle.std.proofs.lemmas.Option.{slice_get-get_or}
use Rattle.trio_core.specs.Stands.{world_of_core}
use Rattle.branch_state.proofs.CodeReads.{take_next}
use Rattle.decompose.specs.Rule.{least_table}
use Rattle.decompose.proofs.Leasts.{set_positive, low_small, least_at, least_long}
use Rattle.decompose.proofs.values.least_table.Goals as goal

pub least_member-requires : goal.least_member-requires
least_member-requires c =
    let w = world_of_core c.args.core.now in
    let sets = c.args.sets.now in
    let n = c.loop-set.set-index in
    let set = get_or c.as_slice-set-items.result.now n 0 in
    let at : slice_get sets n ≡ Some set = ap (λ l. slice_get l n) (sym c.as_slice-set-items.ensures) ∙ slice_get-get_or c.as_slice-set-items.result.now n 0 c.loop-set-test.true in
    set_positive w sets n set c.requires at

pub overflow_cast-least_member : goal.overflow_cast-least_member
overflow_cast-least_member c =
    let sets = c.args.sets.now in
    let n = c.loop-set.set-index in
    let set = get_or c.as_slice-set-items.result.now n 0 in
    let at : slice_get sets n ≡ Some set = ap (λ l. slice_get l n) (sym c.as_slice-set-items.ensures) ∙ slice_get-get_or c.as_slice-set-items.result.now n 0 c.loop-set-test.true in
    let small = (low_small c.args.core.now sets n set c.least_member.result c.requires at c.least_member.ensures).0 in
    let few : c.least_member.result < 65536 = omega (arith, small) in
    search rules

pub loop-set-preserved : goal.loop-set-preserved
loop-set-preserved c =
    let w = world_of_core c.args.core.now in
    let sets = c.args.sets.now in
    let n = c.loop-set.set-index in
    let set = get_or c.as_slice-set-items.result.now n 0 in
    let at : slice_get sets n ≡ Some set = ap (λ l. slice_get l n) (sym c.as_slice-set-items.ensures) ∙ slice_get-get_or c.as_slice-set-items.result.now n 0 c.loop-set-test.true in
    let low = c.least_member.result in
    c.in_ok-add_value.ensures ∙ ap (λ t. t ++ low ∷ []) c.loop-set.invariant
    ∙ sym (take_next (least_table w sets) n low (least_at w sets n set low c.requires at c.least_member.ensures))

pub returns : goal.returns
returns c =
    let w = world_of_core c.args.core.now in
    let sets = c.args.sets.now in
    c.loop-set.invariant
    ∙ take_all c.loop-set.set-index (least_table w sets) (omega (arith, c.loop-set-test.false, ap length c.as_slice-set-items.ensures, least_long w sets c.requires))
