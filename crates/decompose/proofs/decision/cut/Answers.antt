-- The answers to the goals of `cut`.
use Rattle.std.proofs.Common.{◌≡◌, ◌-◌, List, ℕ, slice_set, sym, ap, ◌∙◌, arith}
use Rattle.trio_core.specs.Stands.{world_of_core}
use Rattle.branch_state.specs.Branches.{branch}
use Rattle.branch_state.specs.declared.branch.Want.{Want}
use Rattle.decompose.specs.Rule.{Two, least_of_cell}
use Rattle.decompose.proofs.Leasts.{set_positive, low_small, least_of_cell_is, left_out_is}
use Rattle.decompose.proofs.decision.cut.Goals as goal

pub least_member-requires : goal.least_member-requires
least_member-requires c = set_positive (world_of_core c.args._core.now) c.args.sets.now c.args.cell c.get-set.result.now c.requires.sets_fit c.get-set.ensures

pub single_set-least-requires : goal.single_set-least-requires
single_set-least-requires c =
    (low_small c.args._core.now c.args.sets.now c.args.cell c.get-set.result.now c.least_member.result c.requires.sets_fit c.get-set.ensures c.least_member.ensures).0

pub overflow_sub-set : goal.overflow_sub-set
overflow_sub-set c =
    omega (
      arith,
      c.single_set-least.ensures,
      (low_small c.args._core.now c.args.sets.now c.args.cell c.get-set.result.now c.least_member.result c.requires.sets_fit c.get-set.ensures c.least_member.ensures).1,
    )

pub returns : goal.returns
returns c =
    let w = world_of_core c.args._core.now in
    let sets = c.args.sets.now in
    let n = c.args.cell in
    let set = c.get-set.result.now in
    let low = c.least_member.result in
    let least : c.single_set-least.result ≡ least_of_cell w sets n =
    c.single_set-least.ensures ∙ sym (least_of_cell_is w sets n set low c.requires.sets_fit c.get-set.ensures c.least_member.ensures) in
    ap (λ (d : List ℕ). Two (branch d c.in_ok-copy_wants.field-0) (branch c.in_ok-with_set-2.field-0 c.args.wants)) (c.in_ok-with_set.ensures ∙ ap (slice_set sets n) least)
    ∙ ap (λ (ws : List Want). Two (branch (slice_set sets n (least_of_cell w sets n)) ws) (branch c.in_ok-with_set-2.field-0 c.args.wants)) c.in_ok-copy_wants.ensures
    ∙ ap (λ (d : List ℕ). Two (branch (slice_set sets n (least_of_cell w sets n)) c.args.wants) (branch d c.args.wants))
    (c.in_ok-with_set-2.ensures ∙ ap (λ x. slice_set sets n (set - x)) least ∙ ap (λ s. slice_set sets n (s - least_of_cell w sets n)) (sym (left_out_is sets n set c.get-set.ensures)))
