-- The answers to the goals of `answered`.
use Rattle.std.proofs.Common.{sym, ap, ◌∙◌}
use Rattle.branch_state.specs.declared.branch.Branch.{Branch}
use Rattle.decompose.specs.Held.{ForkView}
use Rattle.decompose.specs.Rule.{Two}
use Rattle.decompose.specs.Told.{decision_told}
use Rattle.decompose.proofs.Kept.{shut_kept, leaf_kept, fork_kept, open_kept}
use Rattle.decompose.proofs.stepping.answered.Goals as goal

pub new-requires : goal.new-requires
new-requires c = shut_kept c.args.problem.now c.args.branch c.in-Closed.why c.requires.posed c.requires.fits (sym (ap decision_told c.in-Closed.is) ∙ c.requires.rule)

pub new-requires-in-Whole : goal.new-requires-in-Whole
new-requires-in-Whole c = leaf_kept c.args.problem.now c.args.branch c.in-Whole.table c.requires.posed c.requires.fits (sym (ap decision_told c.in-Whole.is) ∙ c.requires.rule)

pub new-requires-in-Ok : goal.new-requires-in-Ok
new-requires-in-Ok c =
    fork_kept c.args.problem.now c.args.branch c.in-Ok.held_left c.in-Ok.held_right c.requires.posed c.requires.fits
    (ap (λ (l : Branch). Two l c.in-Ok.held_right) c.in-Ok.ensures.0 ∙ ap (λ (r : Branch). Two c.in-Two.left r) c.in-Ok.ensures.1
    ∙ sym (ap decision_told c.in-Two.is) ∙ c.requires.rule)

pub returns-in-Ok-clause-held : goal.returns-in-Ok-clause-held
returns-in-Ok-clause-held c =
    let open_ = open_kept c.args.problem.now c.args.branch c.in-Two.left c.in-Two.right (sym (ap decision_told c.in-Two.is) ∙ c.requires.rule) in
    let view = c.new-in-Ok.ensures in (
      ap (λ (v : ForkView). v.problem) view,
      ap (λ (v : ForkView). v.start) view,
      ap (λ (v : ForkView). v.left) view ∙ c.in-Ok.ensures.0,
      ap (λ (v : ForkView). v.right) view ∙ c.in-Ok.ensures.1,
      open_,
    )
