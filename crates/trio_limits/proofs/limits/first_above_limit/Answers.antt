-- The answer to the goal of `first_above_limit`.
use Rattle.std.proofs.Common.{ap, ◌∙◌}
use Rattle.trio_limits.specs.Draft.{parts_of_draft}
use Rattle.trio_limits.specs.Totals.{first_above}
use Rattle.trio_limits.proofs.FirstAbove.{first_is_fault}
use Rattle.trio_limits.proofs.limits.first_above_limit.Goals as goal

pub returns : goal.returns
returns c = c.first_above.ensures ∙ ap first_above c.in_ok-totals.ensures ∙ first_is_fault (parts_of_draft c.args.draft.now)
