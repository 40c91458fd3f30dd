-- What the loop of `settle` keeps, and why it ends.
use Rattle.std.proofs.Common.{◌≡◌, All, reverse}
use Rattle.branch_state.specs.Branches.{WantFits}
use Rattle.decompose.specs.Rule.{settled, wants_weight}
use Rattle.decompose.proofs.settlement.settle.Given as goal

-- the wants that are left fit, and settle as the given ones
abbrev pub invariant-loop-want : goal.invariant-loop-want
invariant-loop-want l = record {
  fits : All (WantFits l.problem) (reverse l.stack);
  same : settled l.problem l.sets (reverse l.stack) ≡ settled l.problem l.sets (reverse l.initial.stack);
}

abbrev pub decreases-loop-want : goal.decreases-loop-want
decreases-loop-want l = wants_weight l.problem (reverse l.stack)
