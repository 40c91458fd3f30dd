-- The branch fits.
use Rattle.branch_state.specs.Branches.{Fits}
use Rattle.trio_tests.proofs.tests.step_rows.at_end.Given as goal

abbrev pub invariant-loop-turn : goal.invariant-loop-turn
invariant-loop-turn g l = Fits l.problem l.branch
