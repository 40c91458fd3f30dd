-- The branch fits.
use Rattle.branch_state.specs.Branches.{Fits}
use Rattle.trio_tests.proofs.tests.paths.ends_within.Given as goal

abbrev pub invariant-loop-step : goal.invariant-loop-step
invariant-loop-step g l = Fits l.problem l.branch
