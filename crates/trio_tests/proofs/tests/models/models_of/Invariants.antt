-- Each table so far fits.
use Rattle.std.specs.List.{All}
use Rattle.trio_types.specs.Cells.{IsTable}
use Rattle.branch_state.specs.Posed.{world_of_problem}
use Rattle.trio_tests.proofs.tests.models.models_of.Given as goal

abbrev pub invariant-loop-number : goal.invariant-loop-number
invariant-loop-number g l = All (IsTable (world_of_problem l.problem)) l.models.items
