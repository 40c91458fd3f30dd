-- As many entries as there were steps.
use Rattle.std.proofs.Common.{◌≡◌, length}
use Rattle.trio_tests.proofs.tests.tables.made_given.Given as goal

abbrev pub invariant-loop-cell : goal.invariant-loop-cell
invariant-loop-cell g l = length l.given ≡ l.cell
