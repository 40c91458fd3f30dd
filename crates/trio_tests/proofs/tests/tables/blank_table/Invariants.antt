-- As many cells as there were steps.
use Rattle.std.proofs.Common.{◌≡◌, length}
use Rattle.trio_tests.proofs.tests.tables.blank_table.Given as goal

abbrev pub invariant-loop-cell : goal.invariant-loop-cell
invariant-loop-cell g l = length l.table ≡ l._cell
