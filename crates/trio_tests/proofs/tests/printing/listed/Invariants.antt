-- Each table so far has an entry for each cell.
use Rattle.std.proofs.Common.{◌≡◌, ℕ, List, length, Some, slice_get}
use Rattle.trio_types.specs.Verdict.{world_of}
use Rattle.trio_types.specs.Cells.{cells_of}
use Rattle.trio_tests.proofs.tests.printing.listed.Given as goal

abbrev pub invariant-loop-text : goal.invariant-loop-text
invariant-loop-text g l = (k : ℕ) (table : List ℕ) → slice_get l.tables k ≡ Some table → length table ≡ length (cells_of (world_of l.spec))
