-- The indexes so far are below the sizes of the first cells.
use Rattle.std.proofs.Common.{◌≡◌, true, nat_lt, length, zip}
use Rattle.std.specs.List.{list_all}
use Rattle.trio_types.specs.Verdict.{world_of}
use Rattle.trio_types.specs.Cells.{cells_of, cell_size}
use Rattle.trio_tests.proofs.tests.models.table_at.Given as goal

abbrev pub invariant-loop-cell : goal.invariant-loop-cell
invariant-loop-cell g l =
    (length l.table ≡ l.cell) × (list_all (λ p. nat_lt p.1 (cell_size (world_of l.spec) p.0)) (zip (cells_of (world_of l.spec)) l.table) ≡ true)
