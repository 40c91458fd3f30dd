-- The sets so far are those of the first cells.
use Rattle.std.proofs.Common.{◌≡◌, true, length, zip}
use Rattle.std.specs.List.{list_all}
use Rattle.trio_types.specs.Verdict.{world_of}
use Rattle.trio_types.specs.Cells.{cells_of, cell_size}
use Rattle.trio_core.specs.Sets.{is_set}
use Rattle.trio_tests.proofs.tests.sets.sets_of.Given as goal

abbrev pub invariant-loop-cell : goal.invariant-loop-cell
invariant-loop-cell g l =
    (length l.sets ≡ l.cell) × (list_all (λ p. is_set (cell_size (world_of l.spec) p.0) p.1) (zip (cells_of (world_of l.spec)) l.sets) ≡ true)
