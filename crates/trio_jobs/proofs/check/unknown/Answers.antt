-- The row of a cell is one of the specification's.
use Rattle.std.proofs.Common.{length, arith}
use Rattle.std.proofs.lemmas.Nat.{div_below}
use Rattle.trio_types.specs.Cells.{rows_of}
use Rattle.trio_types.specs.Verdict.{parts_of, world_of}
use Rattle.trio_types.proofs.Specs.{formed, some_instant}
use Rattle.trio_types.proofs.CellNumbers.{cell_count_is}
use Rattle.trio_jobs.proofs.check.unknown.Goals as goal

pub row_name-requires : goal.row_name-requires
row_name-requires c =
    let spec = c.args.spec.now in
    div_below c.args.cell spec.instants (length (rows_of (world_of spec))) (some_instant (parts_of spec) (formed spec)) (omega (arith, c.requires, cell_count_is (world_of spec)))

pub nonzero_div-cell : goal.nonzero_div-cell
nonzero_div-cell c = some_instant (parts_of c.args.spec.now) (formed c.args.spec.now)

pub nonzero_rem-result : goal.nonzero_rem-result
nonzero_rem-result c = some_instant (parts_of c.args.spec.now) (formed c.args.spec.now)
