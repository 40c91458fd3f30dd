use Rattle.std.proofs.Common.{◌/◌, ap, ◌∙◌}
use Rattle.std.proofs.Math.Nat.{mul-div_cancel}
use Rattle.trio_types.specs.Cells.{rows_of}
use Rattle.trio_types.specs.Verdict.{parts_of, world_of}
use Rattle.trio_types.proofs.Specs.{formed, some_instant}
use Rattle.trio_types.proofs.CellNumbers.{cell_count_is}
use Rattle.history_table.proofs.rows.row_count.Goals as goal
use Rattle.std.proofs.Common.{length}

pub nonzero_div-result : goal.nonzero_div-result
nonzero_div-result c = some_instant (parts_of c.args.spec.now) (formed c.args.spec.now)

pub returns : goal.returns
returns c =
    ap (λ n. n / c.args.spec.now.instants) (c.cell_count.ensures ∙ cell_count_is (world_of c.args.spec.now))
    ∙ mul-div_cancel (length (rows_of (world_of c.args.spec.now))) (some_instant (parts_of c.args.spec.now) (formed c.args.spec.now))
