use Rattle.std.proofs.Common.{ap, ◌∙◌, Some}
use Rattle.trio_types.specs.Cells.{the_cell}
use Rattle.trio_types.specs.Verdict.{parts_of}
use Rattle.trio_types.proofs.Specs.{formed, some_instant}
use Rattle.history_table.proofs.RowPlaces.{row_at_cell}
use Rattle.history_table.proofs.rows.row_number.Goals as goal

pub cell_of-requires-clause-instant_in : goal.cell_of-requires-clause-instant_in
cell_of-requires-clause-instant_in c = some_instant (parts_of c.args.spec.now) (formed c.args.spec.now)

pub nonzero_div-result : goal.nonzero_div-result
nonzero_div-result c = some_instant (parts_of c.args.spec.now) (formed c.args.spec.now)

pub returns : goal.returns
returns c =
    row_at_cell c.args.spec.now c.cell_of.result c.args.row.now.item c.args.row.now.args
    (c.cell_of.ensures ∙ ap (λ args. Some (the_cell c.args.row.now.item args 0)) c.as_slice.ensures)
