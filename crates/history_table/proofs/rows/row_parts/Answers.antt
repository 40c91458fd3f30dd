use Rattle.std.proofs.Common.{sym, ap, ◌∙◌, arith, Some}
use Rattle.history_table.proofs.RowNumbers.{first_cell, row_is}
use Rattle.history_table.proofs.rows.row_parts.Goals as goal

pub overflow_mul-row : goal.overflow_mul-row
overflow_mul-row c = let f = first_cell c.args.spec.now c.args.row c.requires in omega (arith, f.few)

pub cell_parts-cell-requires : goal.cell_parts-cell-requires
cell_parts-cell-requires c = (first_cell c.args.spec.now c.args.row c.requires).within

pub returns : goal.returns
returns c =
    row_is c.args.spec.now c.args.row c.cell_parts-cell.result.item _ c.cell_parts-cell.result.instant (first_cell c.args.spec.now c.args.row c.requires) c.cell_parts-cell.ensures.is
    ∙ ap (λ vs. Some (record { item = c.cell_parts-cell.result.item; args = vs })) (sym c.in_ok-args.ensures)
