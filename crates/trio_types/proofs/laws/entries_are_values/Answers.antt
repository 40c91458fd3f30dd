-- The answers to the goals of `entries_are_values`.
use Rattle.std.proofs.Common.{◌+◌, ◌*◌}
use Rattle.trio_types.specs.Cells.{the_cell}
use Rattle.trio_types.proofs.CellNumbers.{cell_at}
use Rattle.trio_types.proofs.CellOrder.{entry_is_value}
use Rattle.trio_types.proofs.laws.entries_are_values.Goals as goal

pub returns-clause-entry : goal.returns-clause-entry
returns-clause-entry c = entry_is_value

pub returns-clause-row : goal.returns-clause-row
returns-clause-row c = λ w t n i row table at inside. entry_is_value w t (n * w.instants + i) (the_cell row.item row.args i) table (cell_at w n row i at inside)
