-- The answers to the goals of `cells_stand_in_order`.
use Rattle.trio_types.proofs.CellOrder.{ordered_cells, cell_once, stands_law}
use Rattle.trio_types.proofs.laws.cells_stand_in_order.Goals as goal

pub returns-clause-order : goal.returns-clause-order
returns-clause-order c = ordered_cells

pub returns-clause-once : goal.returns-clause-once
returns-clause-once c = cell_once

pub returns-clause-stands : goal.returns-clause-stands
returns-clause-stands c = stands_law
