use Rattle.std.proofs.Common.{◌≡◌, ◌++◌, take}
use Rattle.history_table.proofs.reader.append.Given as goal

abbrev pub invariant-loop-cell : goal.invariant-loop-cell
invariant-loop-cell l = l.given.items ≡ l.initial.given.items ++ take l.cell-index l.cells
