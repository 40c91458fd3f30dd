use Rattle.std.proofs.Common.{◌≡◌, map, take, length, Some}
use Rattle.history_table.proofs.given.Given.whole.Given as goal

abbrev pub invariant-loop-cell : goal.invariant-loop-cell
invariant-loop-cell l = (take l.cell l.self ≡ map Some (take l.cell l.into)) × (length l.into ≡ length l.self)
