-- No row so far has a line.
use Rattle.std.proofs.Common.{◌≡◌, replicate, None}
use Rattle.history_table.proofs.lines.FoundLines.none.Given as goal

abbrev pub invariant-loop-row : goal.invariant-loop-row
invariant-loop-row l = l.places.items ≡ replicate l._row None
