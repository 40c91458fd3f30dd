use Rattle.std.proofs.Common.{◌≡◌, map, take, Some}
use Rattle.history_table.proofs.texts.known_throughout.Given as goal

abbrev pub invariant-loop-index : goal.invariant-loop-index
invariant-loop-index l = l.known.items ≡ map Some (take l.index-index l.indexes)
