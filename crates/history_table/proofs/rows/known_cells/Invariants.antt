use Rattle.std.proofs.Common.{◌≡◌, map, take}
use Rattle.trio_types.specs.Verdict.{world_of}
use Rattle.history_table.specs.Rows.{known_index}
use Rattle.history_table.proofs.rows.known_cells.Given as goal

abbrev pub invariant-loop-entry : goal.invariant-loop-entry
invariant-loop-entry l = l.cells.items ≡ map (known_index (world_of l.spec) l.item) (take l.entry-index l.entries)
