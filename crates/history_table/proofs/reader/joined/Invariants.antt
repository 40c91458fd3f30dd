-- The rows so far have lines, and what these give is gathered.
use Rattle.std.proofs.Common.{◌≡◌, take}
use Rattle.std.specs.List.{flat_map}
use Rattle.trio_types.specs.Cells.{rows_of}
use Rattle.trio_types.specs.Verdict.{world_of}
use Rattle.history_table.specs.Decoding.{cells_at}
use Rattle.history_table.proofs.RowPlaces.{Had}
use Rattle.history_table.proofs.reader.joined.Given as goal

abbrev pub invariant-loop-row : goal.invariant-loop-row
invariant-loop-row l = record {
  before : Had (rows_of (world_of l.spec)) l.found.lines l.row;
  gathered : l.given.items ≡ flat_map (cells_at l.found.lines) (take l.row (rows_of (world_of l.spec)));
}
