use Rattle.std.proofs.Common.{ap, ◌∙◌}
use Rattle.std.specs.Option.{is_some}
use Rattle.trio_types.specs.Cells.{rows_of}
use Rattle.trio_types.specs.Verdict.{world_of}
use Rattle.history_table.specs.Decoding.{row_from}
use Rattle.history_table.proofs.RowPlaces.{has_place, place_at}
use Rattle.history_table.proofs.lines.FoundLines.has_row.Goals as goal

pub returns : goal.returns
returns c =
    c.is_some.ensures
    ∙ ap is_some (place_at (rows_of (world_of c.args.spec.now)) c.args.self.now.lines c.args.self.now.places c.row_number-number.result (row_from c.args.row.now) c.get.result.now
    c.requires.placed c.row_number-number.ensures c.get.ensures)
    ∙ has_place c.args.self.now.lines (row_from c.args.row.now)
