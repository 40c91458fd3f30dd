use Rattle.std.proofs.Common.{◌∙◌, arith}
use Rattle.trio_types.specs.Cells.{rows_of}
use Rattle.trio_types.specs.Verdict.{world_of}
use Rattle.history_table.proofs.RowPlaces.{no_places}
use Rattle.history_table.proofs.lines.FoundLines.none.Goals as goal

pub returns-clause-placed : goal.returns-clause-placed
returns-clause-placed c =
    c.from_vec.ensures ∙ c.loop-row.invariant
    ∙ no_places (rows_of (world_of c.args.spec.now)) c.loop-row._row (omega (arith, c.loop-row-test.false, c.loop-row.auto._row-end, c.row_count-row-end.ensures))
