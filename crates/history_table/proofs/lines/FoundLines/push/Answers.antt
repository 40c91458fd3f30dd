use Rattle.std.proofs.Common.{Some, set, sym, ap, ◌∙◌}
use Rattle.trio_types.specs.Verdict.{world_of}
use Rattle.history_table.specs.Decoding.{line_places}
use Rattle.history_table.proofs.RowPlaces.{places_more}
use Rattle.history_table.proofs.lines.FoundLines.push.Goals as goal

pub returns-clause-placed : goal.returns-clause-placed
returns-clause-placed c =
    c.set.ensures ∙ ap (λ n. set c.args.self.now.places c.row_number-number.result (Some n)) c.len-place.ensures
    ∙ places_more c.args.spec.now c.args.self.now.lines c.args.line c.row_number-number.result c.args.self.now.places c.requires.placed c.row_number-number.ensures c.requires.new
    ∙ ap (line_places (world_of c.args.spec.now)) (sym c.in_default.ensures.ok)
