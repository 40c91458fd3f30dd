use Rattle.std.proofs.Common.{slice_get, sym, ap, ◌∙◌}
use Rattle.trio_types.specs.Kinds.{args_of}
use Rattle.trio_types.specs.Verdict.{world_of}
use Rattle.history_table.specs.Rows.{arg_indexes}
use Rattle.history_table.proofs.RowPlaces.{takes_written}
use Rattle.history_table.proofs.rows.named_row.Goals as goal

pub returns-in-Some-2-clause-taken : goal.returns-in-Some-2-clause-taken
returns-in-Some-2-clause-taken c =
    let w = world_of c.args.spec.now in
    takes_written w c.in-Some.item c.args.line.now.args c.in-Some-2.args c.in-Some.ensures.within
    (ap (arg_indexes w (args_of (slice_get w.items c.in-Some.item))) (sym c.as_slice.ensures) ∙ sym c.in_ok-args.ensures ∙ c.in-Some-2.is)
