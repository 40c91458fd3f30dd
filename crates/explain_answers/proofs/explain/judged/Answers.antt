-- A given history in which every value is known is a table of the specification, and its first unknown cell is one of the specification's.
use Rattle.trio_types.specs.Verdict.{world_of}
use Rattle.history_table.proofs.Tables.{table_fits}
use Rattle.history_table.proofs.Faults.{unknown_within}
use Rattle.explain_answers.proofs.explain.judged.Goals as goal

pub verdict_on-requires : goal.verdict_on-requires
verdict_on-requires c =
    table_fits (world_of c.args.spec.now) c.args.given.now c.whole.new.into c.requires c.in-Ok.ensures.ok

pub unknown_line-requires : goal.unknown_line-requires
unknown_line-requires c = unknown_within (world_of c.args.spec.now) c.args.given.now c.in-Err.cell c.requires c.in-Err.ensures.unknown
