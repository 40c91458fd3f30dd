-- A given history in which every value is known is a table of the specification, and its first unknown cell is one of the specification's.
use Rattle.trio_types.specs.Verdict.{world_of}
use Rattle.history_table.proofs.Tables.{table_fits}
use Rattle.trio_jobs.proofs.check.judged.Goals as goal

pub verdict_answer-requires : goal.verdict_answer-requires
verdict_answer-requires c =
    table_fits (world_of c.args.spec.now) c.args.given.now c.whole.new.into c.requires c.in-Ok-whole.ensures.ok
