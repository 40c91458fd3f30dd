-- A given history in which every value is known is a table of the specification.
use Rattle.trio_types.specs.Verdict.{world_of}
use Rattle.history_table.proofs.Tables.{table_fits}
use Rattle.trio_tests.proofs.tests.tables.table_of.Goals as goal

pub returns-in-Ok : goal.returns-in-Ok
returns-in-Ok g c =
    table_fits (world_of c.args.spec.now) c.args.given.now c.whole.new.into c.requires c.in-Ok.ensures.ok
