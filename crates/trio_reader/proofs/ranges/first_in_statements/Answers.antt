-- The answer to the goal of `first_in_statements`.
use Rattle.std.proofs.Common.{[], refl}
use Rattle.trio_scope.proofs.Least.{least_next}
use Rattle.trio_reader.specs.Ranges.{statement_places}
use Rattle.trio_reader.proofs.ranges.first_in_statements.Goals as goal

pub loop-statement-preserved : goal.loop-statement-preserved
loop-statement-preserved c =
    least_next statement_places [] refl c.loop-statement.statement-index c.statement-item.result c.loop-statement-test.true c.statement-item.is
    c.loop-statement.invariant c.in_ok-first_in_statement.ensures c.earlier-first.ensures
