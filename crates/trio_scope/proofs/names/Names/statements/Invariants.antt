-- What the loop of `statements` keeps.
use Rattle.std.proofs.Common.{take}
use Rattle.trio_scope.specs.Table.{AddsStatements}
use Rattle.trio_scope.proofs.names.Names.statements.Given as goal

abbrev pub invariant-loop-statement : goal.invariant-loop-statement
invariant-loop-statement l = AddsStatements l.fn.self l.self (take l.statement-index l.statements)
