-- What the loop over negations keeps.
use Rattle.derived_ops.specs.Adding.{Negates}
use Rattle.derived_ops.proofs.writer.Writer.negated.Given as goal

abbrev pub invariant-loop : goal.invariant-loop
invariant-loop l = Negates l.counter l.part l.fn.self l.self l.at
