-- No fewer tokens stand on the lines up to one than on those before it.
use Rattle.std.proofs.Common.{arith}
use Rattle.explain_answers.proofs.Scanned.{no_fewer}
use Rattle.explain_answers.proofs.source.Source.line.Goals as goal

pub returns-clause-ordered : goal.returns-clause-ordered
returns-clause-ordered c =
    omega (arith, no_fewer c.args.number c.args.self.tokens.now, c.before_line.ensures.is, c.through_line.ensures.is)
