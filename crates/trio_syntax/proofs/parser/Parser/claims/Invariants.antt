-- What the loop keeps.
use Rattle.std.proofs.Common.{◌++◌, length}
use Rattle.trio_syntax.specs.Grammar.{claims}
use Rattle.trio_syntax.specs.Exact.{spot}
use Rattle.trio_syntax.proofs.Left.{Left}
use Rattle.trio_syntax.proofs.parser.Parser.claims.Given as goal

abbrev pub invariant-loop-claims : goal.invariant-loop-claims
invariant-loop-claims l = Left claims (spot l.fn.self) claims (λ vs. l.claims ++ vs) (spot l.self)

abbrev pub decreases-loop-claims : goal.decreases-loop-claims
decreases-loop-claims l = length l.self.rest.now
