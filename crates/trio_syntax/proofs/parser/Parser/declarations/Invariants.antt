-- What the loop keeps.
use Rattle.std.proofs.Common.{◌++◌, length}
use Rattle.trio_syntax.specs.Grammar.{declaring}
use Rattle.trio_syntax.specs.Exact.{spot}
use Rattle.trio_syntax.proofs.Left.{Left}
use Rattle.trio_syntax.proofs.parser.Parser.declarations.Given as goal

abbrev pub invariant-loop-declarations : goal.invariant-loop-declarations
invariant-loop-declarations l = Left declaring (spot l.fn.self) declaring (λ vs. l.declarations ++ vs) (spot l.self)

abbrev pub decreases-loop-declarations : goal.decreases-loop-declarations
decreases-loop-declarations l = length l.self.rest.now
