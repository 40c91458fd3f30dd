-- What the loop keeps.
use Rattle.std.proofs.Common.{◌++◌, length}
use Rattle.trio_text.specs.declared.token.Symbol.TheVariants as signs
use Rattle.trio_syntax.specs.Forms.{many}
use Rattle.trio_syntax.specs.Grammar.{listed, behind_sign, ref}
use Rattle.trio_syntax.specs.Exact.{spot}
use Rattle.trio_syntax.proofs.Left.{Left}
use Rattle.trio_syntax.proofs.parser.Parser.ranges.Given as goal

abbrev pub invariant-loop-self : goal.invariant-loop-self
invariant-loop-self l = Left (listed signs.Comma ref) (spot l.fn.self) (many (behind_sign signs.Comma ref)) (λ vs. l.ranges ++ vs) (spot l.self)

abbrev pub decreases-loop-self : goal.decreases-loop-self
decreases-loop-self l = length l.self.rest.now
