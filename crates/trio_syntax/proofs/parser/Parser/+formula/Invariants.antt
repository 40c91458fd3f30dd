-- What the loops keep, and that each call has fewer tokens left, or stands lower in the grammar.
use Rattle.std.proofs.Common.{◌+◌, ◌*◌, ◌++◌, length}
use Rattle.trio_text.specs.declared.token.Symbol.TheVariants as signs
use Rattle.trio_syntax.specs.Forms.{row, disj, conj, unary, many, seq}
use Rattle.trio_syntax.specs.Grammar.{a_sign, behind_sign, and_of}
use Rattle.trio_syntax.specs.Exact.{spot}
use Rattle.trio_syntax.proofs.Left.{Left}
use Rattle.trio_syntax.proofs.parser.Parser.+formula.Given as goal

abbrev pub decreases-bound : goal.decreases-bound
decreases-bound l = 8 * length l.self.now.rest.now

abbrev pub decreases-distant : goal.decreases-distant
decreases-distant l = 8 * length l.self.now.rest.now

abbrev pub decreases-paired : goal.decreases-paired
decreases-paired l = 8 * length l.self.now.rest.now

abbrev pub decreases-round : goal.decreases-round
decreases-round l = 8 * length l.self.now.rest.now

abbrev pub decreases-pair_or_atom : goal.decreases-pair_or_atom
decreases-pair_or_atom l = 8 * length l.self.now.rest.now

abbrev pub decreases-operation : goal.decreases-operation
decreases-operation l = 8 * length l.self.now.rest.now + 1

abbrev pub decreases-primary : goal.decreases-primary
decreases-primary l = 8 * length l.self.now.rest.now + 2

abbrev pub decreases-unary : goal.decreases-unary
decreases-unary l = 8 * length l.self.now.rest.now + 3

abbrev pub decreases-conj : goal.decreases-conj
decreases-conj l = 8 * length l.self.now.rest.now + 4

abbrev pub decreases-disj : goal.decreases-disj
decreases-disj l = 8 * length l.self.now.rest.now + 5

abbrev pub decreases-formula : goal.decreases-formula
decreases-formula l = 8 * length l.self.now.rest.now + 6

abbrev pub invariant-conj-loop-self : goal.invariant-conj-loop-self
invariant-conj-loop-self l = Left (row conj) (spot l.fn.self) (many (behind_sign signs.And (row unary))) (λ parts. l.parts ++ parts) (spot l.self)

abbrev pub decreases-conj-loop-self : goal.decreases-conj-loop-self
decreases-conj-loop-self l = length l.self.rest.now

abbrev pub invariant-disj-loop-self : goal.invariant-disj-loop-self
invariant-disj-loop-self l = Left (row disj) (spot l.fn.self) (many (seq (a_sign signs.Or) (row conj) (λ p u fs. and_of fs))) (λ parts. l.parts ++ parts) (spot l.self)

abbrev pub decreases-disj-loop-self : goal.decreases-disj-loop-self
decreases-disj-loop-self l = length l.self.rest.now

abbrev pub decreases-formula_until : goal.decreases-formula_until
decreases-formula_until l = 8 * length l.self.now.rest.now + 7
