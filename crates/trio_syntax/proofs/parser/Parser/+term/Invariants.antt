-- What the loops keep, and that each call has fewer tokens left, or stands lower in the grammar.
use Rattle.std.proofs.Common.{◌≡◌, ◌+◌, ◌*◌, List, ◌∷◌, ◌++◌, length}
use Rattle.trio_text.specs.declared.token.Symbol.TheVariants as signs
use Rattle.trio_syntax.specs.declared.tree.TermTree.{TermTree}
use Rattle.trio_syntax.specs.declared.tree.PartTree.{PartTree}
use Rattle.trio_syntax.specs.Forms.{row, term, many}
use Rattle.trio_syntax.specs.Grammar.{listed, behind_sign, more_summands, sum}
use Rattle.trio_syntax.specs.Exact.{spot}
use Rattle.trio_syntax.proofs.Left.{Left}
use Rattle.trio_syntax.proofs.parser.Parser.+term.Given as goal

abbrev pub decreases-basic : goal.decreases-basic
decreases-basic l = 4 * length l.self.now.rest.now

abbrev pub decreases-arguments : goal.decreases-arguments
decreases-arguments l = 4 * length l.self.now.rest.now

abbrev pub decreases-factor : goal.decreases-factor
decreases-factor l = 4 * length l.self.now.rest.now + 1

abbrev pub decreases-summand : goal.decreases-summand
decreases-summand l = 4 * length l.self.now.rest.now + 1

abbrev pub decreases-term : goal.decreases-term
decreases-term l = 4 * length l.self.now.rest.now + 2

abbrev pub decreases-term_until : goal.decreases-term_until
decreases-term_until l = 4 * length l.self.now.rest.now + 3

abbrev pub decreases-terms : goal.decreases-terms
decreases-terms l = 4 * length l.self.now.rest.now + 3

-- the first summand, and those behind it
abbrev pub invariant-term-loop-minus : goal.invariant-term-loop-minus
invariant-term-loop-minus l =
    (t : TermTree) × (more : List PartTree) × (l.parts ≡ record { minus = l.minus; term = t } ∷ more) ×
    Left (row term) (spot l.fn.self) more_summands (λ parts. sum l.fn.self.at l.minus t (more ++ parts)) (spot l.self)

abbrev pub decreases-term-loop-minus : goal.decreases-term-loop-minus
decreases-term-loop-minus l = length l.self.rest.now

abbrev pub invariant-terms-loop-self : goal.invariant-terms-loop-self
invariant-terms-loop-self l = Left (listed signs.Comma (row term)) (spot l.fn.self) (many (behind_sign signs.Comma (row term))) (λ terms. l.terms ++ terms) (spot l.self)

abbrev pub decreases-terms-loop-self : goal.decreases-terms-loop-self
decreases-terms-loop-self l = length l.self.rest.now
