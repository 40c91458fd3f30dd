-- Each call is for a smaller formula, or for the same by a function that stands lower.
use Rattle.std.proofs.Common.{◌+◌, ◌*◌}
use Rattle.derived_ops.proofs.Weights.{weight, weights}
use Rattle.derived_ops.proofs.writer.Writer.+formulas.Given as goal

abbrev pub decreases-formula : goal.decreases-formula
decreases-formula l = 8 * weight l.formula.now

abbrev pub decreases-implies : goal.decreases-implies
decreases-implies l = 8 * (weight l.left.now + weight l.right.now) + 1

abbrev pub decreases-joined : goal.decreases-joined
decreases-joined l = 8 * weights l.parts.now + 1

abbrev pub decreases-quantified : goal.decreases-quantified
decreases-quantified l = 8 * weight l.body.now + 1

abbrev pub decreases-one : goal.decreases-one
decreases-one l = 8 * weight l.part.now + 1

abbrev pub decreases-far : goal.decreases-far
decreases-far l = 8 * weight l.part.now + 4

abbrev pub decreases-next : goal.decreases-next
decreases-next l = 8 * weight l.part.now + 3

abbrev pub decreases-throughout : goal.decreases-throughout
decreases-throughout l = 8 * weight l.part.now + 2

abbrev pub decreases-within : goal.decreases-within
decreases-within l = 8 * weight l.part.now + 1

abbrev pub decreases-at_far : goal.decreases-at_far
decreases-at_far l = 8 * weight l.part.now + 1

abbrev pub decreases-until : goal.decreases-until
decreases-until l = 8 * (weight l.first.now + weight l.second.now) + 2

abbrev pub decreases-up_to : goal.decreases-up_to
decreases-up_to l = 8 * weight l.part.now + 1
