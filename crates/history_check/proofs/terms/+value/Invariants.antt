-- What the loops of `read` and `sum` keep.
use Rattle.std.proofs.Common.{map}
use Rattle.trio_types.proofs.Arguments.{Indexed}
use Rattle.history_check.proofs.TermValues.{valued, Summed}
use Rattle.history_check.proofs.terms.+value.Given as goal

abbrev pub invariant-read-loop-place : goal.invariant-read-loop-place
invariant-read-loop-place l = Indexed l.under.spec.now.domains l.domains (map (valued l.under l.instant) l.args) l.place l.indexes

abbrev pub invariant-sum-loop-part : goal.invariant-sum-loop-part
invariant-sum-loop-part l = Summed l.under l.instant l.parts l.part-index l.sum
