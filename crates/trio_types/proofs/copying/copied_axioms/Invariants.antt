-- What the loop over axioms keeps.
use Rattle.std.proofs.Common.{◌≡◌, take}
use Rattle.trio_types.proofs.copying.copied_axioms.Given as goal

abbrev pub invariant-loop-claim : goal.invariant-loop-claim
invariant-loop-claim l = l.made.items ≡ take l.claim-index l.axioms
