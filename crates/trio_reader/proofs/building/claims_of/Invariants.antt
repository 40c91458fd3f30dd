-- What the loop over claims keeps.
use Rattle.std.proofs.Common.{◌≡◌, [], take}
use Rattle.trio_reader.specs.Erasure.{claims_from}
use Rattle.trio_reader.proofs.building.claims_of.Given as goal

abbrev pub invariant-loop-claim : goal.invariant-loop-claim
invariant-loop-claim l =
    (l.around.items ≡ []) × (l.made.items ≡ claims_from l.scope.tree.now l.goals (take l.claim-index l.scope.tree.now.claims))
