-- What the loop over claims keeps.
use Rattle.std.proofs.Common.{◌≡◌, [], take}
use Rattle.trio_limits.specs.Ground.{world_of_ground}
use Rattle.trio_limits.specs.Claims.{claims_counts}
use Rattle.trio_limits.proofs.limits.claims_counts.Given as goal

abbrev pub invariant-loop-claim : goal.invariant-loop-claim
invariant-loop-claim l = (l.variables.items ≡ []) × (l.counts ≡ claims_counts (world_of_ground l.ground) (take l.claim-index l.claims))
