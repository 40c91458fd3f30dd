-- What the loop over claims keeps.
use Rattle.std.proofs.Common.{◌≡◌, take}
use Rattle.std.specs.List.{flat_map}
use Rattle.trio_scope.specs.Places.{least}
use Rattle.trio_reader.specs.Ranges.{at_places}
use Rattle.trio_reader.proofs.ranges.first_named.Given as goal

abbrev pub invariant-loop-claim : goal.invariant-loop-claim
invariant-loop-claim l = l.first ≡ least (flat_map (λ c. at_places l.instants c.at) (take l.claim-index l.claims))
