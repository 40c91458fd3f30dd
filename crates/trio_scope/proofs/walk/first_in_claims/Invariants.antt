-- What the loop of `first_in_claims` keeps.
use Rattle.std.proofs.Common.{◌≡◌, [], take}
use Rattle.std.specs.List.{flat_map}
use Rattle.trio_scope.specs.Places.{least}
use Rattle.trio_scope.specs.Gather.{places_in}
use Rattle.trio_scope.proofs.walk.first_in_claims.Given as goal

abbrev pub invariant-loop-claim : goal.invariant-loop-claim
invariant-loop-claim g l =
    (l.around.items ≡ [])
    × (l.first ≡ least (flat_map (λ c. places_in (g.R.Rule.finding l.rule) c.formula []) (take l.claim-index l.tree.claims)))
