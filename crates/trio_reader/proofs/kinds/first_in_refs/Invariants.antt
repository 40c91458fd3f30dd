-- What the loop over what names domains keeps.
use Rattle.std.proofs.Common.{◌≡◌, take}
use Rattle.std.specs.List.{flat_map}
use Rattle.trio_scope.specs.Places.{least}
use Rattle.trio_reader.specs.Kinds.{wrong_places, ref_uses}
use Rattle.trio_reader.proofs.kinds.first_in_refs.Given as goal

abbrev pub invariant-loop-domain : goal.invariant-loop-domain
invariant-loop-domain l = l.first ≡ least (flat_map (λ r. wrong_places (ref_uses l.world.scope.now.tree.now r)) (take l.domain-index l.refs))
