-- What the loop over statements keeps.
use Rattle.std.proofs.Common.{◌≡◌, take}
use Rattle.std.specs.List.{flat_map}
use Rattle.trio_scope.specs.Places.{least}
use Rattle.trio_scope.specs.Scope.{refs_of}
use Rattle.trio_reader.specs.Kinds.{wrong_places, ref_uses}
use Rattle.trio_reader.proofs.kinds.first_in_statements.Given as goal

abbrev pub invariant-loop-statement : goal.invariant-loop-statement
invariant-loop-statement l =
    l.first ≡ least (flat_map (λ s. flat_map (λ r. wrong_places (ref_uses l.world.scope.now.tree.now r)) (refs_of s))
    (take l.statement-index l.world.scope.now.tree.now.declarations))
