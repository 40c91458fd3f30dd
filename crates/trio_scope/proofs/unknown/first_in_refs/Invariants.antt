-- What the loop of `first_in_refs` keeps.
use Rattle.std.proofs.Common.{◌≡◌, [], take}
use Rattle.std.specs.List.{flat_map}
use Rattle.trio_scope.specs.Places.{least}
use Rattle.trio_scope.specs.Names.{declarations}
use Rattle.trio_scope.specs.Scope.{unknown_among, names_of_ref}
use Rattle.trio_scope.proofs.unknown.first_in_refs.Given as goal

abbrev pub invariant-loop-domain : goal.invariant-loop-domain
invariant-loop-domain l =
    l.first ≡ least (flat_map (λ r. unknown_among (declarations l.scope.tree.now) [] (names_of_ref r)) (take l.domain-index l.refs))
