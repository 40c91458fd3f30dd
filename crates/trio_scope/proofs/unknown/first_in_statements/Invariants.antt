-- What the loop of `first_in_statements` keeps.
use Rattle.std.proofs.Common.{◌≡◌, [], take}
use Rattle.std.specs.List.{flat_map}
use Rattle.trio_scope.specs.Places.{least}
use Rattle.trio_scope.specs.Names.{declarations}
use Rattle.trio_scope.specs.Scope.{unknown_among, names_of_ref, refs_of}
use Rattle.trio_scope.proofs.unknown.first_in_statements.Given as goal

abbrev pub invariant-loop-statement : goal.invariant-loop-statement
invariant-loop-statement l =
    l.first ≡ least (flat_map (λ s. flat_map (λ r. unknown_among (declarations l.scope.tree.now) [] (names_of_ref r)) (refs_of s)) (take l.statement-index l.scope.tree.now.declarations))
