-- What the loop over arguments keeps: what was found, and what is found in the rest.
use Rattle.std.proofs.Common.{◌≡◌, map}
use Rattle.std.specs.List.{zip}
use Rattle.trio_scope.specs.Places.{earlier, least}
use Rattle.trio_scope.specs.Gather.{variables_from}
use Rattle.trio_reader.specs.Kinds.{wrong_places, argument_use}
use Rattle.trio_reader.proofs.kinds.first_in_arguments.Given as goal

abbrev pub invariant-loop-domain : goal.invariant-loop-domain
invariant-loop-domain l =
    least (wrong_places (map (argument_use l.world.scope.now.tree.now (variables_from l.around)) (zip l.domains l.arguments)))
    ≡ earlier l.first (least (wrong_places (map (argument_use l.world.scope.now.tree.now (variables_from l.around))
    (zip l.domain-iterator.a.rest.now l.domain-iterator.b.rest.now))))
