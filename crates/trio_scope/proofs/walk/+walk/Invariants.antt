-- What the loop of `first_among` keeps.
use Rattle.std.proofs.Common.{◌≡◌, take}
use Rattle.std.specs.List.{flat_map}
use Rattle.trio_scope.specs.Places.{least}
use Rattle.trio_scope.specs.Gather.{variables_from, places_in}
use Rattle.trio_scope.proofs.walk.+walk.Given as goal

abbrev pub invariant-first_among-loop-formula : goal.invariant-first_among-loop-formula
invariant-first_among-loop-formula g l =
    (l.around.items ≡ l.fn.around.items)
    × (l.first ≡ least (flat_map (λ f. places_in (g.R.Rule.finding l.rule) f (variables_from l.fn.around.items)) (take l.formula-index l.formulas)))
