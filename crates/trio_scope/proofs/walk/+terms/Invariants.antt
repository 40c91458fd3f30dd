-- What the loops over arguments and over parts of sums keep.
use Rattle.std.proofs.Common.{◌≡◌, take}
use Rattle.trio_scope.specs.Places.{least}
use Rattle.trio_scope.specs.Gather.{variables_from, places_in_arguments, places_in_sum}
use Rattle.trio_scope.proofs.walk.+terms.Given as goal

abbrev pub invariant-first_in_arguments-loop-argument : goal.invariant-first_in_arguments-loop-argument
invariant-first_in_arguments-loop-argument g l =
    l.first ≡ least (places_in_arguments (g.R.Rule.finding l.rule) (variables_from l.around) (take l.argument-index l.arguments))

abbrev pub invariant-first_in_sum-loop-part : goal.invariant-first_in_sum-loop-part
invariant-first_in_sum-loop-part g l =
    l.first ≡ least (places_in_sum (g.R.Rule.finding l.rule) (variables_from l.around) l.inside (take l.part-index l.parts))
