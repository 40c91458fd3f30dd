-- What the loop over parts keeps.
use Rattle.std.proofs.Common.{◌≡◌, map, take}
use Rattle.trio_scope.specs.Gather.{variables_from}
use Rattle.trio_reader.specs.Erasure.{formula_of}
use Rattle.trio_reader.proofs.building.+building.Given as goal

abbrev pub invariant-formulas_of-loop-formula : goal.invariant-formulas_of-loop-formula
invariant-formulas_of-loop-formula l =
    (l.around.items ≡ l.fn.around.items)
    × (l.made.items ≡ map (λ f. formula_of l.scope.tree.now f (variables_from l.fn.around.items)) (take l.formula-index l.formulas))
