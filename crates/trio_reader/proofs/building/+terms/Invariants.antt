-- What the loops over arguments and over parts of sums keep.
use Rattle.std.proofs.Common.{◌≡◌, map, take}
use Rattle.trio_scope.specs.Gather.{variables_from}
use Rattle.trio_reader.specs.Erasure.{term_of, part_from}
use Rattle.trio_reader.proofs.building.+terms.Given as goal

abbrev pub invariant-terms_of-loop-term : goal.invariant-terms_of-loop-term
invariant-terms_of-loop-term l = l.made.items ≡ map (λ t. term_of l.scope.tree.now t (variables_from l.around)) (take l.term-index l.terms)

abbrev pub invariant-parts_of-loop-part : goal.invariant-parts_of-loop-part
invariant-parts_of-loop-part l = l.made.items ≡ map (λ p. part_from l.scope.tree.now p (variables_from l.around)) (take l.part-index l.parts)
