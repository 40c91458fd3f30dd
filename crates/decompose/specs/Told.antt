-- What the parts of a step tell, in the words of the rule.
use Rattle.std.specs.Prelude.{ℕ, ◌<◌, List, [], ◌∷◌, Some, length}
use Rattle.trio_types.specs.World.{World}
use Rattle.branch_state.specs.declared.branch.Want.{Want}
use Rattle.branch_state.specs.Branches.{branch}
use Rattle.decompose.specs.declared.why.Why.TheVariants as why
use Rattle.decompose.specs.declared.fates.Fate as the_fate
use Rattle.decompose.specs.declared.fates.Fate.TheVariants as fate
use Rattle.decompose.specs.declared.settlement.Settled as the_settled
use Rattle.decompose.specs.declared.settlement.Settled.TheVariants as settled
use Rattle.decompose.specs.declared.decision.Decision.{Decision}
use Rattle.decompose.specs.declared.decision.Decision.TheVariants as decision
use Rattle.decompose.specs.Rule.{Fate, Refuted, Becomes, Parts, Cuts, Ruled, Closed, Whole, Two, unwanted, cut_for_atom}

abbrev pub fate_told : the_fate.Fate → Fate
fate_told fate.Refuted = Refuted
fate_told fate.Dropped = Becomes []
fate_told (fate.One first) = Becomes (first ∷ [])
fate_told (fate.Both first second) = Becomes (first ∷ second ∷ [])
fate_told (fate.Parts left first second) = Parts (left ∷ []) (first ∷ second ∷ [])
fate_told (fate.Cuts cell) = Cuts cell

-- where settling ended, with the wants that stand behind
abbrev pub settled_told : World → List ℕ → the_settled.Settled → List Want → Ruled
settled_told world sets settled.Refuted wants = Closed why.Want
settled_told world sets settled.Unwanted wants = unwanted world sets
settled_told world sets (settled.Parts left first second) wants = Two (branch sets (left ∷ wants)) (branch sets (first ∷ second ∷ wants))
settled_told world sets (settled.Cuts cell) wants = cut_for_atom world sets wants cell

-- the cell by whose values the branch is parted has a set
abbrev pub CutsInside : List ℕ → the_settled.Settled → Type 0
CutsInside sets (settled.Cuts (Some cell)) = cell < length sets
CutsInside sets told = Unit

abbrev pub decision_told : Decision → Ruled
decision_told (decision.Closed cause) = Closed cause
decision_told (decision.Whole table) = Whole table
decision_told (decision.Two left right) = Two left right
