use Rattle.std.proofs.Common.{◌≡◌, take}
use Rattle.branch_state.specs.Branches.{root_sets}
use Rattle.branch_state.proofs.roots.root_sets.Given as goal

abbrev pub invariant-loop-cell : goal.invariant-loop-cell
invariant-loop-cell l = l.sets ≡ take l.cell (root_sets l.problem)
