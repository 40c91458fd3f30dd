use Rattle.std.proofs.Common.{◌≡◌, map, take}
use Rattle.branch_state.specs.Branches.{single_set}
use Rattle.branch_state.proofs.roots.of_table.Given as goal

abbrev pub invariant-loop-index : goal.invariant-loop-index
invariant-loop-index l = l.doms ≡ map single_set (take l.index-index l.table)
