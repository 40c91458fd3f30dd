use Rattle.std.proofs.Common.{◌≡◌, take}
use Rattle.std.specs.List.{flat_map}
use Rattle.trio_core.specs.Stands.{world_of_core}
use Rattle.branch_state.specs.Branches.{wants_of_root}
use Rattle.branch_state.proofs.roots.root_wants.Given as goal

abbrev pub invariant-loop-root : goal.invariant-loop-root
invariant-loop-root l = l.wants.items ≡ flat_map (wants_of_root (world_of_core l.problem.core)) (take l.root-index l.problem.core.roots)
