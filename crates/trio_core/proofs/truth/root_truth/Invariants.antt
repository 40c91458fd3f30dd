-- What the loop of `root_truth` keeps.
use Rattle.std.proofs.Common.{◌≡◌, [], drop}
use Rattle.trio_types.specs.World.{instants_of}
use Rattle.trio_core.specs.Three.{core_truth3, all3, and3}
use Rattle.trio_core.specs.Stands.{world_of_core}
use Rattle.trio_core.proofs.truth.root_truth.Given as goal

-- what was found so far with what the instants left over give is the answer
abbrev pub invariant-loop-instant : goal.invariant-loop-instant
invariant-loop-instant l =
    and3 l.found (all3 (λ i. core_truth3 (world_of_core l.core) l.core.nodes l.root.node 0 [] l.doms i) (drop l.instant (instants_of (world_of_core l.core))))
    ≡ all3 (λ i. core_truth3 (world_of_core l.core) l.core.nodes l.root.node 0 [] l.doms i) (instants_of (world_of_core l.core))
