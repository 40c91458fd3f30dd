-- What the loop of `spec_truth3` keeps.
use Rattle.std.proofs.Common.{◌≡◌, drop}
use Rattle.trio_core.specs.Three.{all3, and3}
use Rattle.trio_core.specs.Stands.{root_truth3}
use Rattle.trio_core.proofs.truth.spec_truth3.Given as goal

-- what was found so far with what the roots left over give is the answer
abbrev pub invariant-loop-root : goal.invariant-loop-root
invariant-loop-root l =
    and3 l.found (all3 (root_truth3 l.core l.doms) (drop l.root-index l.core.roots)) ≡ all3 (root_truth3 l.core l.doms) l.core.roots
