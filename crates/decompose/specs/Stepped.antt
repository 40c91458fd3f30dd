-- What a step answers.
use Rattle.std.specs.Prelude.{◌≡◌}
use Rattle.trio_core.specs.declared.nodes.Three.TheVariants as three
use Rattle.trio_core.specs.Stands.{spec_truth3}
use Rattle.branch_state.specs.declared.branch.Branch.{Branch}
use Rattle.branch_state.specs.Posed.{Posed}
use Rattle.decompose.specs.declared.stepping.Stepped.{Stepped}
use Rattle.decompose.specs.declared.stepping.Stepped.TheVariants as stepped
use Rattle.decompose.specs.Rule.{Ruled, Closed, Whole, Two}

-- what the answer says of the branch
abbrev pub answer : Stepped → Ruled
answer (stepped.Closed shut) = Closed shut.why
answer (stepped.Whole leaf) = Whole leaf.table
answer (stepped.Two fork left right) = Two left right

-- the answer holds the problem and the branch that were handed in, and a fork the two branches that stand beside it;
-- no branch is parted under whose sets the specification is false
abbrev pub IsStep : Posed → Branch → Stepped → Type 0
IsStep p b (stepped.Closed shut) = (shut.problem ≡ p) × (shut.start ≡ b)
IsStep p b (stepped.Whole leaf) = (leaf.problem ≡ p) × (leaf.start ≡ b)
IsStep p b (stepped.Two fork left right) =
    (fork.problem ≡ p) × (fork.start ≡ b) × (fork.left ≡ left) × (fork.right ≡ right) × (spec_truth3 p.core b.doms ≡ three.False → ⊥)
