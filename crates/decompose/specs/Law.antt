-- The law of one step: what the rule makes of a branch represents what the branch represents.
use Rattle.std.specs.Prelude.{◌≡◌, ℕ, ◌<◌, ◌≤◌, [], ◌∷◌, ◌++◌}
use Rattle.trio_core.specs.declared.nodes.Three.TheVariants as three
use Rattle.trio_core.specs.Stands.{spec_truth3}
use Rattle.trio_lists.specs.Multisets.{Permutes}
use Rattle.branch_state.specs.declared.branch.Branch.{Branch}
use Rattle.branch_state.specs.Posed.{Posed, IsPosed}
use Rattle.branch_state.specs.Branches.{reps, Fits}
use Rattle.branch_state.specs.Weight.{weight}
use Rattle.decompose.specs.Rule.{Ruled, Closed, Whole, Two, wants_weight, settle, settled, ruled}

-- two branches are the halves of one: together they represent its models, each once, and both fit and are lighter
pub record AreHalves (p : Posed) (b left right : Branch) : Type 0 where
  pub both : Permutes (reps p b) (reps p left ++ reps p right)
  pub left_fits : Fits p left
  pub right_fits : Fits p right
  pub left_lighter : weight p left < weight p b
  pub right_lighter : weight p right < weight p b

-- a closed branch represents no model, a whole one its table alone, and one that is parted what its two halves do
abbrev pub KeepsLaw : Posed → Branch → Ruled → Type 0
KeepsLaw p b (Closed cause) = reps p b ≡ []
KeepsLaw p b (Whole table) = reps p b ≡ table ∷ []
KeepsLaw p b (Two left right) = AreHalves p b left right

-- the rule keeps the law at each branch that fits
abbrev pub StepLaw : Type 0
StepLaw = (p : Posed) → IsPosed p → (b : Branch) → Fits p b → KeepsLaw p b (ruled p b)

-- no branch is parted under whose sets the specification is false
abbrev pub OpenLaw : Type 0
OpenLaw = (p : Posed) (b left right : Branch) → ruled p b ≡ Two left right → spec_truth3 p.core b.doms ≡ three.False → ⊥

-- settling has come to its end within the steps that the rule allows: further steps change nothing
abbrev pub EnoughLaw : Type 0
EnoughLaw =
    (p : Posed) (b : Branch) → Fits p b → (steps : ℕ) → wants_weight p b.wants ≤ steps → settle p b.doms steps b.wants ≡ settled p b.doms b.wants
