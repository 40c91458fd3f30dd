-- The law of what a step answers.
use Rattle.std.proofs.Common.{◌≡◌, ℕ, List, subst, sym}
use Rattle.trio_core.specs.declared.nodes.Three.TheVariants as three
use Rattle.trio_core.specs.Stands.{spec_truth3}
use Rattle.branch_state.specs.declared.branch.Branch.{Branch}
use Rattle.branch_state.specs.Posed.{Posed, IsPosed}
use Rattle.branch_state.specs.Branches.{Fits}
use Rattle.decompose.specs.declared.why.Why.{Why}
use Rattle.decompose.specs.Rule.{Closed, Whole, Two, ruled}
use Rattle.decompose.specs.Law.{KeepsLaw}
use Rattle.decompose.specs.Held.{IsShut, IsLeaf, IsFork}
use Rattle.decompose.proofs.Lawful.{step_law, open_law}

pub shut_kept : (p : Posed) (b : Branch) (cause : Why) → IsPosed p → Fits p b → Closed cause ≡ ruled p b → IsShut p b
shut_kept p b cause posed fits is = record { fits = fits; none = subst (KeepsLaw p b) (sym is) (step_law p posed b fits) }

pub leaf_kept : (p : Posed) (b : Branch) (table : List ℕ) → IsPosed p → Fits p b → Whole table ≡ ruled p b → IsLeaf p b table
leaf_kept p b table posed fits is = record { fits = fits; alone = subst (KeepsLaw p b) (sym is) (step_law p posed b fits) }

pub fork_kept : (p : Posed) (b left right : Branch) → IsPosed p → Fits p b → Two left right ≡ ruled p b → IsFork p b left right
fork_kept p b left right posed fits is = record { fits = fits; halves = subst (KeepsLaw p b) (sym is) (step_law p posed b fits) }

pub open_kept : (p : Posed) (b left right : Branch) → Two left right ≡ ruled p b → spec_truth3 p.core b.doms ≡ three.False → ⊥
open_kept p b left right is = open_law p b left right (sym is)
