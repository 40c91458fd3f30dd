-- The rule keeps the law.
use Rattle.std.proofs.Common.{◌≡◌, ℕ, Bool, true, false, ◌&&◌, List, [], sym, ap, ◌∙◌, refl, arith}
use Rattle.std.specs.List.{list_all}
use Rattle.std.proofs.lemmas.Bool.{false≢true}
use Rattle.trio_core.specs.declared.nodes.Three.{Three}
use Rattle.trio_core.specs.declared.nodes.Three.TheVariants as three
use Rattle.trio_core.specs.Stands.{spec_truth3}
use Rattle.trio_core.proofs.Decided.{whole_truth_law}
use Rattle.trio_core.proofs.Standing.{stands_law}
use Rattle.branch_state.specs.declared.branch.Branch.{Branch}
use Rattle.branch_state.specs.Posed.{Posed, IsPosed}
use Rattle.branch_state.specs.Models.{IsModel}
use Rattle.branch_state.specs.Branches.{lies_in, want_holds, reps, Fits}
use Rattle.branch_state.proofs.Represented.{reps_none, lies_in_core}
use Rattle.decompose.specs.declared.why.Why.{Why}
use Rattle.decompose.specs.declared.why.Why.TheVariants as why
use Rattle.decompose.specs.Rule.{Closed, Two, wants_weight, settled, ruled_by}
use Rattle.decompose.specs.Law.{KeepsLaw, StepLaw, OpenLaw}
use Rattle.decompose.proofs.Settling.{settle_law}

-- a branch under whose sets the specification is false represents nothing
false_law : (p : Posed) → IsPosed p → (b : Branch) → Fits p b → spec_truth3 p.core b.doms ≡ three.False → reps p b ≡ []
false_law p posed b fits is = reps_none p b (λ table model. at table model (lies_in b.doms table) refl)
  where
    at : (table : List ℕ) → IsModel p table → (l : Bool) → lies_in b.doms table ≡ l → (l && list_all (want_holds p table) b.wants) ≡ false
    at table model true lies =
        absurd (false≢true (sym (whole_truth_law p.core b.doms table (lies_in_core p posed b fits table model lies) false is)
        ∙ stands_law p.core p.spec posed.stands table ∙ model.is_true))
    at table model false lies = refl

not_false : ◌≡◌ {A = Three} three.Unknown three.False → ⊥
not_false e = cc

true_not_false : ◌≡◌ {A = Three} three.True three.False → ⊥
true_not_false e = cc

closed_not_two : (cause : Why) (left right : Branch) → Closed cause ≡ Two left right → ⊥
closed_not_two cause left right e = cc

pub step_law : StepLaw
step_law p posed b fits = at (spec_truth3 p.core b.doms) refl
  where
    settled_law : (spec_truth3 p.core b.doms ≡ three.False → ⊥) → KeepsLaw p b (settled p b.doms b.wants)
    settled_law open_ = settle_law p posed b.doms open_ (wants_weight p b.wants) b.wants fits (omega arith)

    at : (v : Three) → spec_truth3 p.core b.doms ≡ v → KeepsLaw p b (ruled_by v (settled p b.doms b.wants))
    at three.False is = false_law p posed b fits is
    at three.Unknown is = settled_law (λ e. not_false (sym is ∙ e))
    at three.True is = settled_law (λ e. true_not_false (sym is ∙ e))

pub open_law : OpenLaw
open_law p b left right two is =
    closed_not_two why.False left right (sym (ap (λ v. ruled_by v (settled p b.doms b.wants)) is) ∙ two)
