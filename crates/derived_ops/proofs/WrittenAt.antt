-- What each formula becomes, form by form.
use Rattle.std.proofs.Common.{◌≡◌, ℕ, List, map, ap, sym, ◌∙◌}
use Rattle.trio_base.specs.declared.operators.Rel.{Rel}
use Rattle.trio_base.specs.declared.operators.Rel.TheVariants as rel
use Rattle.trio_base.specs.declared.operators.OneOp.{OneOp}
use Rattle.trio_base.specs.declared.operators.FarOp.{FarOp}
use Rattle.trio_base.specs.declared.operators.PairOp.{PairOp}
use Rattle.trio_types.specs.declared.formula.Term.{Term}
use Rattle.trio_types.specs.declared.formula.Term.TheVariants as term
use Rattle.trio_types.specs.declared.formula.Formula.{Formula}
use Rattle.trio_types.specs.declared.formula.Formula.TheVariants as formula
use Rattle.trio_types.specs.declared.formula.Formula.TheOpen.{Formula-F}
use Rattle.trio_types.specs.declared.formula.Formula.TheOpen as open_formula
use Rattle.trio_types.specs.declared.formula.Formula.TheFolds.{fold-roll-Formula, map-Formula}
use Rattle.trio_types.specs.declared.formula.Formula.TheViews.{roll-Formula}
use Rattle.trio_types.specs.World.{World}
use Rattle.trio_types.proofs.Lists.{map-map}
use Rattle.derived_ops.specs.Shape.{atom, no, either, equal}
use Rattle.derived_ops.specs.declared.joint.Joint.TheVariants as joint
use Rattle.derived_ops.specs.Rewriting.{Levels, Written, renamed, opposite, all_joined, range_of_domain, for_some, one_written, far_written, way_of, until, formula_written, written}

written_at : (w : World) {f : Formula} (x : Formula-F Formula) → roll-Formula x ≡ f → (k : ℕ) (ls : Levels) →
    written w f k ls ≡ formula_written w (map-Formula Formula Written (written w) x) k ls
unfolding written
written_at w x is k ls = ap (λ f. written w f k ls) (sym is) ∙ ap (λ (f : Written). f k ls) (fold-roll-Formula Written (formula_written w) x)

module _ (w : World) (k : ℕ) (ls : Levels) where
  pub written-Lone : (x : Term) → written w (formula.Lone x) k ls ≡ atom rel.Eq (renamed ls x) (term.Value 0 1)
  written-Lone x = written_at w (open_formula.Lone x) (formula.rolls-Lone x) k ls

  pub written-Compare : (r : Rel) (x y : Term) → written w (formula.Compare r x y) k ls ≡ atom r (renamed ls x) (renamed ls y)
  written-Compare r x y = written_at w (open_formula.Compare r x y) (formula.rolls-Compare r x y) k ls

  pub written-Not : (f : Formula) → written w (formula.Not f) k ls ≡ no (written w f k ls)
  written-Not f = written_at w (open_formula.Not f) (formula.rolls-Not f) k ls

  pub written-And : (fs : List Formula) → written w (formula.And fs) k ls ≡ all_joined joint.And (map (λ f. written w f k ls) fs)
  written-And fs = written_at w (open_formula.And fs) (formula.rolls-And fs) k ls ∙ ap (all_joined joint.And) (map-map (λ (f : Written). f k ls) (written w) fs)

  pub written-Or : (fs : List Formula) → written w (formula.Or fs) k ls ≡ all_joined joint.Or (map (λ f. written w f k ls) fs)
  written-Or fs = written_at w (open_formula.Or fs) (formula.rolls-Or fs) k ls ∙ ap (all_joined joint.Or) (map-map (λ (f : Written). f k ls) (written w) fs)

  pub written-Implies : (f g : Formula) → written w (formula.Implies f g) k ls ≡ either (no (written w f k ls)) (written w g k ls)
  written-Implies f g = written_at w (open_formula.Implies f g) (formula.rolls-Implies f g) k ls

  pub written-Iff : (f g : Formula) → written w (formula.Iff f g) k ls ≡ equal (written w f k ls) (written w g k ls)
  written-Iff f g = written_at w (open_formula.Iff f g) (formula.rolls-Iff f g) k ls

  pub written-All : (name : List ℕ) (d : ℕ) (f : Formula) → written w (formula.All name d f) k ls ≡ opposite (for_some (range_of_domain w d) (opposite (written w f))) k ls
  written-All name d f = written_at w (open_formula.All name d f) (formula.rolls-All name d f) k ls

  pub written-Ex : (name : List ℕ) (d : ℕ) (f : Formula) → written w (formula.Ex name d f) k ls ≡ for_some (range_of_domain w d) (written w f) k ls
  written-Ex name d f = written_at w (open_formula.Ex name d f) (formula.rolls-Ex name d f) k ls

  pub written-One : (o : OneOp) (f : Formula) → written w (formula.One o f) k ls ≡ one_written w o (written w f) k ls
  written-One o f = written_at w (open_formula.One o f) (formula.rolls-One o f) k ls

  pub written-Far : (o : FarOp) (f : Formula) (x : Term) → written w (formula.Far o f x) k ls ≡ far_written w o (written w f) x k ls
  written-Far o f x = written_at w (open_formula.Far o f x) (formula.rolls-Far o f x) k ls

  pub written-Pair : (o : PairOp) (f g : Formula) → written w (formula.Pair o f g) k ls ≡ until w (way_of o) (written w f) (written w g) k ls
  written-Pair o f g = written_at w (open_formula.Pair o f g) (formula.rolls-Pair o f g) k ls
