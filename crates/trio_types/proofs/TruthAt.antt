-- What truth is at each variant and operator.
use Rattle.std.proofs.Common.{◌≡◌, ℕ, ℤ, pos, neg_ℤ, not, ◌&&◌, ◌||◌, List, [], ◌∷◌, ◌++◌, ap, sym, ◌∙◌}
use Rattle.std.specs.List.{list_all, list_any}
use Rattle.std.specs.Option.{option_map}
use Rattle.std.proofs.lemmas.List.Folds.{list_all-map}
use Rattle.trio_base.specs.declared.operators.Rel.{Rel}
use Rattle.trio_base.specs.declared.operators.OneOp.{OneOp}
use Rattle.trio_base.specs.declared.operators.OneOp.TheVariants as one
use Rattle.trio_base.specs.declared.operators.Ends.{Ends}
use Rattle.trio_base.specs.declared.operators.Ends.TheVariants as ends
use Rattle.trio_base.specs.declared.operators.FarOp.{FarOp}
use Rattle.trio_base.specs.declared.operators.FarOp.TheVariants as far
use Rattle.trio_base.specs.declared.operators.PairOp.{PairOp}
use Rattle.trio_base.specs.declared.operators.PairOp.TheVariants as pair
use Rattle.trio_types.specs.declared.formula.Term.{Term}
use Rattle.trio_types.specs.declared.formula.Formula.{Formula}
use Rattle.trio_types.specs.declared.formula.Formula.TheVariants as formula
use Rattle.trio_types.specs.declared.formula.Formula.TheOpen.{Formula-F}
use Rattle.trio_types.specs.declared.formula.Formula.TheOpen as open_formula
use Rattle.trio_types.specs.declared.formula.Formula.TheFolds.{fold-roll-Formula, map-Formula}
use Rattle.trio_types.specs.declared.formula.Formula.TheViews.{roll-Formula}
use Rattle.trio_types.specs.World.{World, instants_of, values_in}
use Rattle.trio_types.specs.Values.{value}
use Rattle.trio_types.specs.Truth.{Truth, truth, formula_truth, is_value, relates, is_iff, after, before, between, at_distance, is_not_negative, ahead, behind, one_truth, far_truth, pair_truth}
use Rattle.trio_types.proofs.Lists.{list_any-map}

truth_at : (w : World) {f : Formula} (x : Formula-F Formula) → roll-Formula x ≡ f → truth w f ≡ formula_truth w (map-Formula Formula Truth (truth w) x)
unfolding truth
truth_at w x is = ap (truth w) (sym is) ∙ fold-roll-Formula Truth (formula_truth w) x

pub truth-Lone : (w : World) (x : Term) (e : List ℤ) (t : List ℕ) (i : ℕ) → truth w (formula.Lone x) e t i ≡ is_value (pos 1) (value w x e t i)
truth-Lone w x e t i = ap (λ f. f e t i) (truth_at w (open_formula.Lone x) (formula.rolls-Lone x))

pub truth-Compare : (w : World) (r : Rel) (x y : Term) (e : List ℤ) (t : List ℕ) (i : ℕ) → truth w (formula.Compare r x y) e t i ≡ relates r (value w x e t i) (value w y e t i)
truth-Compare w r x y e t i = ap (λ f. f e t i) (truth_at w (open_formula.Compare r x y) (formula.rolls-Compare r x y))

pub truth-Not : (w : World) (f : Formula) (e : List ℤ) (t : List ℕ) (i : ℕ) → truth w (formula.Not f) e t i ≡ not (truth w f e t i)
truth-Not w f e t i = ap (λ f. f e t i) (truth_at w (open_formula.Not f) (formula.rolls-Not f))

pub truth-And : (w : World) (fs : List Formula) (e : List ℤ) (t : List ℕ) (i : ℕ) → truth w (formula.And fs) e t i ≡ list_all (λ f. truth w f e t i) fs
truth-And w fs e t i = ap (λ f. f e t i) (truth_at w (open_formula.And fs) (formula.rolls-And fs)) ∙ list_all-map (λ f. f e t i) (truth w) fs

pub truth-Or : (w : World) (fs : List Formula) (e : List ℤ) (t : List ℕ) (i : ℕ) → truth w (formula.Or fs) e t i ≡ list_any (λ f. truth w f e t i) fs
truth-Or w fs e t i = ap (λ f. f e t i) (truth_at w (open_formula.Or fs) (formula.rolls-Or fs)) ∙ list_any-map (λ f. f e t i) (truth w) fs

pub truth-Implies : (w : World) (f g : Formula) (e : List ℤ) (t : List ℕ) (i : ℕ) → truth w (formula.Implies f g) e t i ≡ (not (truth w f e t i) || truth w g e t i)
truth-Implies w f g e t i = ap (λ f. f e t i) (truth_at w (open_formula.Implies f g) (formula.rolls-Implies f g))

pub truth-Iff : (w : World) (f g : Formula) (e : List ℤ) (t : List ℕ) (i : ℕ) → truth w (formula.Iff f g) e t i ≡ is_iff (truth w f e t i) (truth w g e t i)
truth-Iff w f g e t i = ap (λ f. f e t i) (truth_at w (open_formula.Iff f g) (formula.rolls-Iff f g))

pub truth-All : (w : World) (name : List ℕ) (d : ℕ) (f : Formula) (e : List ℤ) (t : List ℕ) (i : ℕ) → truth w (formula.All name d f) e t i ≡ list_all (λ v. truth w f (e ++ v ∷ []) t i) (values_in w.domains d)
truth-All w name d f e t i = ap (λ f. f e t i) (truth_at w (open_formula.All name d f) (formula.rolls-All name d f))

pub truth-Ex : (w : World) (name : List ℕ) (d : ℕ) (f : Formula) (e : List ℤ) (t : List ℕ) (i : ℕ) → truth w (formula.Ex name d f) e t i ≡ list_any (λ v. truth w f (e ++ v ∷ []) t i) (values_in w.domains d)
truth-Ex w name d f e t i = ap (λ f. f e t i) (truth_at w (open_formula.Ex name d f) (formula.rolls-Ex name d f))

pub truth-Alw : (w : World) (f : Formula) (e : List ℤ) (t : List ℕ) (i : ℕ) → truth w (formula.One one.Alw f) e t i ≡ list_all (λ j. truth w f e t j) (instants_of w)
truth-Alw w f e t i = ap (λ f. f e t i) (truth_at w (open_formula.One one.Alw f) (formula.rolls-One one.Alw f))

pub truth-Som : (w : World) (f : Formula) (e : List ℤ) (t : List ℕ) (i : ℕ) → truth w (formula.One one.Som f) e t i ≡ list_any (λ j. truth w f e t j) (instants_of w)
truth-Som w f e t i = ap (λ f. f e t i) (truth_at w (open_formula.One one.Som f) (formula.rolls-One one.Som f))

pub truth-AlwF : (w : World) (f : Formula) (e : List ℤ) (t : List ℕ) (i : ℕ) → truth w (formula.One one.AlwF f) e t i ≡ list_all (λ j. truth w f e t j) (after w i)
truth-AlwF w f e t i = ap (λ f. f e t i) (truth_at w (open_formula.One one.AlwF f) (formula.rolls-One one.AlwF f))

pub truth-SomF : (w : World) (f : Formula) (e : List ℤ) (t : List ℕ) (i : ℕ) → truth w (formula.One one.SomF f) e t i ≡ list_any (λ j. truth w f e t j) (after w i)
truth-SomF w f e t i = ap (λ f. f e t i) (truth_at w (open_formula.One one.SomF f) (formula.rolls-One one.SomF f))

pub truth-AlwP : (w : World) (f : Formula) (e : List ℤ) (t : List ℕ) (i : ℕ) → truth w (formula.One one.AlwP f) e t i ≡ list_all (λ j. truth w f e t j) (before w i)
truth-AlwP w f e t i = ap (λ f. f e t i) (truth_at w (open_formula.One one.AlwP f) (formula.rolls-One one.AlwP f))

pub truth-SomP : (w : World) (f : Formula) (e : List ℤ) (t : List ℕ) (i : ℕ) → truth w (formula.One one.SomP f) e t i ≡ list_any (λ j. truth w f e t j) (before w i)
truth-SomP w f e t i = ap (λ f. f e t i) (truth_at w (open_formula.One one.SomP f) (formula.rolls-One one.SomP f))

pub truth-Dist : (w : World) (f : Formula) (x : Term) (e : List ℤ) (t : List ℕ) (i : ℕ) → truth w (formula.Far far.Dist f x) e t i ≡ list_any (λ j. truth w f e t j) (at_distance w i (value w x e t i))
truth-Dist w f x e t i = ap (λ f. f e t i) (truth_at w (open_formula.Far far.Dist f x) (formula.rolls-Far far.Dist f x))

pub truth-Futr : (w : World) (f : Formula) (x : Term) (e : List ℤ) (t : List ℕ) (i : ℕ) → truth w (formula.Far far.Futr f x) e t i ≡ (is_not_negative (value w x e t i) && list_any (λ j. truth w f e t j) (at_distance w i (value w x e t i)))
truth-Futr w f x e t i = ap (λ f. f e t i) (truth_at w (open_formula.Far far.Futr f x) (formula.rolls-Far far.Futr f x))

pub truth-Past : (w : World) (f : Formula) (x : Term) (e : List ℤ) (t : List ℕ) (i : ℕ) → truth w (formula.Far far.Past f x) e t i ≡ (is_not_negative (value w x e t i) && list_any (λ j. truth w f e t j) (at_distance w i (option_map neg_ℤ (value w x e t i))))
truth-Past w f x e t i = ap (λ f. f e t i) (truth_at w (open_formula.Far far.Past f x) (formula.rolls-Far far.Past f x))

pub truth-NextTime : (w : World) (f : Formula) (x : Term) (e : List ℤ) (t : List ℕ) (i : ℕ) → truth w (formula.Far far.NextTime f x) e t i ≡ ((is_not_negative (value w x e t i) && list_any (λ j. truth w f e t j) (at_distance w i (value w x e t i))) && list_all (λ j. not (truth w f e t j)) (ahead w ends.Bare i (value w x e t i)))
truth-NextTime w f x e t i = ap (λ f. f e t i) (truth_at w (open_formula.Far far.NextTime f x) (formula.rolls-Far far.NextTime f x))

pub truth-LastTime : (w : World) (f : Formula) (x : Term) (e : List ℤ) (t : List ℕ) (i : ℕ) → truth w (formula.Far far.LastTime f x) e t i ≡ ((is_not_negative (value w x e t i) && list_any (λ j. truth w f e t j) (at_distance w i (option_map neg_ℤ (value w x e t i)))) && list_all (λ j. not (truth w f e t j)) (behind w ends.Bare i (value w x e t i)))
truth-LastTime w f x e t i = ap (λ f. f e t i) (truth_at w (open_formula.Far far.LastTime f x) (formula.rolls-Far far.LastTime f x))

pub truth-Lasts : (w : World) (s : Ends) (f : Formula) (x : Term) (e : List ℤ) (t : List ℕ) (i : ℕ) → truth w (formula.Far (far.Lasts s) f x) e t i ≡ list_all (λ j. truth w f e t j) (ahead w s i (value w x e t i))
truth-Lasts w s f x e t i = ap (λ f. f e t i) (truth_at w (open_formula.Far (far.Lasts s) f x) (formula.rolls-Far (far.Lasts s) f x))

pub truth-WithinF : (w : World) (s : Ends) (f : Formula) (x : Term) (e : List ℤ) (t : List ℕ) (i : ℕ) → truth w (formula.Far (far.WithinF s) f x) e t i ≡ list_any (λ j. truth w f e t j) (ahead w s i (value w x e t i))
truth-WithinF w s f x e t i = ap (λ f. f e t i) (truth_at w (open_formula.Far (far.WithinF s) f x) (formula.rolls-Far (far.WithinF s) f x))

pub truth-Lasted : (w : World) (s : Ends) (f : Formula) (x : Term) (e : List ℤ) (t : List ℕ) (i : ℕ) → truth w (formula.Far (far.Lasted s) f x) e t i ≡ list_all (λ j. truth w f e t j) (behind w s i (value w x e t i))
truth-Lasted w s f x e t i = ap (λ f. f e t i) (truth_at w (open_formula.Far (far.Lasted s) f x) (formula.rolls-Far (far.Lasted s) f x))

pub truth-WithinP : (w : World) (s : Ends) (f : Formula) (x : Term) (e : List ℤ) (t : List ℕ) (i : ℕ) → truth w (formula.Far (far.WithinP s) f x) e t i ≡ list_any (λ j. truth w f e t j) (behind w s i (value w x e t i))
truth-WithinP w s f x e t i = ap (λ f. f e t i) (truth_at w (open_formula.Far (far.WithinP s) f x) (formula.rolls-Far (far.WithinP s) f x))

pub truth-Until : (w : World) (f g : Formula) (e : List ℤ) (t : List ℕ) (i : ℕ) → truth w (formula.Pair pair.Until f g) e t i ≡ list_any (λ j. truth w g e t j && list_all (λ k. truth w f e t k) (between w i j)) (after w i)
truth-Until w f g e t i = ap (λ f. f e t i) (truth_at w (open_formula.Pair pair.Until f g) (formula.rolls-Pair pair.Until f g))

pub truth-Since : (w : World) (f g : Formula) (e : List ℤ) (t : List ℕ) (i : ℕ) → truth w (formula.Pair pair.Since f g) e t i ≡ list_any (λ j. truth w g e t j && list_all (λ k. truth w f e t k) (between w j i)) (before w i)
truth-Since w f g e t i = ap (λ f. f e t i) (truth_at w (open_formula.Pair pair.Since f g) (formula.rolls-Pair pair.Since f g))

-- any operator
pub truth-One : (w : World) (o : OneOp) (f : Formula) (e : List ℤ) (t : List ℕ) (i : ℕ) → truth w (formula.One o f) e t i ≡ one_truth w o (truth w f e t) i
truth-One w o f e t i = ap (λ f. f e t i) (truth_at w (open_formula.One o f) (formula.rolls-One o f))

pub truth-Far : (w : World) (o : FarOp) (f : Formula) (x : Term) (e : List ℤ) (t : List ℕ) (i : ℕ) →
    truth w (formula.Far o f x) e t i ≡ far_truth w o (truth w f e t) i (value w x e t i)
truth-Far w o f x e t i = ap (λ f. f e t i) (truth_at w (open_formula.Far o f x) (formula.rolls-Far o f x))

pub truth-Pair : (w : World) (o : PairOp) (f g : Formula) (e : List ℤ) (t : List ℕ) (i : ℕ) →
    truth w (formula.Pair o f g) e t i ≡ pair_truth w o (truth w f e t) (truth w g e t) i
truth-Pair w o f g e t i = ap (λ f. f e t i) (truth_at w (open_formula.Pair o f g) (formula.rolls-Pair o f g))
