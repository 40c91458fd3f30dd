-- The parts of formulas that fit.
use Rattle.std.proofs.Common.{◌≡◌, ℕ, zero, suc, ◌+◌, ◌≤◌, max, ℤ, Bool, true, false, List, [], ◌∷◌, ◌++◌, map, length, Some, slice_get, subst, sym, ap, ◌∙◌, arith}
use Rattle.std.specs.List.{list_all, flat_map}
use Rattle.std.specs.Option.{option_map}
use Rattle.std.proofs.Math.Logic.{⊎_elim}
use Rattle.std.proofs.lemmas.Bool.{and_parts, false≢true}
use Rattle.std.proofs.lemmas.List.{length_push}
use Rattle.std.proofs.lemmas.Option.{none-some, same_Some, slice_get-map, slice_get_within}
use Rattle.trio_base.specs.declared.operators.Rel.{Rel}
use Rattle.trio_base.specs.declared.operators.OneOp.{OneOp}
use Rattle.trio_base.specs.declared.operators.FarOp.{FarOp}
use Rattle.trio_base.specs.declared.operators.FarOp.TheVariants as far
use Rattle.trio_base.specs.declared.operators.PairOp.{PairOp}
use Rattle.trio_types.specs.declared.formula.Term.{Term}
use Rattle.trio_types.specs.declared.formula.Formula.{Formula}
use Rattle.trio_types.specs.declared.formula.Formula.TheVariants as formula
use Rattle.trio_types.specs.declared.formula.Formula.TheOpen.{Formula-F}
use Rattle.trio_types.specs.declared.formula.Formula.TheOpen as open_formula
use Rattle.trio_types.specs.declared.formula.Formula.TheFolds.{map-Formula, ind-Formula}
use Rattle.trio_types.specs.declared.formula.Formula.TheViews.{roll-Formula}
use Rattle.trio_types.specs.World.{World, values_in}
use Rattle.trio_types.specs.Kinds.{of_domain, is_right, kind_in, term_uses, uses}
use Rattle.trio_types.specs.Bounds.{bound_of, greatest, greatest_bound}
use Rattle.trio_types.specs.Instances.{instances, far_instances}
use Rattle.trio_types.specs.Shape.{is_shaped, two_or_more}
use Rattle.trio_types.specs.Nest.{FormulaNest, nest_of}
use Rattle.trio_types.proofs.Lists.{all_left, all_right, all_flat, get_split}
use Rattle.trio_types.proofs.Specs.{inside_from_kind}
use Rattle.trio_types.proofs.KindsAt.{uses-Lone, uses-Compare, uses-Not, uses-And, uses-Or, uses-Implies, uses-Iff, uses-All, uses-Ex, uses-One, uses-Far, uses-Pair}
use Rattle.trio_types.proofs.BoundsAt.{greatest_bound-Lone, greatest_bound-Compare, greatest_bound-Not, greatest_bound-And, greatest_bound-Or, greatest_bound-Implies, greatest_bound-Iff, greatest_bound-All, greatest_bound-Ex, greatest_bound-One, greatest_bound-Far, greatest_bound-Pair}
use Rattle.trio_types.proofs.CountsAt.{nest_of-Lone, nest_of-Compare, nest_of-Not, nest_of-And, nest_of-Or, nest_of-Implies, nest_of-Iff, nest_of-All, nest_of-Ex, nest_of-One, nest_of-Far, nest_of-Pair, instances-Lone, instances-Compare, instances-Not, instances-And, instances-Or, instances-Implies, instances-Iff, instances-All, instances-Ex, instances-One, instances-Far, instances-Pair}
use Rattle.trio_types.proofs.ShapeAt.{is_shaped-And, is_shaped-Or}
use Rattle.trio_types.proofs.Reading.{greatest_above}
use Rattle.history_check.specs.Fits.{AreValues, TermFits, FormulaFits, AllFit, QuantifierFits}

-- a group has no fewer open brackets than the text by itself
NoFewer : Formula → Type 0
NoFewer f = (nest_of f).plain ≤ (nest_of f).grouped

no_fewer : (f : Formula) (n : FormulaNest) → nest_of f ≡ n → n.plain ≤ n.grouped → NoFewer f
unfolding NoFewer
no_fewer f n is less = omega (arith, ap (λ (n : FormulaNest). n.plain) is, ap (λ (n : FormulaNest). n.grouped) is, less)

abbrev Part : (Formula → Type 0) → Type 0
Part P = (f : Formula) × P f

all_no_fewer : (f : Formula) → NoFewer f
all_no_fewer = ind-Formula NoFewer (λ x y is. subst (λ z. NoFewer (roll-Formula z)) is (each y))
  where
    each : (y : Formula-F (Part NoFewer)) → NoFewer (roll-Formula (map-Formula (Part NoFewer) Formula (λ e. e.0) y))
    each (open_formula.Lone x) = subst NoFewer (sym (formula.rolls-Lone x)) (no_fewer _ _ (nest_of-Lone x) (omega arith))
    each (open_formula.Compare r x y) = subst NoFewer (sym (formula.rolls-Compare r x y)) (no_fewer _ _ (nest_of-Compare r x y) (omega arith))
    each (open_formula.Not f) = subst NoFewer (sym (formula.rolls-Not f.0)) (no_fewer _ _ (nest_of-Not f.0) (omega arith))
    each (open_formula.And fs) = subst NoFewer (sym (formula.rolls-And (map (λ e. e.0) fs))) (no_fewer _ _ (nest_of-And (map (λ e. e.0) fs)) (omega arith))
    each (open_formula.Or fs) = subst NoFewer (sym (formula.rolls-Or (map (λ e. e.0) fs))) (no_fewer _ _ (nest_of-Or (map (λ e. e.0) fs)) (omega arith))
    each (open_formula.Implies f g) = subst NoFewer (sym (formula.rolls-Implies f.0 g.0)) (no_fewer _ _ (nest_of-Implies f.0 g.0) (omega arith))
    each (open_formula.Iff f g) = subst NoFewer (sym (formula.rolls-Iff f.0 g.0)) (no_fewer _ _ (nest_of-Iff f.0 g.0) (omega arith))
    each (open_formula.All name d f) = subst NoFewer (sym (formula.rolls-All name d f.0)) (no_fewer _ _ (nest_of-All name d f.0) (omega arith))
    each (open_formula.Ex name d f) = subst NoFewer (sym (formula.rolls-Ex name d f.0)) (no_fewer _ _ (nest_of-Ex name d f.0) (omega arith))
    each (open_formula.One o f) = subst NoFewer (sym (formula.rolls-One o f.0)) (no_fewer _ _ (nest_of-One o f.0) (omega arith))
    each (open_formula.Far o f x) = subst NoFewer (sym (formula.rolls-Far o f.0 x)) (no_fewer _ _ (nest_of-Far o f.0 x) (omega arith))
    each (open_formula.Pair o f g) = subst NoFewer (sym (formula.rolls-Pair o f.0 g.0)) (no_fewer _ _ (nest_of-Pair o f.0 g.0) (omega arith))

grouped : (f : Formula) → (nest_of f).plain ≤ (nest_of f).grouped
unfolding NoFewer
grouped f = all_no_fewer f

-- a part that is no larger
part_fits : (w : World) (f g : Formula) (e : List ℤ) (fits : FormulaFits w f e) → list_all is_right (uses w g fits.variables) ≡ true →
    greatest_bound w g fits.variables ≤ greatest_bound w f fits.variables → (nest_of g).plain ≤ (nest_of f).plain → FormulaFits w g e
part_fits w f g e fits right less fewer = record {
  variables = fits.variables;
  are_values = fits.are_values;
  right = right;
  bounded = omega (arith, less, fits.bounded);
  room = omega (arith, fewer, fits.room);
}

term_in : (w : World) (f : Formula) (x : Term) (e : List ℤ) (fits : FormulaFits w f e) (is_inside : Bool) → list_all is_right (term_uses w fits.variables is_inside x) ≡ true →
    (bound_of w fits.variables x).most ≤ greatest_bound w f fits.variables → TermFits w x e
term_in w f x e fits is_inside right less = record {
  variables = fits.variables;
  are_values = fits.are_values;
  is_inside = is_inside;
  right = right;
  bounded = omega (arith, less, fits.bounded);
}

pub lone_term : (w : World) (x : Term) (e : List ℤ) → FormulaFits w (formula.Lone x) e → TermFits w x e
lone_term w x e fits =
    let all = sym (ap (list_all is_right) (uses-Lone w x fits.variables)) ∙ fits.right in
    term_in w (formula.Lone x) x e fits false (and_parts _ _ all).1 (omega (arith, greatest_bound-Lone w x fits.variables))

pub compared_terms : (w : World) (r : Rel) (x y : Term) (e : List ℤ) → FormulaFits w (formula.Compare r x y) e → TermFits w x e × TermFits w y e
compared_terms w r x y e fits =
    let vs = fits.variables in
    let all = sym (ap (list_all is_right) (uses-Compare w r x y vs)) ∙ fits.right in
    let rest = (and_parts _ _ all).1 in (
      term_in w (formula.Compare r x y) x e fits false (all_left is_right (term_uses w vs false x) (term_uses w vs false y) rest) (omega (arith, greatest_bound-Compare w r x y vs)),
      term_in w (formula.Compare r x y) y e fits false (all_right is_right (term_uses w vs false x) (term_uses w vs false y) rest) (omega (arith, greatest_bound-Compare w r x y vs)),
    )

pub not_part : (w : World) (f : Formula) (e : List ℤ) → FormulaFits w (formula.Not f) e → FormulaFits w f e
not_part w f e fits =
    part_fits w (formula.Not f) f e fits (sym (ap (list_all is_right) (uses-Not w f fits.variables)) ∙ fits.right) (omega (arith, greatest_bound-Not w f fits.variables))
    (omega (arith, ap (λ (n : FormulaNest). n.plain) (nest_of-Not f), grouped f))

listed : (w : World) (whole : Formula) (fs : List Formula) (e : List ℤ) (fits : FormulaFits w whole e) → list_all is_right (flat_map (λ f. uses w f fits.variables) fs) ≡ true →
    greatest_bound w whole fits.variables ≡ greatest (map (λ f. greatest_bound w f fits.variables) fs) → (nest_of whole).plain ≡ greatest (map (λ f. (nest_of f).grouped) fs) → AllFit w fs e
listed w whole fs e fits right bound nest = λ k f at.
    part_fits w whole f e fits (all_flat is_right (λ f. uses w f fits.variables) fs right k f at)
    (omega (
      arith,
      bound,
      greatest_above (map (λ f. greatest_bound w f fits.variables) fs) k (greatest_bound w f fits.variables)
          (slice_get-map (λ f. greatest_bound w f fits.variables) fs k ∙ ap (option_map (λ f. greatest_bound w f fits.variables)) at),
    ))
    (omega (
      arith,
      nest,
      grouped f,
      greatest_above (map (λ f. (nest_of f).grouped) fs) k (nest_of f).grouped
          (slice_get-map (λ f. (nest_of f).grouped) fs k ∙ ap (option_map (λ f. (nest_of f).grouped)) at),
    ))

pub and_parts_fit : (w : World) (fs : List Formula) (e : List ℤ) → FormulaFits w (formula.And fs) e → AllFit w fs e
and_parts_fit w fs e fits =
    listed w (formula.And fs) fs e fits (sym (ap (list_all is_right) (uses-And w fs fits.variables)) ∙ fits.right) (greatest_bound-And w fs fits.variables)
    (ap (λ (n : FormulaNest). n.plain) (nest_of-And fs))

pub or_parts_fit : (w : World) (fs : List Formula) (e : List ℤ) → FormulaFits w (formula.Or fs) e → AllFit w fs e
or_parts_fit w fs e fits =
    listed w (formula.Or fs) fs e fits (sym (ap (list_all is_right) (uses-Or w fs fits.variables)) ∙ fits.right) (greatest_bound-Or w fs fits.variables)
    (ap (λ (n : FormulaNest). n.plain) (nest_of-Or fs))

two : (w : World) (whole f g : Formula) (e : List ℤ) (fits : FormulaFits w whole e) → uses w whole fits.variables ≡ uses w f fits.variables ++ uses w g fits.variables →
    greatest_bound w whole fits.variables ≡ max (greatest_bound w f fits.variables) (greatest_bound w g fits.variables) →
    (nest_of f).plain ≤ (nest_of whole).plain → (nest_of g).plain ≤ (nest_of whole).plain → FormulaFits w f e × FormulaFits w g e
two w whole f g e fits both bound left right =
    let all = sym (ap (list_all is_right) both) ∙ fits.right in (
      part_fits w whole f e fits (all_left is_right (uses w f fits.variables) (uses w g fits.variables) all) (omega (arith, bound)) left,
      part_fits w whole g e fits (all_right is_right (uses w f fits.variables) (uses w g fits.variables) all) (omega (arith, bound)) right,
    )

pub implies_parts : (w : World) (f g : Formula) (e : List ℤ) → FormulaFits w (formula.Implies f g) e → FormulaFits w f e × FormulaFits w g e
implies_parts w f g e fits =
    let nest = ap (λ (n : FormulaNest). n.plain) (nest_of-Implies f g) in
    two w (formula.Implies f g) f g e fits (uses-Implies w f g fits.variables) (greatest_bound-Implies w f g fits.variables) (omega (arith, nest, grouped f)) (omega (arith, nest, grouped g))

pub iff_parts : (w : World) (f g : Formula) (e : List ℤ) → FormulaFits w (formula.Iff f g) e → FormulaFits w f e × FormulaFits w g e
iff_parts w f g e fits =
    let nest = ap (λ (n : FormulaNest). n.plain) (nest_of-Iff f g) in
    two w (formula.Iff f g) f g e fits (uses-Iff w f g fits.variables) (greatest_bound-Iff w f g fits.variables) (omega (arith, nest, grouped f)) (omega (arith, nest, grouped g))

pub pair_parts : (w : World) (o : PairOp) (f g : Formula) (e : List ℤ) → FormulaFits w (formula.Pair o f g) e → FormulaFits w f e × FormulaFits w g e
pair_parts w o f g e fits =
    let nest = ap (λ (n : FormulaNest). n.plain) (nest_of-Pair o f g) in
    two w (formula.Pair o f g) f g e fits (uses-Pair w o f g fits.variables) (greatest_bound-Pair w o f g fits.variables) (omega (arith, nest)) (omega (arith, nest))

pub one_part : (w : World) (o : OneOp) (f : Formula) (e : List ℤ) → FormulaFits w (formula.One o f) e → FormulaFits w f e
one_part w o f e fits =
    part_fits w (formula.One o f) f e fits (sym (ap (list_all is_right) (uses-One w o f fits.variables)) ∙ fits.right) (omega (arith, greatest_bound-One w o f fits.variables))
    (omega (arith, ap (λ (n : FormulaNest). n.plain) (nest_of-One o f)))

pub far_parts : (w : World) (o : FarOp) (f : Formula) (x : Term) (e : List ℤ) → FormulaFits w (formula.Far o f x) e → FormulaFits w f e × TermFits w x e
far_parts w o f x e fits =
    let vs = fits.variables in
    let all = sym (ap (list_all is_right) (uses-Far w o f x vs)) ∙ fits.right in
    let rest = (and_parts _ _ all).1 in
    let bound = greatest_bound-Far w o f x vs in (
      part_fits w (formula.Far o f x) f e fits (all_left is_right (uses w f vs) (term_uses w vs true x) rest) (omega (arith, bound)) (omega (arith, ap (λ (n : FormulaNest). n.plain) (nest_of-Far o f x))),
      term_in w (formula.Far o f x) x e fits true (all_right is_right (uses w f vs) (term_uses w vs true x) rest) (omega (arith, bound)),
    )

-- one variable more
more_values : (w : World) (vs : List ℕ) (e : List ℤ) (d m : ℕ) (z : ℤ) → AreValues w vs e → slice_get (values_in w.domains d) m ≡ Some z → AreValues w (vs ++ d ∷ []) (e ++ z ∷ [])
more_values w vs e d m z are at = record {
  as_many = length_push vs d ∙ ap (λ n. n + 1) are.as_many ∙ sym (length_push e z);
  each = λ k c y ct yt.
      ⊎_elim
      (λ l. ⊎_elim
      (λ r. are.each k c y l.1 r.1)
      (λ r. absurd (omega (arith, l.0, r.1, are.as_many)))
      (get_split e (z ∷ []) k y yt))
      (λ l. ⊎_elim
      (λ r. absurd (omega (arith, l.1, r.0, are.as_many)))
      (λ r. last c y l.0 r.0 l.2 r.2)
      (get_split e (z ∷ []) k y yt))
      (get_split vs (d ∷ []) k c ct);
}
  where
    last : (c : ℕ) (y : ℤ) (i j : ℕ) → slice_get (d ∷ []) i ≡ Some c → slice_get (z ∷ []) j ≡ Some y → (m : ℕ) × (slice_get (values_in w.domains c) m ≡ Some y)
    last c y zero zero ct yt = (m, ap (λ d. slice_get (values_in w.domains d) m) (sym (same_Some d c ct)) ∙ at ∙ yt)
    last c y (suc i) j ct yt = absurd (none-some c ct)
    last c y zero (suc j) ct yt = absurd (none-some y yt)

quantifier : (w : World) (whole : Formula) (d : ℕ) (f : Formula) (e : List ℤ) (fits : FormulaFits w whole e) → uses w whole fits.variables ≡ of_domain (kind_in w d) ∷ uses w f (fits.variables ++ d ∷ []) →
    greatest_bound w whole fits.variables ≡ greatest_bound w f (fits.variables ++ d ∷ []) → (nest_of whole).plain ≡ 1 + (nest_of f).plain → QuantifierFits w d f e
quantifier w whole d f e fits both bound nest =
    let all = and_parts _ _ (sym (ap (list_all is_right) both) ∙ fits.right) in
    let domain = inside_from_kind w d all.0 in
    record {
      stands = slice_get_within w.domains d domain.0 domain.1;
      room = omega (arith, nest, fits.room);
      body = λ m z at. record {
        variables = fits.variables ++ d ∷ [];
        are_values = more_values w fits.variables e d m z fits.are_values at;
        right = all.1;
        bounded = omega (arith, bound, fits.bounded);
        room = omega (arith, nest, fits.room, length_push e z);
      };
    }

pub all_body : (w : World) (name : List ℕ) (d : ℕ) (f : Formula) (e : List ℤ) → FormulaFits w (formula.All name d f) e → QuantifierFits w d f e
all_body w name d f e fits =
    quantifier w (formula.All name d f) d f e fits (uses-All w name d f fits.variables) (greatest_bound-All w name d f fits.variables) (ap (λ (n : FormulaNest). n.plain) (nest_of-All name d f))

pub ex_body : (w : World) (name : List ℕ) (d : ℕ) (f : Formula) (e : List ℤ) → FormulaFits w (formula.Ex name d f) e → QuantifierFits w d f e
ex_body w name d f e fits =
    quantifier w (formula.Ex name d f) d f e fits (uses-Ex w name d f fits.variables) (greatest_bound-Ex w name d f fits.variables) (ap (λ (n : FormulaNest). n.plain) (nest_of-Ex name d f))

-- each formula stands for an instance at least
Counted : World → Formula → Type 0
Counted w f = is_shaped f ≡ true → 1 ≤ instances w f

longer : (fs : List Formula) → two_or_more (map is_shaped fs) ≡ true → 2 ≤ length fs
longer [] two = absurd (false≢true two)
longer (f ∷ []) two = absurd (false≢true two)
longer (f ∷ g ∷ fs) two = omega arith

far_counted : (n : ℕ) (o : FarOp) (f : ℕ) → 1 ≤ far_instances n o f
far_counted n far.Dist f = omega arith
far_counted n far.Futr f = omega arith
far_counted n far.Past f = omega arith
far_counted n far.NextTime f = omega arith
far_counted n far.LastTime f = omega arith
far_counted n (far.Lasts s) f = omega arith
far_counted n (far.Lasted s) f = omega arith
far_counted n (far.WithinF s) f = omega arith
far_counted n (far.WithinP s) f = omega arith

all_counted : (w : World) (f : Formula) → Counted w f
unfolding Counted
all_counted w = ind-Formula (Counted w) (λ x y is. subst (λ z. Counted w (roll-Formula z)) is (each y))
  where
    at : (f g : Formula) → g ≡ f → (is_shaped f ≡ true → 1 ≤ instances w f) → Counted w g
    at f g is counted = λ shaped. omega (arith, ap (instances w) is, counted (sym (ap is_shaped is) ∙ shaped))

    each : (y : Formula-F (Part (Counted w))) → Counted w (roll-Formula (map-Formula (Part (Counted w)) Formula (λ e. e.0) y))
    each (open_formula.Lone x) = at _ _ (formula.rolls-Lone x) (λ s. omega (arith, instances-Lone w x))
    each (open_formula.Compare r x y) = at _ _ (formula.rolls-Compare r x y) (λ s. omega (arith, instances-Compare w r x y))
    each (open_formula.Not f) = at _ _ (formula.rolls-Not f.0) (λ s. omega (arith, instances-Not w f.0))
    each (open_formula.And fs) = let gs : List Formula = map (λ e. e.0) fs in at _ _ (formula.rolls-And gs) (λ s.
        let many = longer gs (and_parts (two_or_more (map is_shaped gs)) (list_all is_shaped gs) (sym (is_shaped-And gs) ∙ s)).0 in omega (arith, instances-And w gs, many))
    each (open_formula.Or fs) = let gs : List Formula = map (λ e. e.0) fs in at _ _ (formula.rolls-Or gs) (λ s.
        let many = longer gs (and_parts (two_or_more (map is_shaped gs)) (list_all is_shaped gs) (sym (is_shaped-Or gs) ∙ s)).0 in omega (arith, instances-Or w gs, many))
    each (open_formula.Implies f g) = at _ _ (formula.rolls-Implies f.0 g.0) (λ s. omega (arith, instances-Implies w f.0 g.0))
    each (open_formula.Iff f g) = at _ _ (formula.rolls-Iff f.0 g.0) (λ s. omega (arith, instances-Iff w f.0 g.0))
    each (open_formula.All name d f) = at _ _ (formula.rolls-All name d f.0) (λ s. omega (arith, instances-All w name d f.0))
    each (open_formula.Ex name d f) = at _ _ (formula.rolls-Ex name d f.0) (λ s. omega (arith, instances-Ex w name d f.0))
    each (open_formula.One o f) = at _ _ (formula.rolls-One o f.0) (λ s. omega (arith, instances-One w o f.0))
    each (open_formula.Far o f x) = at _ _ (formula.rolls-Far o f.0 x) (λ s. omega (arith, instances-Far w o f.0 x, far_counted w.instants o (instances w f.0)))
    each (open_formula.Pair o f g) = at _ _ (formula.rolls-Pair o f.0 g.0) (λ s. omega (arith, instances-Pair w o f.0 g.0))

pub counted : (w : World) (f : Formula) → is_shaped f ≡ true → 1 ≤ instances w f
unfolding Counted
counted w f = all_counted w f
