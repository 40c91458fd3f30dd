-- What static bounds are at each variant.
use Rattle.std.proofs.Common.{◌≡◌, ℕ, max, List, [], ◌∷◌, ◌++◌, map, ap, sym, ◌∙◌}
use Rattle.trio_base.specs.declared.operators.Rel.{Rel}
use Rattle.trio_base.specs.declared.operators.OneOp.{OneOp}
use Rattle.trio_base.specs.declared.operators.FarOp.{FarOp}
use Rattle.trio_base.specs.declared.operators.PairOp.{PairOp}
use Rattle.trio_types.specs.declared.formula.SignedTerm.{SignedTerm, out-SignedTerm, fold-SignedTerm, fold_out-SignedTerm}
use Rattle.trio_types.specs.declared.formula.Term.{Term}
use Rattle.trio_types.specs.declared.formula.Term.TheVariants as term
use Rattle.trio_types.specs.declared.formula.Term.TheOpen.{Term-F}
use Rattle.trio_types.specs.declared.formula.Term.TheOpen as open_term
use Rattle.trio_types.specs.declared.formula.Term.TheFolds.{fold-roll-Term, map-Term}
use Rattle.trio_types.specs.declared.formula.Term.TheViews.{roll-Term}
use Rattle.trio_types.specs.declared.formula.Formula.{Formula}
use Rattle.trio_types.specs.declared.formula.Formula.TheVariants as formula
use Rattle.trio_types.specs.declared.formula.Formula.TheOpen.{Formula-F}
use Rattle.trio_types.specs.declared.formula.Formula.TheOpen as open_formula
use Rattle.trio_types.specs.declared.formula.Formula.TheFolds.{fold-roll-Formula, map-Formula}
use Rattle.trio_types.specs.declared.formula.Formula.TheViews.{roll-Formula}
use Rattle.trio_types.specs.World.{World}
use Rattle.trio_types.specs.Bounds.{Bound, bound_of, term_bound, part_bound, greatest, Bounding, greatest_bound, formula_bound}
use Rattle.trio_types.proofs.Lists.{map-map, map_same}

abbrev signed_bound_of : World → List ℕ → SignedTerm → Bound
signed_bound_of w vs = fold-SignedTerm Bound Bound (term_bound w vs) part_bound

bound_of_at : (w : World) (vs : List ℕ) {f : Term} (x : Term-F Term SignedTerm) → roll-Term x ≡ f → bound_of w vs f ≡ term_bound w vs (map-Term Term SignedTerm Bound Bound (bound_of w vs) (signed_bound_of w vs) x)
unfolding bound_of
bound_of_at w vs x is = ap (bound_of w vs) (sym is) ∙ fold-roll-Term Bound Bound (term_bound w vs) part_bound x

signed_bound_of_is : (w : World) (vs : List ℕ) (p : SignedTerm) → signed_bound_of w vs p ≡ bound_of w vs (out-SignedTerm p).term
unfolding bound_of
signed_bound_of_is w vs p = fold_out-SignedTerm Bound Bound (term_bound w vs) part_bound p

pub bound_of-Number : (w : World) (vs : List ℕ) (n : ℕ) → bound_of w vs (term.Number n) ≡ term_bound w vs (open_term.Number n)
bound_of-Number w vs n = bound_of_at w vs (open_term.Number n) (term.rolls-Number n)

pub bound_of-Value : (w : World) (vs : List ℕ) (d v : ℕ) → bound_of w vs (term.Value d v) ≡ term_bound w vs (open_term.Value d v)
bound_of-Value w vs d v = bound_of_at w vs (open_term.Value d v) (term.rolls-Value d v)

pub bound_of-Var : (w : World) (vs : List ℕ) (level : ℕ) → bound_of w vs (term.Var level) ≡ term_bound w vs (open_term.Var level)
bound_of-Var w vs level = bound_of_at w vs (open_term.Var level) (term.rolls-Var level)

pub bound_of-Read : (w : World) (vs : List ℕ) (number : ℕ) (args : List Term) → bound_of w vs (term.Read number args) ≡ term_bound w vs (open_term.Read number (map (bound_of w vs) args))
bound_of-Read w vs number args = bound_of_at w vs (open_term.Read number args) (term.rolls-Read number args)

pub bound_of-Sum : (w : World) (vs : List ℕ) (parts : List SignedTerm) → bound_of w vs (term.Sum parts) ≡ term_bound w vs (open_term.Sum (map (λ p. bound_of w vs (out-SignedTerm p).term) parts))
bound_of-Sum w vs parts = bound_of_at w vs (open_term.Sum parts) (term.rolls-Sum parts)
    ∙ ap (λ ps. term_bound w vs (open_term.Sum ps)) (map_same (signed_bound_of w vs) (λ p. bound_of w vs (out-SignedTerm p).term) (signed_bound_of_is w vs) parts)

pub bound_of-Times : (w : World) (vs : List ℕ) (n : ℕ) (x : Term) → bound_of w vs (term.Times n x) ≡ term_bound w vs (open_term.Times n (bound_of w vs x))
bound_of-Times w vs n x = bound_of_at w vs (open_term.Times n x) (term.rolls-Times n x)

greatest_bound_at : (w : World) {f : Formula} (x : Formula-F Formula) → roll-Formula x ≡ f → greatest_bound w f ≡ formula_bound w (map-Formula Formula Bounding (greatest_bound w) x)
unfolding greatest_bound
greatest_bound_at w x is = ap (greatest_bound w) (sym is) ∙ fold-roll-Formula Bounding (formula_bound w) x

pub greatest_bound-Lone : (w : World) (x : Term) (vs : List ℕ) → greatest_bound w (formula.Lone x) vs ≡ (bound_of w vs x).most
greatest_bound-Lone w x vs = ap (λ f. f vs) (greatest_bound_at w (open_formula.Lone x) (formula.rolls-Lone x))

pub greatest_bound-Compare : (w : World) (r : Rel) (x y : Term) (vs : List ℕ) → greatest_bound w (formula.Compare r x y) vs ≡ max (bound_of w vs x).most (bound_of w vs y).most
greatest_bound-Compare w r x y vs = ap (λ f. f vs) (greatest_bound_at w (open_formula.Compare r x y) (formula.rolls-Compare r x y))

pub greatest_bound-Not : (w : World) (f : Formula) (vs : List ℕ) → greatest_bound w (formula.Not f) vs ≡ greatest_bound w f vs
greatest_bound-Not w f vs = ap (λ f. f vs) (greatest_bound_at w (open_formula.Not f) (formula.rolls-Not f))

pub greatest_bound-And : (w : World) (fs : List Formula) (vs : List ℕ) → greatest_bound w (formula.And fs) vs ≡ greatest (map (λ f. greatest_bound w f vs) fs)
greatest_bound-And w fs vs = ap (λ f. f vs) (greatest_bound_at w (open_formula.And fs) (formula.rolls-And fs)) ∙ ap greatest (map-map (λ f. f vs) (greatest_bound w) fs)

pub greatest_bound-Or : (w : World) (fs : List Formula) (vs : List ℕ) → greatest_bound w (formula.Or fs) vs ≡ greatest (map (λ f. greatest_bound w f vs) fs)
greatest_bound-Or w fs vs = ap (λ f. f vs) (greatest_bound_at w (open_formula.Or fs) (formula.rolls-Or fs)) ∙ ap greatest (map-map (λ f. f vs) (greatest_bound w) fs)

pub greatest_bound-Implies : (w : World) (f g : Formula) (vs : List ℕ) → greatest_bound w (formula.Implies f g) vs ≡ max (greatest_bound w f vs) (greatest_bound w g vs)
greatest_bound-Implies w f g vs = ap (λ f. f vs) (greatest_bound_at w (open_formula.Implies f g) (formula.rolls-Implies f g))

pub greatest_bound-Iff : (w : World) (f g : Formula) (vs : List ℕ) → greatest_bound w (formula.Iff f g) vs ≡ max (greatest_bound w f vs) (greatest_bound w g vs)
greatest_bound-Iff w f g vs = ap (λ f. f vs) (greatest_bound_at w (open_formula.Iff f g) (formula.rolls-Iff f g))

pub greatest_bound-All : (w : World) (name : List ℕ) (d : ℕ) (f : Formula) (vs : List ℕ) → greatest_bound w (formula.All name d f) vs ≡ greatest_bound w f (vs ++ d ∷ [])
greatest_bound-All w name d f vs = ap (λ f. f vs) (greatest_bound_at w (open_formula.All name d f) (formula.rolls-All name d f))

pub greatest_bound-Ex : (w : World) (name : List ℕ) (d : ℕ) (f : Formula) (vs : List ℕ) → greatest_bound w (formula.Ex name d f) vs ≡ greatest_bound w f (vs ++ d ∷ [])
greatest_bound-Ex w name d f vs = ap (λ f. f vs) (greatest_bound_at w (open_formula.Ex name d f) (formula.rolls-Ex name d f))

pub greatest_bound-One : (w : World) (o : OneOp) (f : Formula) (vs : List ℕ) → greatest_bound w (formula.One o f) vs ≡ greatest_bound w f vs
greatest_bound-One w o f vs = ap (λ f. f vs) (greatest_bound_at w (open_formula.One o f) (formula.rolls-One o f))

pub greatest_bound-Far : (w : World) (o : FarOp) (f : Formula) (x : Term) (vs : List ℕ) → greatest_bound w (formula.Far o f x) vs ≡ max (greatest_bound w f vs) (bound_of w vs x).most
greatest_bound-Far w o f x vs = ap (λ f. f vs) (greatest_bound_at w (open_formula.Far o f x) (formula.rolls-Far o f x))

pub greatest_bound-Pair : (w : World) (o : PairOp) (f g : Formula) (vs : List ℕ) → greatest_bound w (formula.Pair o f g) vs ≡ max (greatest_bound w f vs) (greatest_bound w g vs)
greatest_bound-Pair w o f g vs = ap (λ f. f vs) (greatest_bound_at w (open_formula.Pair o f g) (formula.rolls-Pair o f g))
