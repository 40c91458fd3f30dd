-- What terms and formulas use, at each variant.
use Rattle.std.proofs.Common.{◌≡◌, ℕ, true, false, List, [], ◌∷◌, ◌++◌, map, ap, sym, ◌∙◌}
use Rattle.std.specs.List.{flat_map}
use Rattle.std.proofs.lemmas.List.Folds.{flat_map-map}
use Rattle.trio_base.specs.declared.operators.Rel.{Rel}
use Rattle.trio_base.specs.declared.operators.OneOp.{OneOp}
use Rattle.trio_base.specs.declared.operators.FarOp.{FarOp}
use Rattle.trio_base.specs.declared.operators.PairOp.{PairOp}
use Rattle.trio_types.specs.declared.formula.SignedTerm.{SignedTerm, out-SignedTerm, fold-SignedTerm, fold_out-SignedTerm}
use Rattle.trio_types.specs.declared.formula.Term.{Term}
use Rattle.trio_types.specs.declared.formula.Term.TheVariants as term
use Rattle.trio_types.specs.declared.formula.Term.TheOpen.{Term-F}
use Rattle.trio_types.specs.declared.formula.Term.TheOpen as open_term
use Rattle.trio_types.specs.declared.formula.Term.TheFolds.{fold-roll-Term, map-Term}
use Rattle.trio_types.specs.declared.formula.Term.TheViews.{roll-Term}
use Rattle.trio_types.specs.declared.formula.Formula.{Formula}
use Rattle.trio_types.specs.declared.formula.Formula.TheVariants as formula
use Rattle.trio_types.specs.declared.formula.Formula.TheOpen.{Formula-F}
use Rattle.trio_types.specs.declared.formula.Formula.TheOpen as open_formula
use Rattle.trio_types.specs.declared.formula.Formula.TheFolds.{fold-roll-Formula, map-Formula}
use Rattle.trio_types.specs.declared.formula.Formula.TheViews.{roll-Formula}
use Rattle.trio_types.specs.World.{World}
use Rattle.trio_types.specs.Kinds.{Gathered, gathered, gather_term, gather_part, kind_of_term, term_uses, required, of_domain, alone, compared, distance, kind_in, Uses, uses, formula_uses}
use Rattle.trio_types.proofs.Lists.{map_same}

abbrev signed_gathered : World → List ℕ → SignedTerm → Gathered
signed_gathered w vs = fold-SignedTerm Gathered Gathered (gather_term w vs) gather_part

gathered_at : (w : World) (vs : List ℕ) {f : Term} (x : Term-F Term SignedTerm) → roll-Term x ≡ f → gathered w vs f ≡ gather_term w vs (map-Term Term SignedTerm Gathered Gathered (gathered w vs) (signed_gathered w vs) x)
unfolding gathered
gathered_at w vs x is = ap (gathered w vs) (sym is) ∙ fold-roll-Term Gathered Gathered (gather_term w vs) gather_part x

signed_gathered_is : (w : World) (vs : List ℕ) (p : SignedTerm) → signed_gathered w vs p ≡ gathered w vs (out-SignedTerm p).term
unfolding gathered
signed_gathered_is w vs p = fold_out-SignedTerm Gathered Gathered (gather_term w vs) gather_part p

pub gathered-Number : (w : World) (vs : List ℕ) (n : ℕ) → gathered w vs (term.Number n) ≡ gather_term w vs (open_term.Number n)
gathered-Number w vs n = gathered_at w vs (open_term.Number n) (term.rolls-Number n)

pub gathered-Value : (w : World) (vs : List ℕ) (d v : ℕ) → gathered w vs (term.Value d v) ≡ gather_term w vs (open_term.Value d v)
gathered-Value w vs d v = gathered_at w vs (open_term.Value d v) (term.rolls-Value d v)

pub gathered-Var : (w : World) (vs : List ℕ) (level : ℕ) → gathered w vs (term.Var level) ≡ gather_term w vs (open_term.Var level)
gathered-Var w vs level = gathered_at w vs (open_term.Var level) (term.rolls-Var level)

pub gathered-Read : (w : World) (vs : List ℕ) (number : ℕ) (args : List Term) → gathered w vs (term.Read number args) ≡ gather_term w vs (open_term.Read number (map (gathered w vs) args))
gathered-Read w vs number args = gathered_at w vs (open_term.Read number args) (term.rolls-Read number args)

pub gathered-Sum : (w : World) (vs : List ℕ) (parts : List SignedTerm) → gathered w vs (term.Sum parts) ≡ gather_term w vs (open_term.Sum (map (λ p. gathered w vs (out-SignedTerm p).term) parts))
gathered-Sum w vs parts = gathered_at w vs (open_term.Sum parts) (term.rolls-Sum parts)
    ∙ ap (λ ps. gather_term w vs (open_term.Sum ps)) (map_same (signed_gathered w vs) (λ p. gathered w vs (out-SignedTerm p).term) (signed_gathered_is w vs) parts)

pub gathered-Times : (w : World) (vs : List ℕ) (n : ℕ) (x : Term) → gathered w vs (term.Times n x) ≡ gather_term w vs (open_term.Times n (gathered w vs x))
gathered-Times w vs n x = gathered_at w vs (open_term.Times n x) (term.rolls-Times n x)

uses_at : (w : World) {f : Formula} (x : Formula-F Formula) → roll-Formula x ≡ f → uses w f ≡ formula_uses w (map-Formula Formula Uses (uses w) x)
unfolding uses
uses_at w x is = ap (uses w) (sym is) ∙ fold-roll-Formula Uses (formula_uses w) x

pub uses-Lone : (w : World) (x : Term) (vs : List ℕ) → uses w (formula.Lone x) vs ≡ required alone (kind_of_term w vs x) ∷ term_uses w vs false x
uses-Lone w x vs = ap (λ f. f vs) (uses_at w (open_formula.Lone x) (formula.rolls-Lone x))

pub uses-Compare : (w : World) (r : Rel) (x y : Term) (vs : List ℕ) → uses w (formula.Compare r x y) vs ≡ required (compared r (kind_of_term w vs x)) (kind_of_term w vs y) ∷ term_uses w vs false x ++ term_uses w vs false y
uses-Compare w r x y vs = ap (λ f. f vs) (uses_at w (open_formula.Compare r x y) (formula.rolls-Compare r x y))

pub uses-Not : (w : World) (f : Formula) (vs : List ℕ) → uses w (formula.Not f) vs ≡ uses w f vs
uses-Not w f vs = ap (λ f. f vs) (uses_at w (open_formula.Not f) (formula.rolls-Not f))

pub uses-And : (w : World) (fs : List Formula) (vs : List ℕ) → uses w (formula.And fs) vs ≡ flat_map (λ f. uses w f vs) fs
uses-And w fs vs = ap (λ f. f vs) (uses_at w (open_formula.And fs) (formula.rolls-And fs)) ∙ flat_map-map (λ f. f vs) (uses w) fs

pub uses-Or : (w : World) (fs : List Formula) (vs : List ℕ) → uses w (formula.Or fs) vs ≡ flat_map (λ f. uses w f vs) fs
uses-Or w fs vs = ap (λ f. f vs) (uses_at w (open_formula.Or fs) (formula.rolls-Or fs)) ∙ flat_map-map (λ f. f vs) (uses w) fs

pub uses-Implies : (w : World) (f g : Formula) (vs : List ℕ) → uses w (formula.Implies f g) vs ≡ uses w f vs ++ uses w g vs
uses-Implies w f g vs = ap (λ f. f vs) (uses_at w (open_formula.Implies f g) (formula.rolls-Implies f g))

pub uses-Iff : (w : World) (f g : Formula) (vs : List ℕ) → uses w (formula.Iff f g) vs ≡ uses w f vs ++ uses w g vs
uses-Iff w f g vs = ap (λ f. f vs) (uses_at w (open_formula.Iff f g) (formula.rolls-Iff f g))

pub uses-All : (w : World) (name : List ℕ) (d : ℕ) (f : Formula) (vs : List ℕ) → uses w (formula.All name d f) vs ≡ of_domain (kind_in w d) ∷ uses w f (vs ++ d ∷ [])
uses-All w name d f vs = ap (λ f. f vs) (uses_at w (open_formula.All name d f) (formula.rolls-All name d f))

pub uses-Ex : (w : World) (name : List ℕ) (d : ℕ) (f : Formula) (vs : List ℕ) → uses w (formula.Ex name d f) vs ≡ of_domain (kind_in w d) ∷ uses w f (vs ++ d ∷ [])
uses-Ex w name d f vs = ap (λ f. f vs) (uses_at w (open_formula.Ex name d f) (formula.rolls-Ex name d f))

pub uses-One : (w : World) (o : OneOp) (f : Formula) (vs : List ℕ) → uses w (formula.One o f) vs ≡ uses w f vs
uses-One w o f vs = ap (λ f. f vs) (uses_at w (open_formula.One o f) (formula.rolls-One o f))

pub uses-Far : (w : World) (o : FarOp) (f : Formula) (x : Term) (vs : List ℕ) → uses w (formula.Far o f x) vs ≡ required distance (kind_of_term w vs x) ∷ uses w f vs ++ term_uses w vs true x
uses-Far w o f x vs = ap (λ f. f vs) (uses_at w (open_formula.Far o f x) (formula.rolls-Far o f x))

pub uses-Pair : (w : World) (o : PairOp) (f g : Formula) (vs : List ℕ) → uses w (formula.Pair o f g) vs ≡ uses w f vs ++ uses w g vs
uses-Pair w o f g vs = ap (λ f. f vs) (uses_at w (open_formula.Pair o f g) (formula.rolls-Pair o f g))
