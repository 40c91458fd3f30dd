-- What the variables of a formula are, and whether they are new, at each variant.
use Rattle.std.proofs.Common.{◌≡◌, ℕ, true, ◌&&◌, List, [], ◌∷◌, ◌++◌, ap, sym, ◌∙◌}
use Rattle.std.specs.List.{list_all, flat_map}
use Rattle.std.proofs.lemmas.List.Folds.{list_all-map, flat_map-map}
use Rattle.trio_base.specs.declared.operators.Rel.{Rel}
use Rattle.trio_base.specs.declared.operators.OneOp.{OneOp}
use Rattle.trio_base.specs.declared.operators.FarOp.{FarOp}
use Rattle.trio_base.specs.declared.operators.PairOp.{PairOp}
use Rattle.trio_types.specs.declared.formula.Term.{Term}
use Rattle.trio_types.specs.declared.formula.Formula.{Formula}
use Rattle.trio_types.specs.declared.formula.Formula.TheVariants as formula
use Rattle.trio_types.specs.declared.formula.Formula.TheOpen.{Formula-F}
use Rattle.trio_types.specs.declared.formula.Formula.TheOpen as open_formula
use Rattle.trio_types.specs.declared.formula.Formula.TheFolds.{fold-roll-Formula, map-Formula}
use Rattle.trio_types.specs.declared.formula.Formula.TheViews.{roll-Formula}
use Rattle.trio_types.specs.Names.{variables_of, formula_variables, Newness, is_new, variables_are_new, formula_newness}

variables_of_at : {f : Formula} (x : Formula-F Formula) → roll-Formula x ≡ f → variables_of f ≡ formula_variables (map-Formula Formula (List (List ℕ)) variables_of x)
unfolding variables_of
variables_of_at x is = ap variables_of (sym is) ∙ fold-roll-Formula (List (List ℕ)) formula_variables x

pub variables_of-Lone : (x : Term) → variables_of (formula.Lone x) ≡ []
variables_of-Lone x = variables_of_at (open_formula.Lone x) (formula.rolls-Lone x)

pub variables_of-Compare : (r : Rel) (x y : Term) → variables_of (formula.Compare r x y) ≡ []
variables_of-Compare r x y = variables_of_at (open_formula.Compare r x y) (formula.rolls-Compare r x y)

pub variables_of-Not : (f : Formula) → variables_of (formula.Not f) ≡ variables_of f
variables_of-Not f = variables_of_at (open_formula.Not f) (formula.rolls-Not f)

pub variables_of-And : (fs : List Formula) → variables_of (formula.And fs) ≡ flat_map variables_of fs
variables_of-And fs = variables_of_at (open_formula.And fs) (formula.rolls-And fs) ∙ flat_map-map (λ f. f) variables_of fs

pub variables_of-Or : (fs : List Formula) → variables_of (formula.Or fs) ≡ flat_map variables_of fs
variables_of-Or fs = variables_of_at (open_formula.Or fs) (formula.rolls-Or fs) ∙ flat_map-map (λ f. f) variables_of fs

pub variables_of-Implies : (f g : Formula) → variables_of (formula.Implies f g) ≡ variables_of f ++ variables_of g
variables_of-Implies f g = variables_of_at (open_formula.Implies f g) (formula.rolls-Implies f g)

pub variables_of-Iff : (f g : Formula) → variables_of (formula.Iff f g) ≡ variables_of f ++ variables_of g
variables_of-Iff f g = variables_of_at (open_formula.Iff f g) (formula.rolls-Iff f g)

pub variables_of-All : (name : List ℕ) (d : ℕ) (f : Formula) → variables_of (formula.All name d f) ≡ name ∷ variables_of f
variables_of-All name d f = variables_of_at (open_formula.All name d f) (formula.rolls-All name d f)

pub variables_of-Ex : (name : List ℕ) (d : ℕ) (f : Formula) → variables_of (formula.Ex name d f) ≡ name ∷ variables_of f
variables_of-Ex name d f = variables_of_at (open_formula.Ex name d f) (formula.rolls-Ex name d f)

pub variables_of-One : (o : OneOp) (f : Formula) → variables_of (formula.One o f) ≡ variables_of f
variables_of-One o f = variables_of_at (open_formula.One o f) (formula.rolls-One o f)

pub variables_of-Far : (o : FarOp) (f : Formula) (x : Term) → variables_of (formula.Far o f x) ≡ variables_of f
variables_of-Far o f x = variables_of_at (open_formula.Far o f x) (formula.rolls-Far o f x)

pub variables_of-Pair : (o : PairOp) (f g : Formula) → variables_of (formula.Pair o f g) ≡ variables_of f ++ variables_of g
variables_of-Pair o f g = variables_of_at (open_formula.Pair o f g) (formula.rolls-Pair o f g)

variables_are_new_at : {f : Formula} (x : Formula-F Formula) → roll-Formula x ≡ f → variables_are_new f ≡ formula_newness (map-Formula Formula Newness variables_are_new x)
unfolding variables_are_new
variables_are_new_at x is = ap variables_are_new (sym is) ∙ fold-roll-Formula Newness formula_newness x

pub variables_are_new-Lone : (x : Term) (taken : List (List ℕ)) → variables_are_new (formula.Lone x) taken ≡ true
variables_are_new-Lone x taken = ap (λ f. f taken) (variables_are_new_at (open_formula.Lone x) (formula.rolls-Lone x))

pub variables_are_new-Compare : (r : Rel) (x y : Term) (taken : List (List ℕ)) → variables_are_new (formula.Compare r x y) taken ≡ true
variables_are_new-Compare r x y taken = ap (λ f. f taken) (variables_are_new_at (open_formula.Compare r x y) (formula.rolls-Compare r x y))

pub variables_are_new-Not : (f : Formula) (taken : List (List ℕ)) → variables_are_new (formula.Not f) taken ≡ variables_are_new f taken
variables_are_new-Not f taken = ap (λ f. f taken) (variables_are_new_at (open_formula.Not f) (formula.rolls-Not f))

pub variables_are_new-And : (fs : List Formula) (taken : List (List ℕ)) → variables_are_new (formula.And fs) taken ≡ list_all (λ f. variables_are_new f taken) fs
variables_are_new-And fs taken = ap (λ f. f taken) (variables_are_new_at (open_formula.And fs) (formula.rolls-And fs)) ∙ list_all-map (λ f. f taken) variables_are_new fs

pub variables_are_new-Or : (fs : List Formula) (taken : List (List ℕ)) → variables_are_new (formula.Or fs) taken ≡ list_all (λ f. variables_are_new f taken) fs
variables_are_new-Or fs taken = ap (λ f. f taken) (variables_are_new_at (open_formula.Or fs) (formula.rolls-Or fs)) ∙ list_all-map (λ f. f taken) variables_are_new fs

pub variables_are_new-Implies : (f g : Formula) (taken : List (List ℕ)) → variables_are_new (formula.Implies f g) taken ≡ (variables_are_new f taken && variables_are_new g taken)
variables_are_new-Implies f g taken = ap (λ f. f taken) (variables_are_new_at (open_formula.Implies f g) (formula.rolls-Implies f g))

pub variables_are_new-Iff : (f g : Formula) (taken : List (List ℕ)) → variables_are_new (formula.Iff f g) taken ≡ (variables_are_new f taken && variables_are_new g taken)
variables_are_new-Iff f g taken = ap (λ f. f taken) (variables_are_new_at (open_formula.Iff f g) (formula.rolls-Iff f g))

pub variables_are_new-All : (name : List ℕ) (d : ℕ) (f : Formula) (taken : List (List ℕ)) → variables_are_new (formula.All name d f) taken ≡ (is_new name taken && variables_are_new f (taken ++ name ∷ []))
variables_are_new-All name d f taken = ap (λ f. f taken) (variables_are_new_at (open_formula.All name d f) (formula.rolls-All name d f))

pub variables_are_new-Ex : (name : List ℕ) (d : ℕ) (f : Formula) (taken : List (List ℕ)) → variables_are_new (formula.Ex name d f) taken ≡ (is_new name taken && variables_are_new f (taken ++ name ∷ []))
variables_are_new-Ex name d f taken = ap (λ f. f taken) (variables_are_new_at (open_formula.Ex name d f) (formula.rolls-Ex name d f))

pub variables_are_new-One : (o : OneOp) (f : Formula) (taken : List (List ℕ)) → variables_are_new (formula.One o f) taken ≡ variables_are_new f taken
variables_are_new-One o f taken = ap (λ f. f taken) (variables_are_new_at (open_formula.One o f) (formula.rolls-One o f))

pub variables_are_new-Far : (o : FarOp) (f : Formula) (x : Term) (taken : List (List ℕ)) → variables_are_new (formula.Far o f x) taken ≡ variables_are_new f taken
variables_are_new-Far o f x taken = ap (λ f. f taken) (variables_are_new_at (open_formula.Far o f x) (formula.rolls-Far o f x))

pub variables_are_new-Pair : (o : PairOp) (f g : Formula) (taken : List (List ℕ)) → variables_are_new (formula.Pair o f g) taken ≡ (variables_are_new f taken && variables_are_new g taken)
variables_are_new-Pair o f g taken = ap (λ f. f taken) (variables_are_new_at (open_formula.Pair o f g) (formula.rolls-Pair o f g))
