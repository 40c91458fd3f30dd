-- What the shape and the numbers of terms and formulas are at each variant.
use Rattle.std.proofs.Common.{◌≡◌, ℕ, Bool, true, ◌&&◌, List, [], ◌∷◌, ◌++◌, map, ap, sym, ◌∙◌}
use Rattle.std.specs.List.{list_all, flat_map}
use Rattle.std.proofs.lemmas.List.Folds.{list_all-map, flat_map-map}
use Rattle.trio_base.specs.declared.operators.Rel.{Rel}
use Rattle.trio_base.specs.declared.operators.OneOp.{OneOp}
use Rattle.trio_base.specs.declared.operators.FarOp.{FarOp}
use Rattle.trio_base.specs.declared.operators.PairOp.{PairOp}
use Rattle.trio_types.specs.declared.formula.SignedTerm.{SignedTerm, out-SignedTerm, fold-SignedTerm, fold_out-SignedTerm}
use Rattle.trio_types.specs.declared.formula.Term.{Term}
use Rattle.trio_types.specs.declared.formula.Term.TheVariants as term
use Rattle.trio_types.specs.declared.formula.Term.TheOpen.{Term-F}
use Rattle.trio_types.specs.declared.formula.Term.TheOpen as open_term
use Rattle.trio_types.specs.declared.formula.Term.TheFolds.{fold-roll-Term, map-Term}
use Rattle.trio_types.specs.declared.formula.Term.TheViews.{roll-Term}
use Rattle.trio_types.specs.declared.formula.Formula.{Formula}
use Rattle.trio_types.specs.declared.formula.Formula.TheVariants as formula
use Rattle.trio_types.specs.declared.formula.Formula.TheOpen.{Formula-F}
use Rattle.trio_types.specs.declared.formula.Formula.TheOpen as open_formula
use Rattle.trio_types.specs.declared.formula.Formula.TheFolds.{fold-roll-Formula, map-Formula}
use Rattle.trio_types.specs.declared.formula.Formula.TheViews.{roll-Formula}
use Rattle.trio_types.specs.Shape.{SignedShape, term_is_shaped, term_shape, part_shape, two_or_more, is_shaped, formula_shape, numbers_in, term_numbers, part_numbers, numbers_of, formula_numbers}
use Rattle.trio_types.proofs.Lists.{map_same, flat_map_same}

-- a part of a sum, and whether it is shaped
abbrev pub shape_of_part : SignedTerm → SignedShape
shape_of_part p = record { minus = (out-SignedTerm p).minus; is_shaped = term_is_shaped (out-SignedTerm p).term }

abbrev signed_term_is_shaped : SignedTerm → SignedShape
signed_term_is_shaped = fold-SignedTerm Bool SignedShape term_shape part_shape

term_is_shaped_at : {f : Term} (x : Term-F Term SignedTerm) → roll-Term x ≡ f → term_is_shaped f ≡ term_shape (map-Term Term SignedTerm Bool SignedShape term_is_shaped signed_term_is_shaped x)
unfolding term_is_shaped
term_is_shaped_at x is = ap term_is_shaped (sym is) ∙ fold-roll-Term Bool SignedShape term_shape part_shape x

signed_term_is_shaped_is : (p : SignedTerm) → signed_term_is_shaped p ≡ shape_of_part p
unfolding term_is_shaped
signed_term_is_shaped_is p = fold_out-SignedTerm Bool SignedShape term_shape part_shape p

pub term_is_shaped-Number : (n : ℕ) → term_is_shaped (term.Number n) ≡ true
term_is_shaped-Number n = term_is_shaped_at (open_term.Number n) (term.rolls-Number n)

pub term_is_shaped-Value : (d v : ℕ) → term_is_shaped (term.Value d v) ≡ true
term_is_shaped-Value d v = term_is_shaped_at (open_term.Value d v) (term.rolls-Value d v)

pub term_is_shaped-Var : (level : ℕ) → term_is_shaped (term.Var level) ≡ true
term_is_shaped-Var level = term_is_shaped_at (open_term.Var level) (term.rolls-Var level)

pub term_is_shaped-Read : (number : ℕ) (args : List Term) → term_is_shaped (term.Read number args) ≡ list_all term_is_shaped args
term_is_shaped-Read number args = term_is_shaped_at (open_term.Read number args) (term.rolls-Read number args) ∙ list_all-map (λ b. b) term_is_shaped args

pub term_is_shaped-Sum : (parts : List SignedTerm) → term_is_shaped (term.Sum parts) ≡ term_shape (open_term.Sum (map shape_of_part parts))
term_is_shaped-Sum parts = term_is_shaped_at (open_term.Sum parts) (term.rolls-Sum parts)
    ∙ ap (λ ps. term_shape (open_term.Sum ps)) (map_same signed_term_is_shaped shape_of_part signed_term_is_shaped_is parts)

pub term_is_shaped-Times : (n : ℕ) (x : Term) → term_is_shaped (term.Times n x) ≡ term_is_shaped x
term_is_shaped-Times n x = term_is_shaped_at (open_term.Times n x) (term.rolls-Times n x)

is_shaped_at : {f : Formula} (x : Formula-F Formula) → roll-Formula x ≡ f → is_shaped f ≡ formula_shape (map-Formula Formula Bool is_shaped x)
unfolding is_shaped
is_shaped_at x is = ap is_shaped (sym is) ∙ fold-roll-Formula Bool formula_shape x

pub is_shaped-Lone : (x : Term) → is_shaped (formula.Lone x) ≡ term_is_shaped x
is_shaped-Lone x = is_shaped_at (open_formula.Lone x) (formula.rolls-Lone x)

pub is_shaped-Compare : (r : Rel) (x y : Term) → is_shaped (formula.Compare r x y) ≡ (term_is_shaped x && term_is_shaped y)
is_shaped-Compare r x y = is_shaped_at (open_formula.Compare r x y) (formula.rolls-Compare r x y)

pub is_shaped-Not : (f : Formula) → is_shaped (formula.Not f) ≡ is_shaped f
is_shaped-Not f = is_shaped_at (open_formula.Not f) (formula.rolls-Not f)

pub is_shaped-And : (fs : List Formula) → is_shaped (formula.And fs) ≡ (two_or_more (map is_shaped fs) && list_all is_shaped fs)
is_shaped-And fs = is_shaped_at (open_formula.And fs) (formula.rolls-And fs) ∙ ap (λ b. two_or_more (map is_shaped fs) && b) (list_all-map (λ b. b) is_shaped fs)

pub is_shaped-Or : (fs : List Formula) → is_shaped (formula.Or fs) ≡ (two_or_more (map is_shaped fs) && list_all is_shaped fs)
is_shaped-Or fs = is_shaped_at (open_formula.Or fs) (formula.rolls-Or fs) ∙ ap (λ b. two_or_more (map is_shaped fs) && b) (list_all-map (λ b. b) is_shaped fs)

pub is_shaped-Implies : (f g : Formula) → is_shaped (formula.Implies f g) ≡ (is_shaped f && is_shaped g)
is_shaped-Implies f g = is_shaped_at (open_formula.Implies f g) (formula.rolls-Implies f g)

pub is_shaped-Iff : (f g : Formula) → is_shaped (formula.Iff f g) ≡ (is_shaped f && is_shaped g)
is_shaped-Iff f g = is_shaped_at (open_formula.Iff f g) (formula.rolls-Iff f g)

pub is_shaped-All : (name : List ℕ) (d : ℕ) (f : Formula) → is_shaped (formula.All name d f) ≡ is_shaped f
is_shaped-All name d f = is_shaped_at (open_formula.All name d f) (formula.rolls-All name d f)

pub is_shaped-Ex : (name : List ℕ) (d : ℕ) (f : Formula) → is_shaped (formula.Ex name d f) ≡ is_shaped f
is_shaped-Ex name d f = is_shaped_at (open_formula.Ex name d f) (formula.rolls-Ex name d f)

pub is_shaped-One : (o : OneOp) (f : Formula) → is_shaped (formula.One o f) ≡ is_shaped f
is_shaped-One o f = is_shaped_at (open_formula.One o f) (formula.rolls-One o f)

pub is_shaped-Far : (o : FarOp) (f : Formula) (x : Term) → is_shaped (formula.Far o f x) ≡ (is_shaped f && term_is_shaped x)
is_shaped-Far o f x = is_shaped_at (open_formula.Far o f x) (formula.rolls-Far o f x)

pub is_shaped-Pair : (o : PairOp) (f g : Formula) → is_shaped (formula.Pair o f g) ≡ (is_shaped f && is_shaped g)
is_shaped-Pair o f g = is_shaped_at (open_formula.Pair o f g) (formula.rolls-Pair o f g)

abbrev signed_numbers_in : SignedTerm → (List ℕ)
signed_numbers_in = fold-SignedTerm (List ℕ) (List ℕ) term_numbers part_numbers

numbers_in_at : {f : Term} (x : Term-F Term SignedTerm) → roll-Term x ≡ f → numbers_in f ≡ term_numbers (map-Term Term SignedTerm (List ℕ) (List ℕ) numbers_in signed_numbers_in x)
unfolding numbers_in
numbers_in_at x is = ap numbers_in (sym is) ∙ fold-roll-Term (List ℕ) (List ℕ) term_numbers part_numbers x

signed_numbers_in_is : (p : SignedTerm) → signed_numbers_in p ≡ numbers_in (out-SignedTerm p).term
unfolding numbers_in
signed_numbers_in_is p = fold_out-SignedTerm (List ℕ) (List ℕ) term_numbers part_numbers p

pub numbers_in-Number : (n : ℕ) → numbers_in (term.Number n) ≡ n ∷ []
numbers_in-Number n = numbers_in_at (open_term.Number n) (term.rolls-Number n)

pub numbers_in-Value : (d v : ℕ) → numbers_in (term.Value d v) ≡ []
numbers_in-Value d v = numbers_in_at (open_term.Value d v) (term.rolls-Value d v)

pub numbers_in-Var : (level : ℕ) → numbers_in (term.Var level) ≡ []
numbers_in-Var level = numbers_in_at (open_term.Var level) (term.rolls-Var level)

pub numbers_in-Read : (number : ℕ) (args : List Term) → numbers_in (term.Read number args) ≡ flat_map numbers_in args
numbers_in-Read number args = numbers_in_at (open_term.Read number args) (term.rolls-Read number args) ∙ flat_map-map (λ b. b) numbers_in args

pub numbers_in-Sum : (parts : List SignedTerm) → numbers_in (term.Sum parts) ≡ flat_map (λ p. numbers_in (out-SignedTerm p).term) parts
numbers_in-Sum parts = numbers_in_at (open_term.Sum parts) (term.rolls-Sum parts)
    ∙ flat_map-map (λ p. p) signed_numbers_in parts ∙ flat_map_same signed_numbers_in (λ p. numbers_in (out-SignedTerm p).term) signed_numbers_in_is parts

pub numbers_in-Times : (n : ℕ) (x : Term) → numbers_in (term.Times n x) ≡ n ∷ numbers_in x
numbers_in-Times n x = numbers_in_at (open_term.Times n x) (term.rolls-Times n x)

numbers_of_at : {f : Formula} (x : Formula-F Formula) → roll-Formula x ≡ f → numbers_of f ≡ formula_numbers (map-Formula Formula (List ℕ) numbers_of x)
unfolding numbers_of
numbers_of_at x is = ap numbers_of (sym is) ∙ fold-roll-Formula (List ℕ) formula_numbers x

pub numbers_of-Lone : (x : Term) → numbers_of (formula.Lone x) ≡ numbers_in x
numbers_of-Lone x = numbers_of_at (open_formula.Lone x) (formula.rolls-Lone x)

pub numbers_of-Compare : (r : Rel) (x y : Term) → numbers_of (formula.Compare r x y) ≡ numbers_in x ++ numbers_in y
numbers_of-Compare r x y = numbers_of_at (open_formula.Compare r x y) (formula.rolls-Compare r x y)

pub numbers_of-Not : (f : Formula) → numbers_of (formula.Not f) ≡ numbers_of f
numbers_of-Not f = numbers_of_at (open_formula.Not f) (formula.rolls-Not f)

pub numbers_of-And : (fs : List Formula) → numbers_of (formula.And fs) ≡ flat_map numbers_of fs
numbers_of-And fs = numbers_of_at (open_formula.And fs) (formula.rolls-And fs) ∙ flat_map-map (λ f. f) numbers_of fs

pub numbers_of-Or : (fs : List Formula) → numbers_of (formula.Or fs) ≡ flat_map numbers_of fs
numbers_of-Or fs = numbers_of_at (open_formula.Or fs) (formula.rolls-Or fs) ∙ flat_map-map (λ f. f) numbers_of fs

pub numbers_of-Implies : (f g : Formula) → numbers_of (formula.Implies f g) ≡ numbers_of f ++ numbers_of g
numbers_of-Implies f g = numbers_of_at (open_formula.Implies f g) (formula.rolls-Implies f g)

pub numbers_of-Iff : (f g : Formula) → numbers_of (formula.Iff f g) ≡ numbers_of f ++ numbers_of g
numbers_of-Iff f g = numbers_of_at (open_formula.Iff f g) (formula.rolls-Iff f g)

pub numbers_of-All : (name : List ℕ) (d : ℕ) (f : Formula) → numbers_of (formula.All name d f) ≡ numbers_of f
numbers_of-All name d f = numbers_of_at (open_formula.All name d f) (formula.rolls-All name d f)

pub numbers_of-Ex : (name : List ℕ) (d : ℕ) (f : Formula) → numbers_of (formula.Ex name d f) ≡ numbers_of f
numbers_of-Ex name d f = numbers_of_at (open_formula.Ex name d f) (formula.rolls-Ex name d f)

pub numbers_of-One : (o : OneOp) (f : Formula) → numbers_of (formula.One o f) ≡ numbers_of f
numbers_of-One o f = numbers_of_at (open_formula.One o f) (formula.rolls-One o f)

pub numbers_of-Far : (o : FarOp) (f : Formula) (x : Term) → numbers_of (formula.Far o f x) ≡ numbers_of f ++ numbers_in x
numbers_of-Far o f x = numbers_of_at (open_formula.Far o f x) (formula.rolls-Far o f x)

pub numbers_of-Pair : (o : PairOp) (f g : Formula) → numbers_of (formula.Pair o f g) ≡ numbers_of f ++ numbers_of g
numbers_of-Pair o f g = numbers_of_at (open_formula.Pair o f g) (formula.rolls-Pair o f g)
