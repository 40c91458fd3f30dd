-- The shape of terms and formulas: how many parts they have, and the numbers that stand in them.
use Rattle.std.specs.Prelude.{ℕ, Bool, true, false, ◌&&◌, List, [], ◌∷◌, ◌++◌}
use Rattle.std.specs.List.{list_all, flat_map}
use Rattle.trio_types.specs.declared.formula.Term.{Term}
use Rattle.trio_types.specs.declared.formula.Term.TheOpen.{Term-F, SignedTerm-F}
use Rattle.trio_types.specs.declared.formula.Term.TheOpen as open_term
use Rattle.trio_types.specs.declared.formula.Term.TheFolds.{fold-Term}
use Rattle.trio_types.specs.declared.formula.Formula.{Formula}
use Rattle.trio_types.specs.declared.formula.Formula.TheOpen.{Formula-F}
use Rattle.trio_types.specs.declared.formula.Formula.TheOpen as open_formula
use Rattle.trio_types.specs.declared.formula.Formula.TheFolds.{fold-Formula}

-- whether a part of a sum is subtracted, and whether its term is shaped as one
pub record SignedShape : Type 0 where
  pub minus : Bool
  pub is_shaped : Bool

-- one part or more, and not one part without a sign
abbrev pub makes_sum : List SignedShape → Bool
makes_sum [] = false
makes_sum (p ∷ []) = p.minus
makes_sum (p ∷ q ∷ ps) = true

abbrev pub term_shape : Term-F Bool SignedShape → Bool
term_shape (open_term.Number n) = true
term_shape (open_term.Value d v) = true
term_shape (open_term.Var level) = true
term_shape (open_term.Read number args) = list_all (λ a. a) args
term_shape (open_term.Sum parts) = makes_sum parts && list_all (λ p. p.is_shaped) parts
term_shape (open_term.Times n x) = x

abbrev pub part_shape : SignedTerm-F Bool SignedShape → SignedShape
part_shape p = record { minus = p.minus; is_shaped = p.term }

-- each sum in the term is one
unfoldable pub term_is_shaped : Term → Bool
term_is_shaped = fold-Term Bool SignedShape term_shape part_shape

abbrev pub two_or_more : List Bool → Bool
two_or_more (p ∷ q ∷ ps) = true
two_or_more ps = false

abbrev pub formula_shape : Formula-F Bool → Bool
formula_shape (open_formula.Lone x) = term_is_shaped x
formula_shape (open_formula.Compare r x y) = term_is_shaped x && term_is_shaped y
formula_shape (open_formula.Not f) = f
formula_shape (open_formula.And fs) = two_or_more fs && list_all (λ f. f) fs
formula_shape (open_formula.Or fs) = two_or_more fs && list_all (λ f. f) fs
formula_shape (open_formula.Implies f g) = f && g
formula_shape (open_formula.Iff f g) = f && g
formula_shape (open_formula.All name d f) = f
formula_shape (open_formula.Ex name d f) = f
formula_shape (open_formula.One o f) = f
formula_shape (open_formula.Far o f x) = f && term_is_shaped x
formula_shape (open_formula.Pair o f g) = f && g

-- and each And and Or in the formula has two parts or more
unfoldable pub is_shaped : Formula → Bool
is_shaped = fold-Formula Bool formula_shape

abbrev pub term_numbers : Term-F (List ℕ) (List ℕ) → List ℕ
term_numbers (open_term.Number n) = n ∷ []
term_numbers (open_term.Value d v) = []
term_numbers (open_term.Var level) = []
term_numbers (open_term.Read number args) = flat_map (λ a. a) args
term_numbers (open_term.Sum parts) = flat_map (λ p. p) parts
term_numbers (open_term.Times n x) = n ∷ x

abbrev pub part_numbers : SignedTerm-F (List ℕ) (List ℕ) → List ℕ
part_numbers p = p.term

-- the numbers that are written in a term
unfoldable pub numbers_in : Term → List ℕ
numbers_in = fold-Term (List ℕ) (List ℕ) term_numbers part_numbers

abbrev pub formula_numbers : Formula-F (List ℕ) → List ℕ
formula_numbers (open_formula.Lone x) = numbers_in x
formula_numbers (open_formula.Compare r x y) = numbers_in x ++ numbers_in y
formula_numbers (open_formula.Not f) = f
formula_numbers (open_formula.And fs) = flat_map (λ f. f) fs
formula_numbers (open_formula.Or fs) = flat_map (λ f. f) fs
formula_numbers (open_formula.Implies f g) = f ++ g
formula_numbers (open_formula.Iff f g) = f ++ g
formula_numbers (open_formula.All name d f) = f
formula_numbers (open_formula.Ex name d f) = f
formula_numbers (open_formula.One o f) = f
formula_numbers (open_formula.Far o f x) = f ++ numbers_in x
formula_numbers (open_formula.Pair o f g) = f ++ g

-- the numbers that are written in a formula's terms
unfoldable pub numbers_of : Formula → List ℕ
numbers_of = fold-Formula (List ℕ) formula_numbers
