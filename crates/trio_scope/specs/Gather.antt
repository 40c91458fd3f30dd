-- What a rule finds in a formula: at each occurrence of a term, at each comparison and at each variable, under the variables in whose body it stands.
use Rattle.std.specs.Prelude.{ℕ, Bool, true, false, List, [], ◌∷◌, ◌++◌, map}
use Rattle.std.specs.List.{flat_map}
use Rattle.trio_base.specs.declared.operators.Rel.{Rel}
use Rattle.trio_syntax.specs.declared.tree.Mention.{Mention}
use Rattle.trio_syntax.specs.declared.tree.RefTree.{RefTree}
use Rattle.trio_syntax.specs.declared.tree.TermTree.{TermTree, TermTree-F, roll-TermTree, para-TermTree}
use Rattle.trio_syntax.specs.declared.tree.TermShape.{TermShape, TermShape-F, para-TermShape}
use Rattle.trio_syntax.specs.declared.tree.TermShape.TheOpen as shape
use Rattle.trio_syntax.specs.declared.tree.PartTree.{PartTree, PartTree-F, out-PartTree}
use Rattle.trio_syntax.specs.declared.tree.FormulaTree.{FormulaTree}
use Rattle.trio_syntax.specs.declared.tree.FormulaTree.TheOpen.{FormulaTree-F}
use Rattle.trio_syntax.specs.declared.tree.FormulaTree.TheOpen as formula
use Rattle.trio_syntax.specs.declared.tree.FormulaTree.TheFolds.{fold-FormulaTree}
use Rattle.trio_syntax.specs.declared.tree.SpecTree.{SpecTree}
use Rattle.trio_scope.specs.declared.walk.Binder.{Binder}
use Rattle.trio_scope.specs.declared.walk.Role.{Role}
use Rattle.trio_scope.specs.declared.walk.Role.TheVariants as role

-- a variable, with what names its domain
pub record Variable : Type 0 where
  pub name : List ℕ
  pub domain : RefTree

-- the variables as code keeps them, from the outermost on
abbrev pub variables_from : List Binder → List Variable
variables_from binders = map (λ b. record { name = b.variable.now.name; domain = b.domain.now }) binders

-- the places that a rule finds, under the variables round them: at an occurrence of a term in its role, inside of a distance or an argument or not;
-- at a comparison, with the place of its relation; and at a variable with what names its domain
pub record Finding : Type 0 where
  pub term : List Variable → Role → Bool → TermTree → List ℕ
  pub compared : List Variable → Rel → ℕ → TermTree → TermTree → List ℕ
  pub variable : List Variable → Mention → RefTree → List ℕ

-- what is found in a term, by its role
abbrev pub Inside : Type 0
Inside = List Variable → Role → Bool → List ℕ

-- what is found in the parts of a term
abbrev pub Below : Type 0
Below = List Variable → Bool → List ℕ

-- an argument stands inside of one
abbrev pub in_shape : TermShape-F (TermShape × Below) (PartTree × Below) (TermTree × Inside) → Below
in_shape (shape.Number n) e inside = []
in_shape (shape.Truth b) e inside = []
in_shape (shape.Named m) e inside = []
in_shape (shape.Call m args) e inside = flat_map (λ a. a.1 e role.Argument true) args
in_shape (shape.Sum parts) e inside = flat_map (λ p. p.1 e inside) parts
in_shape (shape.Times n factor) e inside = factor.1 e role.Factor inside

abbrev pub in_part : PartTree-F (TermShape × Below) (PartTree × Below) (TermTree × Inside) → Below
in_part part e inside = part.term.1 e role.Part inside

-- its own, and then those of its parts
abbrev pub in_occurrence : Finding → TermTree-F (TermShape × Below) (PartTree × Below) (TermTree × Inside) → Inside
in_occurrence rule t e role inside =
    rule.term e role inside (roll-TermTree (record { place = t.place; shape = t.shape.0 })) ++ t.shape.1 e inside

-- the places that a rule finds in a term
unfoldable pub places_in_term : Finding → TermTree → Inside
places_in_term rule = para-TermTree Below Below Inside in_shape in_part (in_occurrence rule)

-- those in the parts of what a term is
unfoldable pub places_in_shape : Finding → TermShape → Below
places_in_shape rule = para-TermShape Below Below Inside in_shape in_part (in_occurrence rule)

-- those in the arguments of a read
abbrev pub places_in_arguments : Finding → List Variable → List TermTree → List ℕ
places_in_arguments rule e args = flat_map (λ t. places_in_term rule t e role.Argument true) args

-- those in the parts of a sum
abbrev pub places_in_sum : Finding → List Variable → Bool → List PartTree → List ℕ
places_in_sum rule e inside parts = flat_map (λ p. places_in_term rule (out-PartTree p).term e role.Part inside) parts

-- what is found in a comparison
abbrev pub in_comparison : Finding → List Variable → Rel → ℕ → TermTree → TermTree → List ℕ
in_comparison rule e rel p t u =
    rule.compared e rel p t u ++ (places_in_term rule t e role.Compared false ++ places_in_term rule u e role.Compared false)

-- what is found at a variable, and in its body
abbrev pub under : Finding → List Variable → Mention → RefTree → (List Variable → List ℕ) → List ℕ
under rule e x ref body = rule.variable e x ref ++ body (e ++ record { name = x.name; domain = ref } ∷ [])

abbrev pub in_formula : Finding → FormulaTree-F (List Variable → List ℕ) → List Variable → List ℕ
in_formula rule (formula.Lone t) e = places_in_term rule t e role.Alone false
in_formula rule (formula.Compare rel p t u) e = in_comparison rule e rel p t u
in_formula rule (formula.Not f) e = f e
in_formula rule (formula.And fs) e = flat_map (λ f. f e) fs
in_formula rule (formula.Or fs) e = flat_map (λ f. f e) fs
in_formula rule (formula.Implies f g) e = f e ++ g e
in_formula rule (formula.Iff f g) e = f e ++ g e
in_formula rule (formula.Quantified q x ref f) e = under rule e x ref f
in_formula rule (formula.One op f) e = f e
in_formula rule (formula.Far op f t) e = f e ++ places_in_term rule t e role.Distance true
in_formula rule (formula.Pair op f g) e = f e ++ g e

-- the places that a rule finds in a formula
unfoldable pub places_in : Finding → FormulaTree → List Variable → List ℕ
places_in rule = fold-FormulaTree (List Variable → List ℕ) (in_formula rule)

-- those in the formulas of axioms and goals
abbrev pub places_in_claims : Finding → SpecTree → List ℕ
places_in_claims rule tree = flat_map (λ c. places_in rule c.formula []) tree.claims
