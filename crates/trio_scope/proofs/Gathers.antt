-- What a rule finds in each form of a term and of a formula.
use Rattle.std.proofs.Common.{◌≡◌, ℕ, Bool, true, false, List, [], ◌∷◌, ◌++◌, map, refl, ap, sym, ◌∙◌}
use Rattle.std.specs.List.{flat_map}
use Rattle.std.proofs.lemmas.List.Folds.{flat_map-map}
use Rattle.trio_base.specs.declared.operators.Rel.{Rel}
use Rattle.trio_base.specs.declared.operators.OneOp.{OneOp}
use Rattle.trio_base.specs.declared.operators.FarOp.{FarOp}
use Rattle.trio_base.specs.declared.operators.PairOp.{PairOp}
use Rattle.trio_syntax.specs.declared.tree.Quantifier.{Quantifier}
use Rattle.trio_syntax.specs.declared.tree.Mention.{Mention}
use Rattle.trio_syntax.specs.declared.tree.Written.{Written}
use Rattle.trio_syntax.specs.declared.tree.RefTree.{RefTree}
use Rattle.trio_syntax.specs.declared.tree.TermTree.{TermTree, out-TermTree, roll-out-TermTree, para-TermTree, para-roll-TermTree}
use Rattle.trio_syntax.specs.declared.tree.TermShape.{TermShape, TermShape-F, roll-TermShape, map-TermShape, para-roll-TermShape}
use Rattle.trio_syntax.specs.declared.tree.TermShape.TheOpen as open_shape
use Rattle.trio_syntax.specs.declared.tree.TermShape.TheVariants as shape
use Rattle.trio_syntax.specs.declared.tree.PartTree.{PartTree, out-PartTree, roll-out-PartTree, para-PartTree, para-roll-PartTree}
use Rattle.trio_syntax.specs.declared.tree.FormulaTree.{FormulaTree}
use Rattle.trio_syntax.specs.declared.tree.FormulaTree.TheVariants as formula
use Rattle.trio_syntax.specs.declared.tree.FormulaTree.TheOpen.{FormulaTree-F}
use Rattle.trio_syntax.specs.declared.tree.FormulaTree.TheOpen as open_formula
use Rattle.trio_syntax.specs.declared.tree.FormulaTree.TheFolds.{fold-roll-FormulaTree, map-FormulaTree}
use Rattle.trio_syntax.specs.declared.tree.FormulaTree.TheViews.{roll-FormulaTree}
use Rattle.trio_scope.specs.declared.walk.Role.{Role}
use Rattle.trio_scope.specs.declared.walk.Role.TheVariants as role
use Rattle.trio_scope.specs.Gather.{Variable, Finding, Inside, Below, in_shape, in_part, in_occurrence, places_in_term, places_in_shape, places_in_arguments, places_in_sum, in_comparison, under, in_formula, places_in}

flat_map_same : {A B : Type 0} (f g : A → List B) → ((x : A) → f x ≡ g x) → (xs : List A) → flat_map f xs ≡ flat_map g xs
flat_map_same f g same [] = refl
flat_map_same f g same (x ∷ xs) = rw (same x, flat_map_same f g same xs) refl

-- terms
module _ (rule : Finding) where
  part : PartTree → Below
  part = para-PartTree Below Below Inside in_shape in_part (in_occurrence rule)

  part_is : (p : PartTree) (e : List Variable) (inside : Bool) → part p e inside ≡ places_in_term rule (out-PartTree p).term e role.Part inside
  unfolding places_in_term part
  part_is p e inside =
      ap (λ q. para-PartTree Below Below Inside in_shape in_part (in_occurrence rule) q e inside) (sym (roll-out-PartTree p))
      ∙ ap (λ h. h e inside) (para-roll-PartTree Below Below Inside in_shape in_part (in_occurrence rule) (out-PartTree p))

  pub in-term : (t : TermTree) (e : List Variable) (r : Role) (inside : Bool) →
      places_in_term rule t e r inside ≡ rule.term e r inside t ++ places_in_shape rule (out-TermTree t).shape e inside
  unfolding places_in_term places_in_shape
  in-term t e r inside =
      ap (λ u. para-TermTree Below Below Inside in_shape in_part (in_occurrence rule) u e r inside) (sym (roll-out-TermTree t))
      ∙ ap (λ h. h e r inside) (para-roll-TermTree Below Below Inside in_shape in_part (in_occurrence rule) (out-TermTree t))
      ∙ ap (λ u. rule.term e r inside u ++ places_in_shape rule (out-TermTree t).shape e inside) (roll-out-TermTree t)

  shape_at : {s : TermShape} (x : TermShape-F TermShape PartTree TermTree) → roll-TermShape x ≡ s → (e : List Variable) (inside : Bool) →
      places_in_shape rule s e inside ≡ in_shape (map-TermShape TermShape PartTree TermTree (TermShape × Below) (PartTree × Below) (TermTree × Inside)
      (λ y. (y, places_in_shape rule y)) (λ y. (y, part y)) (λ y. (y, places_in_term rule y)) x) e inside
  unfolding places_in_term places_in_shape part
  shape_at x is e inside =
      ap (λ s. places_in_shape rule s e inside) (sym is)
      ∙ ap (λ h. h e inside) (para-roll-TermShape Below Below Inside in_shape in_part (in_occurrence rule) x)

  module _ (e : List Variable) (inside : Bool) where
    pub in-Number : (n : Written) → places_in_shape rule (shape.Number n) e inside ≡ []
    in-Number n = shape_at (open_shape.Number n) (shape.rolls-Number n) e inside

    pub in-Truth : (b : Bool) → places_in_shape rule (shape.Truth b) e inside ≡ []
    in-Truth b = shape_at (open_shape.Truth b) (shape.rolls-Truth b) e inside

    pub in-Named : (m : Mention) → places_in_shape rule (shape.Named m) e inside ≡ []
    in-Named m = shape_at (open_shape.Named m) (shape.rolls-Named m) e inside

    pub in-Call : (m : Mention) (args : List TermTree) → places_in_shape rule (shape.Call m args) e inside ≡ places_in_arguments rule e args
    in-Call m args =
        shape_at (open_shape.Call m args) (shape.rolls-Call m args) e inside
        ∙ flat_map-map (λ (a : TermTree × Inside). a.1 e role.Argument true) (λ y. (y, places_in_term rule y)) args

    pub in-Sum : (parts : List PartTree) → places_in_shape rule (shape.Sum parts) e inside ≡ places_in_sum rule e inside parts
    in-Sum parts =
        shape_at (open_shape.Sum parts) (shape.rolls-Sum parts) e inside
        ∙ flat_map-map (λ (p : PartTree × Below). p.1 e inside) (λ y. (y, part y)) parts
        ∙ flat_map_same (λ p. part p e inside) (λ p. places_in_term rule (out-PartTree p).term e role.Part inside) (λ p. part_is p e inside) parts

    pub in-Times : (n : Written) (factor : TermTree) → places_in_shape rule (shape.Times n factor) e inside ≡ places_in_term rule factor e role.Factor inside
    in-Times n factor = shape_at (open_shape.Times n factor) (shape.rolls-Times n factor) e inside

-- formulas
module _ (rule : Finding) (e : List Variable) where
  formula_at : {f : FormulaTree} (x : FormulaTree-F FormulaTree) → roll-FormulaTree x ≡ f →
      places_in rule f e ≡ in_formula rule (map-FormulaTree FormulaTree (List Variable → List ℕ) (places_in rule) x) e
  unfolding places_in
  formula_at x is = ap (λ f. places_in rule f e) (sym is) ∙ ap (λ h. h e) (fold-roll-FormulaTree (List Variable → List ℕ) (in_formula rule) x)

  joined : (fs : List FormulaTree) → flat_map (λ h. h e) (map (places_in rule) fs) ≡ flat_map (λ f. places_in rule f e) fs
  joined fs = flat_map-map (λ h. h e) (places_in rule) fs

  pub in-Lone : (t : TermTree) → places_in rule (formula.Lone t) e ≡ places_in_term rule t e role.Alone false
  in-Lone t = formula_at (open_formula.Lone t) (formula.rolls-Lone t)

  pub in-Compare : (rel : Rel) (p : ℕ) (t u : TermTree) → places_in rule (formula.Compare rel p t u) e ≡ in_comparison rule e rel p t u
  in-Compare rel p t u = formula_at (open_formula.Compare rel p t u) (formula.rolls-Compare rel p t u)

  pub in-Not : (f : FormulaTree) → places_in rule (formula.Not f) e ≡ places_in rule f e
  in-Not f = formula_at (open_formula.Not f) (formula.rolls-Not f)

  pub in-And : (fs : List FormulaTree) → places_in rule (formula.And fs) e ≡ flat_map (λ f. places_in rule f e) fs
  in-And fs = formula_at (open_formula.And fs) (formula.rolls-And fs) ∙ joined fs

  pub in-Or : (fs : List FormulaTree) → places_in rule (formula.Or fs) e ≡ flat_map (λ f. places_in rule f e) fs
  in-Or fs = formula_at (open_formula.Or fs) (formula.rolls-Or fs) ∙ joined fs

  pub in-Implies : (f g : FormulaTree) → places_in rule (formula.Implies f g) e ≡ places_in rule f e ++ places_in rule g e
  in-Implies f g = formula_at (open_formula.Implies f g) (formula.rolls-Implies f g)

  pub in-Iff : (f g : FormulaTree) → places_in rule (formula.Iff f g) e ≡ places_in rule f e ++ places_in rule g e
  in-Iff f g = formula_at (open_formula.Iff f g) (formula.rolls-Iff f g)

  pub in-Quantified : (q : Quantifier) (x : Mention) (ref : RefTree) (f : FormulaTree) →
      places_in rule (formula.Quantified q x ref f) e ≡ under rule e x ref (places_in rule f)
  in-Quantified q x ref f = formula_at (open_formula.Quantified q x ref f) (formula.rolls-Quantified q x ref f)

  pub in-One : (op : OneOp) (f : FormulaTree) → places_in rule (formula.One op f) e ≡ places_in rule f e
  in-One op f = formula_at (open_formula.One op f) (formula.rolls-One op f)

  pub in-Far : (op : FarOp) (f : FormulaTree) (t : TermTree) →
      places_in rule (formula.Far op f t) e ≡ places_in rule f e ++ places_in_term rule t e role.Distance true
  in-Far op f t = formula_at (open_formula.Far op f t) (formula.rolls-Far op f t)

  pub in-Pair : (op : PairOp) (f g : FormulaTree) → places_in rule (formula.Pair op f g) e ≡ places_in rule f e ++ places_in rule g e
  in-Pair op f g = formula_at (open_formula.Pair op f g) (formula.rolls-Pair op f g)
