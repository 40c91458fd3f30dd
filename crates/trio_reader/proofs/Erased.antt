-- What each form of a term and of a formula of a tree stands for.
use Rattle.std.proofs.Common.{◌≡◌, ℕ, ◌+◌, ◌<◌, Bool, if◌then◌else◌, List, [], ◌∷◌, ◌++◌, length, map, take, get_or, refl, ap, sym, ◌∙◌}
use Rattle.std.proofs.lemmas.List.{take_more, map-append}
use Rattle.trio_base.specs.declared.operators.Rel.{Rel}
use Rattle.trio_base.specs.declared.operators.OneOp.{OneOp}
use Rattle.trio_base.specs.declared.operators.FarOp.{FarOp}
use Rattle.trio_base.specs.declared.operators.PairOp.{PairOp}
use Rattle.trio_syntax.specs.declared.tree.Quantifier.{Quantifier}
use Rattle.trio_syntax.specs.declared.tree.Mention.{Mention}
use Rattle.trio_syntax.specs.declared.tree.Written.{Written}
use Rattle.trio_syntax.specs.declared.tree.RefTree.{RefTree}
use Rattle.trio_syntax.specs.declared.tree.TermTree.{TermTree, out-TermTree, fold_out-TermTree}
use Rattle.trio_syntax.specs.declared.tree.TermShape.{TermShape, TermShape-F, roll-TermShape, map-TermShape, fold-roll-TermShape}
use Rattle.trio_syntax.specs.declared.tree.TermShape.TheOpen as open_shape
use Rattle.trio_syntax.specs.declared.tree.TermShape.TheVariants as shape
use Rattle.trio_syntax.specs.declared.tree.PartTree.{PartTree, fold-PartTree, fold_out-PartTree}
use Rattle.trio_syntax.specs.declared.tree.FormulaTree.{FormulaTree}
use Rattle.trio_syntax.specs.declared.tree.FormulaTree.TheVariants as tree_formula
use Rattle.trio_syntax.specs.declared.tree.FormulaTree.TheOpen.{FormulaTree-F}
use Rattle.trio_syntax.specs.declared.tree.FormulaTree.TheOpen as open_formula
use Rattle.trio_syntax.specs.declared.tree.FormulaTree.TheFolds.{fold-roll-FormulaTree, map-FormulaTree}
use Rattle.trio_syntax.specs.declared.tree.FormulaTree.TheViews.{roll-FormulaTree}
use Rattle.trio_syntax.specs.declared.tree.SpecTree.{SpecTree}
use Rattle.trio_types.specs.declared.formula.Term.TheVariants as term
use Rattle.trio_types.specs.declared.formula.SignedTerm.{SignedTerm}
use Rattle.trio_types.specs.declared.formula.Formula.{Formula}
use Rattle.trio_types.specs.declared.formula.Formula.TheVariants as formula
use Rattle.trio_scope.specs.Gather.{Variable}
use Rattle.trio_reader.specs.Erasure.{Erased, erased_shape, erased_part, erased_term, shape_of, term_of, part_from, sense_of, sense_term, sense_item, item_count, erased_formula, formula_of, quantified_from}

pub map-map : {X Y Z : Type 0} (f : Y → Z) (g : X → Y) (xs : List X) → map f (map g xs) ≡ map (λ x. f (g x)) xs
map-map f g [] = refl
map-map f g (x ∷ xs) = ap (λ ys. f (g x) ∷ ys) (map-map f g xs)

pub map_same : {X Y : Type 0} (f g : X → Y) → ((x : X) → f x ≡ g x) → (xs : List X) → map f xs ≡ map g xs
map_same f g same [] = refl
map_same f g same (x ∷ xs) = rw (same x, map_same f g same xs) refl

-- terms
module _ (tree : SpecTree) where
  part : PartTree → List Variable → SignedTerm
  part = fold-PartTree Erased (List Variable → SignedTerm) Erased (erased_shape tree) erased_part erased_term

  part_is : (p : PartTree) (e : List Variable) → part p e ≡ part_from tree p e
  unfolding term_of part
  part_is p e = ap (λ h. h e) (fold_out-PartTree Erased (List Variable → SignedTerm) Erased (erased_shape tree) erased_part erased_term p)

  pub term-shape : (t : TermTree) (e : List Variable) → term_of tree t e ≡ shape_of tree (out-TermTree t).shape e
  unfolding term_of shape_of
  term-shape t e = ap (λ h. h e) (fold_out-TermTree Erased (List Variable → SignedTerm) Erased (erased_shape tree) erased_part erased_term t)

  shape_at : {s : TermShape} (x : TermShape-F TermShape PartTree TermTree) → roll-TermShape x ≡ s → (e : List Variable) →
      shape_of tree s e ≡ erased_shape tree (map-TermShape TermShape PartTree TermTree Erased (List Variable → SignedTerm) Erased (shape_of tree) part (term_of tree) x) e
  unfolding term_of shape_of part
  shape_at x is e =
      ap (λ s. shape_of tree s e) (sym is)
      ∙ ap (λ h. h e) (fold-roll-TermShape Erased (List Variable → SignedTerm) Erased (erased_shape tree) erased_part erased_term x)

  module _ (e : List Variable) where
    pub shape-Number : (n : Written) → shape_of tree (shape.Number n) e ≡ term.Number n.number
    shape-Number n = shape_at (open_shape.Number n) (shape.rolls-Number n) e

    pub shape-Truth : (b : Bool) → shape_of tree (shape.Truth b) e ≡ term.Value 0 (if b then 1 else 0)
    shape-Truth b = shape_at (open_shape.Truth b) (shape.rolls-Truth b) e

    pub shape-Named : (m : Mention) → shape_of tree (shape.Named m) e ≡ sense_term (sense_of tree e m.name)
    shape-Named m = shape_at (open_shape.Named m) (shape.rolls-Named m) e

    pub shape-Call : (m : Mention) (args : List TermTree) →
        shape_of tree (shape.Call m args) e ≡ term.Read (sense_item (item_count tree) (sense_of tree e m.name)) (map (λ t. term_of tree t e) args)
    shape-Call m args =
        shape_at (open_shape.Call m args) (shape.rolls-Call m args) e
        ∙ ap (term.Read (sense_item (item_count tree) (sense_of tree e m.name))) (map-map (λ (h : Erased). h e) (term_of tree) args)

    pub shape-Sum : (parts : List PartTree) → shape_of tree (shape.Sum parts) e ≡ term.Sum (map (λ p. part_from tree p e) parts)
    shape-Sum parts =
        shape_at (open_shape.Sum parts) (shape.rolls-Sum parts) e
        ∙ ap term.Sum (map-map (λ (h : List Variable → SignedTerm). h e) part parts ∙ map_same (λ p. part p e) (λ p. part_from tree p e) (λ p. part_is p e) parts)

    pub shape-Times : (n : Written) (factor : TermTree) → shape_of tree (shape.Times n factor) e ≡ term.Times n.number (term_of tree factor e)
    shape-Times n factor = shape_at (open_shape.Times n factor) (shape.rolls-Times n factor) e

-- formulas
module _ (tree : SpecTree) (e : List Variable) where
  formula_at : {f : FormulaTree} (x : FormulaTree-F FormulaTree) → roll-FormulaTree x ≡ f →
      formula_of tree f e ≡ erased_formula tree (map-FormulaTree FormulaTree (List Variable → Formula) (formula_of tree) x) e
  unfolding formula_of
  formula_at x is = ap (λ f. formula_of tree f e) (sym is) ∙ ap (λ h. h e) (fold-roll-FormulaTree (List Variable → Formula) (erased_formula tree) x)

  pub formula-Lone : (t : TermTree) → formula_of tree (tree_formula.Lone t) e ≡ formula.Lone (term_of tree t e)
  formula-Lone t = formula_at (open_formula.Lone t) (tree_formula.rolls-Lone t)

  pub formula-Compare : (rel : Rel) (p : ℕ) (t u : TermTree) →
      formula_of tree (tree_formula.Compare rel p t u) e ≡ formula.Compare rel (term_of tree t e) (term_of tree u e)
  formula-Compare rel p t u = formula_at (open_formula.Compare rel p t u) (tree_formula.rolls-Compare rel p t u)

  pub formula-Not : (f : FormulaTree) → formula_of tree (tree_formula.Not f) e ≡ formula.Not (formula_of tree f e)
  formula-Not f = formula_at (open_formula.Not f) (tree_formula.rolls-Not f)

  pub formula-And : (fs : List FormulaTree) → formula_of tree (tree_formula.And fs) e ≡ formula.And (map (λ f. formula_of tree f e) fs)
  formula-And fs = formula_at (open_formula.And fs) (tree_formula.rolls-And fs) ∙ ap formula.And (map-map (λ (h : List Variable → Formula). h e) (formula_of tree) fs)

  pub formula-Or : (fs : List FormulaTree) → formula_of tree (tree_formula.Or fs) e ≡ formula.Or (map (λ f. formula_of tree f e) fs)
  formula-Or fs = formula_at (open_formula.Or fs) (tree_formula.rolls-Or fs) ∙ ap formula.Or (map-map (λ (h : List Variable → Formula). h e) (formula_of tree) fs)

  pub formula-Implies : (f g : FormulaTree) → formula_of tree (tree_formula.Implies f g) e ≡ formula.Implies (formula_of tree f e) (formula_of tree g e)
  formula-Implies f g = formula_at (open_formula.Implies f g) (tree_formula.rolls-Implies f g)

  pub formula-Iff : (f g : FormulaTree) → formula_of tree (tree_formula.Iff f g) e ≡ formula.Iff (formula_of tree f e) (formula_of tree g e)
  formula-Iff f g = formula_at (open_formula.Iff f g) (tree_formula.rolls-Iff f g)

  pub formula-Quantified : (q : Quantifier) (x : Mention) (domain : RefTree) (f : FormulaTree) →
      formula_of tree (tree_formula.Quantified q x domain f) e ≡ quantified_from tree e q x domain (formula_of tree f)
  formula-Quantified q x domain f = formula_at (open_formula.Quantified q x domain f) (tree_formula.rolls-Quantified q x domain f)

  pub formula-One : (op : OneOp) (f : FormulaTree) → formula_of tree (tree_formula.One op f) e ≡ formula.One op (formula_of tree f e)
  formula-One op f = formula_at (open_formula.One op f) (tree_formula.rolls-One op f)

  pub formula-Far : (op : FarOp) (f : FormulaTree) (t : TermTree) →
      formula_of tree (tree_formula.Far op f t) e ≡ formula.Far op (formula_of tree f e) (term_of tree t e)
  formula-Far op f t = formula_at (open_formula.Far op f t) (tree_formula.rolls-Far op f t)

  pub formula-Pair : (op : PairOp) (f g : FormulaTree) →
      formula_of tree (tree_formula.Pair op f g) e ≡ formula.Pair op (formula_of tree f e) (formula_of tree g e)
  formula-Pair op f g = formula_at (open_formula.Pair op f g) (tree_formula.rolls-Pair op f g)

-- one more statement, in a loop that maps what the statements declare
pub mapped_next : {S A B : Type 0} (f : A → B) (gather : List S → List A) →
    ((xs ys : List S) → gather (xs ++ ys) ≡ gather xs ++ gather ys) → (xs : List S) (i : ℕ) (x : S) → i < length xs → x ≡ get_or xs i x →
    map f (gather (take i xs)) ++ map f (gather (x ∷ [])) ≡ map f (gather (take (i + 1) xs))
mapped_next f gather split xs i x below is =
    sym (map-append f (gather (take i xs)) (gather (x ∷ []))) ∙ ap (map f) (sym (split (take i xs) (x ∷ []))
    ∙ ap gather (ap (λ y. take i xs ++ y ∷ []) is ∙ sym (take_more xs i x below)))
