-- Induction over the formulas and the terms of trees, form by form.
use Rattle.std.proofs.Common.{◌≡◌, ℕ, Bool, true, List, [], ◌∷◌, map, refl, sym, subst}
use denote.Hole.Holds.{Such}
use Rattle.std.specs.List.{list_all, flat_map}
use Rattle.std.proofs.lemmas.Bool.{and_parts, and_from}
use Rattle.trio_base.specs.declared.operators.Rel.{Rel}
use Rattle.trio_base.specs.declared.operators.OneOp.{OneOp}
use Rattle.trio_base.specs.declared.operators.FarOp.{FarOp}
use Rattle.trio_base.specs.declared.operators.PairOp.{PairOp}
use Rattle.trio_syntax.specs.declared.tree.Quantifier.{Quantifier}
use Rattle.trio_syntax.specs.declared.tree.Mention.{Mention}
use Rattle.trio_syntax.specs.declared.tree.Written.{Written}
use Rattle.trio_syntax.specs.declared.tree.RefTree.{RefTree}
use Rattle.trio_syntax.specs.declared.tree.TermTree.{TermTree, TermTree-F, out-TermTree, roll-TermTree, out-roll-TermTree, map-TermTree}
use Rattle.trio_syntax.specs.declared.tree.PartTree.{PartTree, PartTree-F, out-PartTree, roll-PartTree, out-roll-PartTree, map-PartTree}
use Rattle.trio_syntax.specs.declared.tree.TermShape.{TermShape, TermShape-F, roll-TermShape, map-TermShape, ind-TermShape}
use Rattle.trio_syntax.specs.declared.tree.TermShape.TheOpen as open_shape
use Rattle.trio_syntax.specs.declared.tree.TermShape.TheVariants as shape
use Rattle.trio_syntax.specs.declared.tree.TermShape.TheFolds as term_folds
use Rattle.trio_syntax.specs.declared.tree.TermShape.TheBlock as term_block
use Rattle.trio_syntax.specs.declared.tree.FormulaTree.{FormulaTree}
use Rattle.trio_syntax.specs.declared.tree.FormulaTree.TheVariants as formula
use Rattle.trio_syntax.specs.declared.tree.FormulaTree.TheOpen.{FormulaTree-F}
use Rattle.trio_syntax.specs.declared.tree.FormulaTree.TheOpen as open_formula
use Rattle.trio_syntax.specs.declared.tree.FormulaTree.TheFolds.{map-FormulaTree, ind-FormulaTree, claims}
use Rattle.trio_syntax.specs.declared.tree.FormulaTree.TheBlock.{the_family, member-FormulaTree}
use Rattle.trio_syntax.specs.declared.tree.FormulaTree.TheViews.{roll-FormulaTree}
use Rattle.trio_types.proofs.Inductions.{Each}
use Rattle.trio_reader.proofs.FormedPhases.{append_empty}

-- each element passes the one test, since it passes the other
pub each_passes : {X : Type 0} (P : X → Type 0) (p q : X → Bool) → ((x : X) → P x → p x ≡ true → q x ≡ true) → (xs : List X) → Each P xs →
    list_all p xs ≡ true → list_all q xs ≡ true
each_passes P p q give [] each all = refl
each_passes P p q give (x ∷ xs) each all =
    let both = and_parts (p x) (list_all p xs) all in
    and_from (q x) (list_all q xs) (give x each.0 both.0) (each_passes P p q give xs each.1 both.1)

-- each element passes a test, since nothing is found in it
pub each_clean : {X : Type 0} (P : X → Type 0) (found : X → List ℕ) (q : X → Bool) → ((x : X) → P x → found x ≡ [] → q x ≡ true) → (xs : List X) → Each P xs →
    flat_map found xs ≡ [] → list_all q xs ≡ true
each_clean P found q give [] each none = refl
each_clean P found q give (x ∷ xs) each none =
    let both = append_empty (found x) (flat_map found xs) none in
    and_from (q x) (list_all q xs) (give x each.0 both.0) (each_clean P found q give xs each.1 both.1)

-- formulas
pub record FormulaCases (P : FormulaTree → Type 0) : Type 0 where
  pub at_lone : (t : TermTree) → P (formula.Lone t)
  pub at_compare : (rel : Rel) (p : ℕ) (t u : TermTree) → P (formula.Compare rel p t u)
  pub at_not : (f : FormulaTree) → P f → P (formula.Not f)
  pub at_and : (fs : List FormulaTree) → Each P fs → P (formula.And fs)
  pub at_or : (fs : List FormulaTree) → Each P fs → P (formula.Or fs)
  pub at_implies : (f g : FormulaTree) → P f → P g → P (formula.Implies f g)
  pub at_iff : (f g : FormulaTree) → P f → P g → P (formula.Iff f g)
  pub at_quantified : (q : Quantifier) (x : Mention) (ref : RefTree) (f : FormulaTree) → P f → P (formula.Quantified q x ref f)
  pub at_one : (op : OneOp) (f : FormulaTree) → P f → P (formula.One op f)
  pub at_far : (op : FarOp) (f : FormulaTree) (t : TermTree) → P f → P (formula.Far op f t)
  pub at_pair : (op : PairOp) (f g : FormulaTree) → P f → P g → P (formula.Pair op f g)

module _ (P : FormulaTree → Type 0) (cases : FormulaCases P) where
  abbrev Part : Type 0
  Part = Such the_family (claims P) member-FormulaTree

  parts_hold : (es : List Part) → Each P (map (λ e. e.0) es)
  parts_hold [] = tt
  parts_hold (e ∷ es) = (e.1, parts_hold es)

  each_form : (y : FormulaTree-F Part) → P (roll-FormulaTree (map-FormulaTree Part FormulaTree (λ e. e.0) y))
  each_form (open_formula.Lone t) = subst P (sym (formula.rolls-Lone t)) (cases.at_lone t)
  each_form (open_formula.Compare rel p t u) = subst P (sym (formula.rolls-Compare rel p t u)) (cases.at_compare rel p t u)
  each_form (open_formula.Not e) = subst P (sym (formula.rolls-Not e.0)) (cases.at_not e.0 e.1)
  each_form (open_formula.And es) = subst P (sym (formula.rolls-And (map (λ e. e.0) es))) (cases.at_and (map (λ e. e.0) es) (parts_hold es))
  each_form (open_formula.Or es) = subst P (sym (formula.rolls-Or (map (λ e. e.0) es))) (cases.at_or (map (λ e. e.0) es) (parts_hold es))
  each_form (open_formula.Implies d e) = subst P (sym (formula.rolls-Implies d.0 e.0)) (cases.at_implies d.0 e.0 d.1 e.1)
  each_form (open_formula.Iff d e) = subst P (sym (formula.rolls-Iff d.0 e.0)) (cases.at_iff d.0 e.0 d.1 e.1)
  each_form (open_formula.Quantified q x ref e) = subst P (sym (formula.rolls-Quantified q x ref e.0)) (cases.at_quantified q x ref e.0 e.1)
  each_form (open_formula.One op e) = subst P (sym (formula.rolls-One op e.0)) (cases.at_one op e.0 e.1)
  each_form (open_formula.Far op e t) = subst P (sym (formula.rolls-Far op e.0 t)) (cases.at_far op e.0 t e.1)
  each_form (open_formula.Pair op d e) = subst P (sym (formula.rolls-Pair op d.0 e.0)) (cases.at_pair op d.0 e.0 d.1 e.1)

  pub every_formula : (f : FormulaTree) → P f
  every_formula = ind-FormulaTree P (λ x y is. subst (λ z. P (roll-FormulaTree z)) is (each_form y))

-- terms
abbrev pub term_in : PartTree → TermShape
term_in p = (out-TermTree (out-PartTree p).term).shape

pub record TermCases (P : TermShape → Type 0) : Type 0 where
  pub at_number : (n : Written) → P (shape.Number n)
  pub at_truth : (b : Bool) → P (shape.Truth b)
  pub at_named : (m : Mention) → P (shape.Named m)
  pub at_call : (m : Mention) (args : List TermTree) → Each (λ t. P (out-TermTree t).shape) args → P (shape.Call m args)
  pub at_sum : (parts : List PartTree) → Each (λ p. P (term_in p)) parts → P (shape.Sum parts)
  pub at_times : (n : Written) (t : TermTree) → P (out-TermTree t).shape → P (shape.Times n t)

module _ (P : TermShape → Type 0) (cases : TermCases P) where
  abbrev OfPart : PartTree → Type 0
  OfPart p = P (term_in p)

  abbrev OfTerm : TermTree → Type 0
  OfTerm t = P (out-TermTree t).shape

  abbrev SuchShape : Type 0
  SuchShape = Such term_block.the_family (term_folds.claims P OfPart OfTerm) term_block.member-TermShape

  abbrev SuchPart : Type 0
  SuchPart = Such term_block.the_family (term_folds.claims P OfPart OfTerm) term_block.member-PartTree

  abbrev SuchTerm : Type 0
  SuchTerm = Such term_block.the_family (term_folds.claims P OfPart OfTerm) term_block.member-TermTree

  terms_hold : (es : List SuchTerm) → Each OfTerm (map (λ e. e.0) es)
  terms_hold [] = tt
  terms_hold (e ∷ es) = (e.1, terms_hold es)

  summands_hold : (es : List SuchPart) → Each OfPart (map (λ e. e.0) es)
  summands_hold [] = tt
  summands_hold (e ∷ es) = (e.1, summands_hold es)

  each_shape : (y : TermShape-F SuchShape SuchPart SuchTerm) →
      P (roll-TermShape (map-TermShape SuchShape SuchPart SuchTerm TermShape PartTree TermTree (λ e. e.0) (λ e. e.0) (λ e. e.0) y))
  each_shape (open_shape.Number n) = subst P (sym (shape.rolls-Number n)) (cases.at_number n)
  each_shape (open_shape.Truth b) = subst P (sym (shape.rolls-Truth b)) (cases.at_truth b)
  each_shape (open_shape.Named m) = subst P (sym (shape.rolls-Named m)) (cases.at_named m)
  each_shape (open_shape.Call m es) = subst P (sym (shape.rolls-Call m (map (λ e. e.0) es))) (cases.at_call m (map (λ e. e.0) es) (terms_hold es))
  each_shape (open_shape.Sum es) = subst P (sym (shape.rolls-Sum (map (λ e. e.0) es))) (cases.at_sum (map (λ e. e.0) es) (summands_hold es))
  each_shape (open_shape.Times n e) = subst P (sym (shape.rolls-Times n e.0)) (cases.at_times n e.0 e.1)

  pub every_shape : (s : TermShape) → P s
  every_shape = ind-TermShape P OfPart OfTerm
      (λ x y is. subst (λ z. P (roll-TermShape z)) is (each_shape y))
      (λ x y is. subst (λ z. OfPart (roll-PartTree z)) is
      (subst (λ (q : PartTree-F TermShape PartTree TermTree). P (out-TermTree q.term).shape)
      (sym (out-roll-PartTree (map-PartTree SuchShape SuchPart SuchTerm TermShape PartTree TermTree (λ e. e.0) (λ e. e.0) (λ e. e.0) y))) y.term.1))
      (λ x y is. subst (λ z. OfTerm (roll-TermTree z)) is
      (subst (λ (q : TermTree-F TermShape PartTree TermTree). P q.shape)
      (sym (out-roll-TermTree (map-TermTree SuchShape SuchPart SuchTerm TermShape PartTree TermTree (λ e. e.0) (λ e. e.0) (λ e. e.0) y))) y.shape.1))
