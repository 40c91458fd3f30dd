-- The answers to the goals of `shaped_formulas_have_parts`.
use Rattle.std.proofs.Common.{◌≡◌, ◌↔◌, ◌≤◌, true, ◌&&◌, List, [], ◌∷◌, map, length, Contains, inl, inr, refl, sym, ap, ◌∙◌, arith}
use Rattle.std.specs.List.{list_all}
use Rattle.std.proofs.Math.Logic.{⊎_elim}
use Rattle.std.proofs.lemmas.Bool.{and_parts, and_from, false≢true}
use Rattle.std.proofs.lemmas.List.Folds.{list_all-map}
use Rattle.trio_types.specs.declared.formula.SignedTerm.{SignedTerm, out-SignedTerm}
use Rattle.trio_types.specs.declared.formula.Term.TheVariants as term
use Rattle.trio_types.specs.declared.formula.Formula.{Formula}
use Rattle.trio_types.specs.Shape.{makes_sum, term_is_shaped, two_or_more, is_shaped}
use Rattle.trio_types.specs.FormulaLaws.{IsSum, AreParts}
use Rattle.trio_types.proofs.Contained.{all_law, both_law, along_test}
use Rattle.trio_types.proofs.ShapeAt.{shape_of_part, term_is_shaped-Number, term_is_shaped-Value, term_is_shaped-Var, term_is_shaped-Read, term_is_shaped-Sum, term_is_shaped-Times}
use Rattle.trio_types.proofs.ShapeAt.{is_shaped-Lone, is_shaped-Compare, is_shaped-Not, is_shaped-And, is_shaped-Or, is_shaped-Implies, is_shaped-Iff, is_shaped-All, is_shaped-Ex, is_shaped-One, is_shaped-Far, is_shaped-Pair}
use Rattle.trio_types.proofs.laws.shaped_formulas_have_parts.Goals as goal

sum_law : (ps : List SignedTerm) → (makes_sum (map shape_of_part ps) ≡ true) ↔ IsSum ps
sum_law [] = (λ h. absurd (false≢true h), λ is. ⊎_elim (λ more. absurd (omega arith)) (λ one. absurd (none one.0 one.1)) is)
  where
    none : (p : SignedTerm) → [] ≡ p ∷ [] → ⊥
    none p is = cc
sum_law (p ∷ []) = (
  λ h. inr (p, refl, h),
  λ is. ⊎_elim (λ more. absurd (omega arith)) (λ one. ap (λ q. (out-SignedTerm q).minus) (alone one.0 one.1) ∙ one.2) is,
)
  where
    alone : (q : SignedTerm) → p ∷ [] ≡ q ∷ [] → p ≡ q
    alone q is = cc
sum_law (p ∷ q ∷ ps) = (λ h. inl (omega arith), λ is. refl)

sums : (ps : List SignedTerm) →
    (term_is_shaped (term.Sum ps) ≡ true) ↔ (IsSum ps × ((p : SignedTerm) → Contains ps p → term_is_shaped (out-SignedTerm p).term ≡ true))
sums ps = along_test _ _ _ (term_is_shaped-Sum ps) (
  λ h. let both = and_parts _ _ h in
      ((sum_law ps).0 both.0, (all_law (λ p. term_is_shaped (out-SignedTerm p).term) ps).0 (sym (list_all-map (λ p. p.is_shaped) shape_of_part ps) ∙ both.1)),
  λ is. and_from _ _ ((sum_law ps).1 is.0) (list_all-map (λ p. p.is_shaped) shape_of_part ps ∙ (all_law (λ p. term_is_shaped (out-SignedTerm p).term) ps).1 is.1),
)

two_law : (fs : List Formula) → (two_or_more (map is_shaped fs) ≡ true) ↔ (2 ≤ length fs)
two_law [] = (λ h. absurd (false≢true h), λ more. absurd (omega arith))
two_law (f ∷ []) = (λ h. absurd (false≢true h), λ more. absurd (omega arith))
two_law (f ∷ g ∷ fs) = (λ h. omega arith, λ more. refl)

parts_law : (fs : List Formula) → ((two_or_more (map is_shaped fs) && list_all is_shaped fs) ≡ true) ↔ AreParts fs
parts_law fs = (
  λ h. let both = and_parts _ _ h in ((two_law fs).0 both.0, (all_law is_shaped fs).0 both.1),
  λ are. and_from _ _ ((two_law fs).1 are.0) ((all_law is_shaped fs).1 are.1),
)

pub returns-clause-terms : goal.returns-clause-terms
returns-clause-terms c = record {
  number = term_is_shaped-Number;
  constant = term_is_shaped-Value;
  variable = term_is_shaped-Var;
  read = λ item xs. along_test _ _ _ (term_is_shaped-Read item xs) (all_law term_is_shaped xs);
  sum = sums;
  times = term_is_shaped-Times;
}

pub returns-clause-formulas : goal.returns-clause-formulas
returns-clause-formulas c = record {
  lone = is_shaped-Lone;
  compare = λ r x y. along_test _ _ _ (is_shaped-Compare r x y) (both_law _ _);
  no = is_shaped-Not;
  both = λ fs. along_test _ _ _ (is_shaped-And fs) (parts_law fs);
  either = λ fs. along_test _ _ _ (is_shaped-Or fs) (parts_law fs);
  implies = λ f g. along_test _ _ _ (is_shaped-Implies f g) (both_law _ _);
  iff = λ f g. along_test _ _ _ (is_shaped-Iff f g) (both_law _ _);
  every = is_shaped-All;
  some = is_shaped-Ex;
  one = is_shaped-One;
  far = λ o f x. along_test _ _ _ (is_shaped-Far o f x) (both_law _ _);
  pair = λ o f g. along_test _ _ _ (is_shaped-Pair o f g) (both_law _ _);
}
