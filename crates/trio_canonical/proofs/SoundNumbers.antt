-- Where no number is large, no number of a tree is out of range.
use Rattle.std.proofs.Common.{◌≡◌, ℕ, Bool, true, false, nat_le, List, [], ◌∷◌, ◌++◌, map, refl, sym, ap, ◌∙◌}
use Rattle.std.specs.List.{list_all, flat_map}
use Rattle.std.proofs.lemmas.Bool.{and_parts}
use Rattle.trio_base.specs.declared.limits.TheConstants.{GREATEST_NUMBER}
use Rattle.trio_types.specs.declared.spec.Axiom.{Axiom}
use Rattle.trio_types.specs.declared.formula.SignedTerm.{SignedTerm, out-SignedTerm}
use Rattle.trio_types.specs.Shape.{numbers_in, numbers_of}
use Rattle.trio_types.specs.WellFormed.{numbers_are_small}
use Rattle.trio_types.proofs.Lists.{all_left, all_right}
use Rattle.trio_types.proofs.ShapeAt.{numbers_in-Number, numbers_in-Read, numbers_in-Sum, numbers_in-Times, numbers_of-Lone, numbers_of-Compare, numbers_of-Not, numbers_of-And, numbers_of-Or, numbers_of-Implies, numbers_of-Iff, numbers_of-One, numbers_of-Far, numbers_of-Pair}
use Rattle.trio_syntax.specs.declared.tree.Written.{Written}
use Rattle.trio_syntax.specs.declared.tree.TermTree.{TermTree, out-TermTree}
use Rattle.trio_syntax.specs.declared.tree.TermShape.{TermShape, out-TermShape}
use Rattle.trio_syntax.specs.declared.tree.TermShape.TheVariants as shape
use Rattle.trio_syntax.specs.declared.tree.PartTree.{out-PartTree}
use Rattle.trio_syntax.specs.declared.tree.FormulaTree.{FormulaTree}
use Rattle.trio_syntax.specs.declared.tree.SpecTree.{SpecTree}
use Rattle.trio_scope.specs.declared.walk.Role.{Role}
use Rattle.trio_scope.specs.declared.walk.Role.TheVariants as role
use Rattle.trio_scope.specs.Gather.{Variable, places_in, places_in_term, places_in_shape, places_in_claims}
use Rattle.trio_scope.proofs.Gathers.{in-term, in-Number, in-Truth, in-Named, in-Call, in-Sum, in-Times, in-Lone, in-Compare, in-Not, in-And, in-Or, in-Implies, in-Iff, in-Quantified, in-One, in-Far, in-Pair}
use Rattle.trio_reader.specs.Erasure.{shape_of, term_of, part_from, formula_of, domain_of, parts_of_tree}
use Rattle.trio_reader.specs.Ranges.{if_large, own_numbers, range_finding}
use Rattle.trio_reader.proofs.Erased.{term-shape, shape-Number, shape-Call, shape-Sum, shape-Times, formula-Lone, formula-Compare, formula-Not, formula-And, formula-Or, formula-Implies, formula-Iff, formula-Quantified, formula-One, formula-Far, formula-Pair}
use Rattle.trio_types.proofs.Inductions.{Each}
use Rattle.trio_reader.proofs.FormedCases.{FormulaCases, every_formula, TermCases, every_shape, term_in}
use Rattle.trio_reader.proofs.FormedNumbers.{flat_all, flat_all_of, quantified_numbers, part_numbers}
use Rattle.trio_canonical.proofs.SoundPhases.{both_empty, passes, each_empty, all_empty, claims_each}

abbrev small : List ℕ → Bool
small ns = list_all (λ n. nat_le n GREATEST_NUMBER) ns

abbrev small_left : (xs ys : List ℕ) → small (xs ++ ys) ≡ true → small xs ≡ true
small_left xs ys all = all_left (λ n. nat_le n GREATEST_NUMBER) xs ys all

abbrev small_right : (xs ys : List ℕ) → small (xs ++ ys) ≡ true → small ys ≡ true
small_right xs ys all = all_right (λ n. nat_le n GREATEST_NUMBER) xs ys all

small_each : {X Y : Type 0} (f : Y → List ℕ) (g : X → Y) (xs : List X) → small (flat_map f (map g xs)) ≡ true → list_all (λ x. small (f (g x))) xs ≡ true
small_each f g xs all = sym (flat_all_of (λ n. nat_le n GREATEST_NUMBER) f g xs) ∙ all

own_small : (n : Written) → nat_le n.number GREATEST_NUMBER ≡ true → if_large n ++ [] ≡ []
own_small n is = both_empty (if_large n) [] (passes (nat_le n.number GREATEST_NUMBER) n.place is) refl

module _ (tree : SpecTree) where
  CleanShape : TermShape → Type 0
  CleanShape s = (e : List Variable) (inside : Bool) → small (numbers_in (shape_of tree s e)) ≡ true →
      (flat_map if_large (own_numbers (out-TermShape s)) ≡ []) × (places_in_shape range_finding s e inside ≡ [])

  of_term : (t : TermTree) → CleanShape (out-TermTree t).shape → (e : List Variable) (r : Role) (inside : Bool) →
      small (numbers_in (term_of tree t e)) ≡ true → places_in_term range_finding t e r inside ≡ []
  unfolding CleanShape
  of_term t is e r inside all =
      let both = is e inside (sym (ap (λ x. small (numbers_in x)) (term-shape tree t e)) ∙ all) in
      in-term range_finding t e r inside
      ∙ both_empty (flat_map if_large (own_numbers (out-TermShape (out-TermTree t).shape))) (places_in_shape range_finding (out-TermTree t).shape e inside) both.0 both.1

  shape_cases : TermCases CleanShape
  unfolding CleanShape
  shape_cases = record {
    at_number = λ n e inside all.
        let own = sym (ap (λ x. small (numbers_in x)) (shape-Number tree e n) ∙ ap small (numbers_in-Number n.number)) ∙ all in (
          ap (λ s. flat_map if_large (own_numbers s)) (shape.outs-Number n) ∙ own_small n (and_parts (nat_le n.number GREATEST_NUMBER) true own).0,
          in-Number range_finding e inside n,
        );
    at_truth = λ b e inside all. (ap (λ s. flat_map if_large (own_numbers s)) (shape.outs-Truth b), in-Truth range_finding e inside b);
    at_named = λ m e inside all. (ap (λ s. flat_map if_large (own_numbers s)) (shape.outs-Named m), in-Named range_finding e inside m);
    at_call = λ m args each e inside all.
        let below = sym (ap (λ x. small (numbers_in x)) (shape-Call tree e m args) ∙ ap small (numbers_in-Read _ (map (λ t. term_of tree t e) args))) ∙ all in (
          ap (λ s. flat_map if_large (own_numbers s)) (shape.outs-Call m args),
          in-Call range_finding e inside m args
              ∙ each_empty (λ t. CleanShape (out-TermTree t).shape) (λ t. places_in_term range_finding t e role.Argument true)
              (λ t. small (numbers_in (term_of tree t e))) (λ t is yes. of_term t is e role.Argument true yes) args each
              (small_each numbers_in (λ t. term_of tree t e) args below),
        );
    at_sum = λ parts each e inside all.
        let below = sym (ap (λ x. small (numbers_in x)) (shape-Sum tree e parts) ∙ ap small (numbers_in-Sum (map (λ p. part_from tree p e) parts))) ∙ all in (
          ap (λ s. flat_map if_large (own_numbers s)) (shape.outs-Sum parts),
          in-Sum range_finding e inside parts
              ∙ each_empty (λ p. CleanShape (term_in p)) (λ p. places_in_term range_finding (out-PartTree p).term e role.Part inside)
              (λ p. small (numbers_in (out-SignedTerm (part_from tree p e)).term))
              (λ p is yes. of_term (out-PartTree p).term is e role.Part inside (sym (ap small (part_numbers tree e p)) ∙ yes)) parts each
              (small_each (λ (p : SignedTerm). numbers_in (out-SignedTerm p).term) (λ p. part_from tree p e) parts below),
        );
    at_times = λ n t is e inside all.
        let own = sym (ap (λ x. small (numbers_in x)) (shape-Times tree e n t) ∙ ap small (numbers_in-Times n.number (term_of tree t e))) ∙ all in
        let both = and_parts (nat_le n.number GREATEST_NUMBER) (small (numbers_in (term_of tree t e))) own in (
          ap (λ s. flat_map if_large (own_numbers s)) (shape.outs-Times n t) ∙ own_small n both.0,
          in-Times range_finding e inside n t ∙ of_term t is e role.Factor inside both.1,
        );
  }

  clean_term : (t : TermTree) (e : List Variable) (r : Role) (inside : Bool) → small (numbers_in (term_of tree t e)) ≡ true → places_in_term range_finding t e r inside ≡ []
  clean_term t e r inside all = of_term t (every_shape CleanShape shape_cases (out-TermTree t).shape) e r inside all

  CleanFormula : FormulaTree → Type 0
  CleanFormula f = (e : List Variable) → small (numbers_of (formula_of tree f e)) ≡ true → places_in range_finding f e ≡ []

  each_clean : (fs : List FormulaTree) → Each CleanFormula fs → (e : List Variable) → small (flat_map numbers_of (map (λ f. formula_of tree f e) fs)) ≡ true →
      flat_map (λ f. places_in range_finding f e) fs ≡ []
  unfolding CleanFormula
  each_clean fs each e all =
      each_empty CleanFormula (λ f. places_in range_finding f e) (λ f. small (numbers_of (formula_of tree f e))) (λ f is yes. is e yes) fs each
      (small_each numbers_of (λ f. formula_of tree f e) fs all)

  both_clean : (f g : FormulaTree) → CleanFormula f → CleanFormula g → (e : List Variable) →
      small (numbers_of (formula_of tree f e) ++ numbers_of (formula_of tree g e)) ≡ true → places_in range_finding f e ++ places_in range_finding g e ≡ []
  unfolding CleanFormula
  both_clean f g first second e all =
      both_empty (places_in range_finding f e) (places_in range_finding g e)
      (first e (small_left (numbers_of (formula_of tree f e)) (numbers_of (formula_of tree g e)) all))
      (second e (small_right (numbers_of (formula_of tree f e)) (numbers_of (formula_of tree g e)) all))

  formula_cases : FormulaCases CleanFormula
  unfolding CleanFormula
  formula_cases = record {
    at_lone = λ t e all.
        in-Lone range_finding e t
        ∙ clean_term t e role.Alone false (sym (ap (λ x. small (numbers_of x)) (formula-Lone tree e t) ∙ ap small (numbers_of-Lone (term_of tree t e))) ∙ all);
    at_compare = λ rel p t u e all.
        let sides =
        sym (ap (λ x. small (numbers_of x)) (formula-Compare tree e rel p t u) ∙ ap small (numbers_of-Compare rel (term_of tree t e) (term_of tree u e))) ∙ all in
        in-Compare range_finding e rel p t u
        ∙ both_empty (places_in_term range_finding t e role.Compared false) (places_in_term range_finding u e role.Compared false)
        (clean_term t e role.Compared false (small_left (numbers_in (term_of tree t e)) (numbers_in (term_of tree u e)) sides))
        (clean_term u e role.Compared false (small_right (numbers_in (term_of tree t e)) (numbers_in (term_of tree u e)) sides));
    at_not = λ f is e all.
        in-Not range_finding e f
        ∙ is e (sym (ap (λ x. small (numbers_of x)) (formula-Not tree e f) ∙ ap small (numbers_of-Not (formula_of tree f e))) ∙ all);
    at_and = λ fs each e all.
        in-And range_finding e fs
        ∙ each_clean fs each e
        (sym (ap (λ x. small (numbers_of x)) (formula-And tree e fs) ∙ ap small (numbers_of-And (map (λ f. formula_of tree f e) fs))) ∙ all);
    at_or = λ fs each e all.
        in-Or range_finding e fs
        ∙ each_clean fs each e
        (sym (ap (λ x. small (numbers_of x)) (formula-Or tree e fs) ∙ ap small (numbers_of-Or (map (λ f. formula_of tree f e) fs))) ∙ all);
    at_implies = λ f g first second e all.
        in-Implies range_finding e f g
        ∙ both_clean f g first second e
        (sym (ap (λ x. small (numbers_of x)) (formula-Implies tree e f g) ∙ ap small (numbers_of-Implies (formula_of tree f e) (formula_of tree g e))) ∙ all);
    at_iff = λ f g first second e all.
        in-Iff range_finding e f g
        ∙ both_clean f g first second e
        (sym (ap (λ x. small (numbers_of x)) (formula-Iff tree e f g) ∙ ap small (numbers_of-Iff (formula_of tree f e) (formula_of tree g e))) ∙ all);
    at_quantified = λ q x ref f is e all.
        let under : List Variable = e ++ record { name = x.name; domain = ref } ∷ [] in
        in-Quantified range_finding e q x ref f
        ∙ is under
        (sym (ap (λ y. small (numbers_of y)) (formula-Quantified tree e q x ref f)
        ∙ ap small (quantified_numbers q x.name (domain_of tree ref) (formula_of tree f under))) ∙ all);
    at_one = λ op f is e all.
        in-One range_finding e op f
        ∙ is e (sym (ap (λ x. small (numbers_of x)) (formula-One tree e op f) ∙ ap small (numbers_of-One op (formula_of tree f e))) ∙ all);
    at_far = λ op f t is e all.
        let sides =
        sym (ap (λ x. small (numbers_of x)) (formula-Far tree e op f t) ∙ ap small (numbers_of-Far op (formula_of tree f e) (term_of tree t e))) ∙ all in
        in-Far range_finding e op f t
        ∙ both_empty (places_in range_finding f e) (places_in_term range_finding t e role.Distance true)
        (is e (small_left (numbers_of (formula_of tree f e)) (numbers_in (term_of tree t e)) sides))
        (clean_term t e role.Distance true (small_right (numbers_of (formula_of tree f e)) (numbers_in (term_of tree t e)) sides));
    at_pair = λ op f g first second e all.
        in-Pair range_finding e op f g
        ∙ both_clean f g first second e
        (sym (ap (λ x. small (numbers_of x)) (formula-Pair tree e op f g) ∙ ap small (numbers_of-Pair op (formula_of tree f e) (formula_of tree g e))) ∙ all);
  }

  clean_formula : (f : FormulaTree) (e : List Variable) → small (numbers_of (formula_of tree f e)) ≡ true → places_in range_finding f e ≡ []
  unfolding CleanFormula
  clean_formula f = every_formula CleanFormula formula_cases f

  pub no_number_large : numbers_are_small (parts_of_tree tree) ≡ true → places_in_claims range_finding tree ≡ []
  unfolding parts_of_tree
  no_number_large all =
      all_empty (λ c. places_in range_finding c.formula []) (λ c. small (numbers_of (formula_of tree c.formula [])))
      (λ c is. clean_formula c.formula [] is) tree.claims
      (claims_each tree (λ (a : Axiom). small (numbers_of a.formula)) tree.claims
      (sym (flat_all (λ n. nat_le n GREATEST_NUMBER) (λ (a : Axiom). numbers_of a.formula) _) ∙ all))
