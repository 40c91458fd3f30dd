-- Where nothing is out of range, no number is large.
use Rattle.std.proofs.Common.{◌≡◌, ℕ, Bool, true, false, ◌&&◌, nat_le, if◌then◌else◌, List, [], ◌∷◌, ◌++◌, map, None, refl, sym, ap, ◌∙◌}
use Rattle.std.specs.List.{list_all, flat_map}
use Rattle.std.proofs.lemmas.Bool.{and_from}
use Rattle.std.proofs.lemmas.List.Folds.{list_all-append, list_all-map}
use Rattle.trio_base.specs.declared.limits.TheConstants.{GREATEST_NUMBER}
use Rattle.trio_types.specs.declared.spec.Axiom.{Axiom}
use Rattle.trio_types.specs.declared.formula.Term.{Term}
use Rattle.trio_types.specs.declared.formula.SignedTerm.{SignedTerm, SignedTerm-F, out-SignedTerm, out-roll-SignedTerm}
use Rattle.trio_types.specs.declared.formula.Formula.{Formula}
use Rattle.trio_types.specs.Shape.{numbers_in, numbers_of}
use Rattle.trio_types.specs.WellFormed.{numbers_are_small}
use Rattle.trio_types.proofs.ShapeAt.{numbers_in-Number, numbers_in-Value, numbers_in-Var, numbers_in-Read, numbers_in-Sum, numbers_in-Times, numbers_of-Lone, numbers_of-Compare, numbers_of-Not, numbers_of-And, numbers_of-Or, numbers_of-Implies, numbers_of-Iff, numbers_of-All, numbers_of-Ex, numbers_of-One, numbers_of-Far, numbers_of-Pair}
use Rattle.trio_syntax.specs.declared.tree.Quantifier.{Quantifier}
use Rattle.trio_syntax.specs.declared.tree.Quantifier.TheVariants as quantifier
use Rattle.trio_syntax.specs.declared.tree.Written.{Written}
use Rattle.trio_syntax.specs.declared.tree.TermTree.{TermTree, out-TermTree}
use Rattle.trio_syntax.specs.declared.tree.TermShape.{TermShape, out-TermShape}
use Rattle.trio_syntax.specs.declared.tree.TermShape.TheVariants as shape
use Rattle.trio_syntax.specs.declared.tree.PartTree.{PartTree, out-PartTree}
use Rattle.trio_syntax.specs.declared.tree.FormulaTree.{FormulaTree}
use Rattle.trio_syntax.specs.declared.tree.ClaimTree.{ClaimTree}
use Rattle.trio_syntax.specs.declared.tree.SpecTree.{SpecTree}
use Rattle.trio_scope.specs.declared.walk.Role.{Role}
use Rattle.trio_scope.specs.declared.walk.Role.TheVariants as role
use Rattle.trio_scope.specs.Places.{least}
use Rattle.trio_scope.specs.Gather.{Variable, places_in, places_in_term, places_in_shape}
use Rattle.trio_scope.proofs.Gathers.{in-term, in-Call, in-Sum, in-Times, in-Lone, in-Compare, in-Not, in-And, in-Or, in-Implies, in-Iff, in-Quantified, in-One, in-Far, in-Pair}
use Rattle.trio_reader.specs.declared.sense.Sense.{Sense}
use Rattle.trio_reader.specs.declared.sense.Sense.TheVariants as sense
use Rattle.trio_reader.specs.Erasure.{shape_of, term_of, part_from, sense_of, sense_term, formula_of, quantified, domain_of, parts_of_tree}
use Rattle.trio_reader.specs.Ranges.{if_large, own_numbers, range_finding, out_of_range}
use Rattle.trio_reader.proofs.Erased.{term-shape, shape-Number, shape-Truth, shape-Named, shape-Call, shape-Sum, shape-Times, formula-Lone, formula-Compare, formula-Not, formula-And, formula-Or, formula-Implies, formula-Iff, formula-Quantified, formula-One, formula-Far, formula-Pair}
use Rattle.trio_reader.proofs.FormedPhases.{append_empty, unless_empty}
use Rattle.trio_reader.proofs.FormedDomains.{in_range}
use Rattle.trio_types.proofs.Inductions.{Each}
use Rattle.trio_reader.proofs.FormedCases.{each_clean, FormulaCases, every_formula, TermCases, every_shape, term_in}
use Rattle.trio_reader.proofs.FormedClaims.{claims_pass}

-- each element of joined lists passes
pub flat_all : {X Y : Type 0} (p : Y → Bool) (f : X → List Y) (xs : List X) → list_all p (flat_map f xs) ≡ list_all (λ x. list_all p (f x)) xs
flat_all p f [] = refl
flat_all p f (x ∷ xs) = list_all-append p (f x) (flat_map f xs) ∙ ap (λ b. list_all p (f x) && b) (flat_all p f xs)

-- of lists that are made of other elements
pub flat_all_of : {X Y Z : Type 0} (p : Z → Bool) (f : Y → List Z) (g : X → Y) (xs : List X) →
    list_all p (flat_map f (map g xs)) ≡ list_all (λ x. list_all p (f (g x))) xs
flat_all_of p f g xs = flat_all p f (map g xs) ∙ list_all-map (λ y. list_all p (f y)) g xs

small : List ℕ → Bool
small ns = list_all (λ n. nat_le n GREATEST_NUMBER) ns

small_both : (xs ys : List ℕ) → small xs ≡ true → small ys ≡ true → small (xs ++ ys) ≡ true
unfolding small
small_both xs ys first second = list_all-append (λ n. nat_le n GREATEST_NUMBER) xs ys ∙ and_from (small xs) (small ys) first second

small_flat : {X Y : Type 0} (f : Y → List ℕ) (g : X → Y) (xs : List X) → list_all (λ x. small (f (g x))) xs ≡ true → small (flat_map f (map g xs)) ≡ true
unfolding small
small_flat f g xs all = flat_all_of (λ n. nat_le n GREATEST_NUMBER) f g xs ∙ all

named_small : (s : Sense) → small (numbers_in (sense_term s)) ≡ true
unfolding small
named_small (sense.Variable level) = ap small (numbers_in-Var level)
named_small (sense.Word d v) = ap small (numbers_in-Value d v)
named_small (sense.Item n) = ap small (numbers_in-Read n [])

pub quantified_numbers : (q : Quantifier) (name : List ℕ) (d : ℕ) (f : Formula) → numbers_of (quantified q name d f) ≡ numbers_of f
quantified_numbers quantifier.All name d f = numbers_of-All name d f
quantified_numbers quantifier.Ex name d f = numbers_of-Ex name d f

module _ (tree : SpecTree) where
  SmallShape : TermShape → Type 0
  SmallShape s = (e : List Variable) (inside : Bool) → flat_map if_large (own_numbers (out-TermShape s)) ≡ [] → places_in_shape range_finding s e inside ≡ [] →
      small (numbers_in (shape_of tree s e)) ≡ true

  of_term : (t : TermTree) → SmallShape (out-TermTree t).shape → (e : List Variable) (r : Role) (inside : Bool) →
      places_in_term range_finding t e r inside ≡ [] → small (numbers_in (term_of tree t e)) ≡ true
  unfolding SmallShape
  of_term t is e r inside none =
      let both = append_empty (flat_map if_large (own_numbers (out-TermShape (out-TermTree t).shape))) (places_in_shape range_finding (out-TermTree t).shape e inside)
      (sym (in-term range_finding t e r inside) ∙ none) in
      ap (λ x. small (numbers_in x)) (term-shape tree t e) ∙ is e inside both.0 both.1

  own_small : (n : Written) (rest : List ℕ) → if_large n ++ rest ≡ [] → nat_le n.number GREATEST_NUMBER ≡ true
  own_small n rest none = unless_empty (nat_le n.number GREATEST_NUMBER) n.place (append_empty (if_large n) rest none).0

  pub part_numbers : (e : List Variable) (p : PartTree) → numbers_in (out-SignedTerm (part_from tree p e)).term ≡ numbers_in (term_of tree (out-PartTree p).term e)
  part_numbers e p =
      ap (λ (x : SignedTerm-F Term SignedTerm). numbers_in x.term)
      (out-roll-SignedTerm (record { minus = (out-PartTree p).minus; term = term_of tree (out-PartTree p).term e }))

  small_cases : TermCases SmallShape
  unfolding SmallShape small
  small_cases = record {
    at_number = λ n e inside own below.
        ap (λ x. small (numbers_in x)) (shape-Number tree e n) ∙ ap small (numbers_in-Number n.number)
        ∙ and_from (nat_le n.number GREATEST_NUMBER) true (own_small n [] (sym (ap (λ s. flat_map if_large (own_numbers s)) (shape.outs-Number n)) ∙ own)) refl;
    at_truth = λ b e inside own below.
        ap (λ x. small (numbers_in x)) (shape-Truth tree e b) ∙ ap small (numbers_in-Value 0 (if b then 1 else 0));
    at_named = λ m e inside own below.
        ap (λ x. small (numbers_in x)) (shape-Named tree e m) ∙ named_small (sense_of tree e m.name);
    at_call = λ m args each e inside own below.
        ap (λ x. small (numbers_in x)) (shape-Call tree e m args) ∙ ap small (numbers_in-Read _ (map (λ t. term_of tree t e) args))
        ∙ small_flat numbers_in (λ t. term_of tree t e) args
        (each_clean (λ t. SmallShape (out-TermTree t).shape) (λ t. places_in_term range_finding t e role.Argument true) (λ t. small (numbers_in (term_of tree t e)))
        (λ t is none. of_term t is e role.Argument true none) args each (sym (in-Call range_finding e inside m args) ∙ below));
    at_sum = λ parts each e inside own below.
        ap (λ x. small (numbers_in x)) (shape-Sum tree e parts) ∙ ap small (numbers_in-Sum (map (λ p. part_from tree p e) parts))
        ∙ small_flat (λ (p : SignedTerm). numbers_in (out-SignedTerm p).term) (λ p. part_from tree p e) parts
        (each_clean (λ p. SmallShape (term_in p)) (λ p. places_in_term range_finding (out-PartTree p).term e role.Part inside)
        (λ p. small (numbers_in (out-SignedTerm (part_from tree p e)).term))
        (λ p is none. ap small (part_numbers e p) ∙ of_term (out-PartTree p).term is e role.Part inside none) parts each
        (sym (in-Sum range_finding e inside parts) ∙ below));
    at_times = λ n t is e inside own below.
        ap (λ x. small (numbers_in x)) (shape-Times tree e n t) ∙ ap small (numbers_in-Times n.number (term_of tree t e))
        ∙ and_from (nat_le n.number GREATEST_NUMBER) (small (numbers_in (term_of tree t e)))
        (own_small n [] (sym (ap (λ s. flat_map if_large (own_numbers s)) (shape.outs-Times n t)) ∙ own))
        (of_term t is e role.Factor inside (sym (in-Times range_finding e inside n t) ∙ below));
  }

  small_term : (t : TermTree) (e : List Variable) (r : Role) (inside : Bool) → places_in_term range_finding t e r inside ≡ [] → small (numbers_in (term_of tree t e)) ≡ true
  small_term t e r inside none = of_term t (every_shape SmallShape small_cases (out-TermTree t).shape) e r inside none

  SmallFormula : FormulaTree → Type 0
  SmallFormula f = (e : List Variable) → places_in range_finding f e ≡ [] → small (numbers_of (formula_of tree f e)) ≡ true

  each_small : (fs : List FormulaTree) → Each SmallFormula fs → (e : List Variable) → flat_map (λ f. places_in range_finding f e) fs ≡ [] →
      small (flat_map numbers_of (map (λ f. formula_of tree f e) fs)) ≡ true
  unfolding SmallFormula
  each_small fs each e none =
      small_flat numbers_of (λ f. formula_of tree f e) fs
      (each_clean SmallFormula (λ f. places_in range_finding f e) (λ f. small (numbers_of (formula_of tree f e))) (λ f is clean. is e clean) fs each none)

  both_small : (f g : FormulaTree) → SmallFormula f → SmallFormula g → (e : List Variable) → places_in range_finding f e ++ places_in range_finding g e ≡ [] →
      small (numbers_of (formula_of tree f e) ++ numbers_of (formula_of tree g e)) ≡ true
  unfolding SmallFormula
  both_small f g first second e none =
      let both = append_empty (places_in range_finding f e) (places_in range_finding g e) none in
      small_both (numbers_of (formula_of tree f e)) (numbers_of (formula_of tree g e)) (first e both.0) (second e both.1)

  formula_cases : FormulaCases SmallFormula
  unfolding SmallFormula
  formula_cases = record {
    at_lone = λ t e none.
        ap (λ x. small (numbers_of x)) (formula-Lone tree e t) ∙ ap small (numbers_of-Lone (term_of tree t e))
        ∙ small_term t e role.Alone false (sym (in-Lone range_finding e t) ∙ none);
    at_compare = λ rel p t u e none.
        let both = append_empty (places_in_term range_finding t e role.Compared false) (places_in_term range_finding u e role.Compared false)
        (sym (in-Compare range_finding e rel p t u) ∙ none) in
        ap (λ x. small (numbers_of x)) (formula-Compare tree e rel p t u) ∙ ap small (numbers_of-Compare rel (term_of tree t e) (term_of tree u e))
        ∙ small_both (numbers_in (term_of tree t e)) (numbers_in (term_of tree u e))
        (small_term t e role.Compared false both.0) (small_term u e role.Compared false both.1);
    at_not = λ f is e none.
        ap (λ x. small (numbers_of x)) (formula-Not tree e f) ∙ ap small (numbers_of-Not (formula_of tree f e)) ∙ is e (sym (in-Not range_finding e f) ∙ none);
    at_and = λ fs each e none.
        ap (λ x. small (numbers_of x)) (formula-And tree e fs) ∙ ap small (numbers_of-And (map (λ f. formula_of tree f e) fs))
        ∙ each_small fs each e (sym (in-And range_finding e fs) ∙ none);
    at_or = λ fs each e none.
        ap (λ x. small (numbers_of x)) (formula-Or tree e fs) ∙ ap small (numbers_of-Or (map (λ f. formula_of tree f e) fs))
        ∙ each_small fs each e (sym (in-Or range_finding e fs) ∙ none);
    at_implies = λ f g first second e none.
        ap (λ x. small (numbers_of x)) (formula-Implies tree e f g) ∙ ap small (numbers_of-Implies (formula_of tree f e) (formula_of tree g e))
        ∙ both_small f g first second e (sym (in-Implies range_finding e f g) ∙ none);
    at_iff = λ f g first second e none.
        ap (λ x. small (numbers_of x)) (formula-Iff tree e f g) ∙ ap small (numbers_of-Iff (formula_of tree f e) (formula_of tree g e))
        ∙ both_small f g first second e (sym (in-Iff range_finding e f g) ∙ none);
    at_quantified = λ q x ref f is e none.
        ap (λ y. small (numbers_of y)) (formula-Quantified tree e q x ref f)
        ∙ ap small (quantified_numbers q x.name (domain_of tree ref) (formula_of tree f (e ++ record { name = x.name; domain = ref } ∷ [])))
        ∙ is (e ++ record { name = x.name; domain = ref } ∷ []) (sym (in-Quantified range_finding e q x ref f) ∙ none);
    at_one = λ op f is e none.
        ap (λ x. small (numbers_of x)) (formula-One tree e op f) ∙ ap small (numbers_of-One op (formula_of tree f e)) ∙ is e (sym (in-One range_finding e op f) ∙ none);
    at_far = λ op f t is e none.
        let both = append_empty (places_in range_finding f e) (places_in_term range_finding t e role.Distance true) (sym (in-Far range_finding e op f t) ∙ none) in
        ap (λ x. small (numbers_of x)) (formula-Far tree e op f t) ∙ ap small (numbers_of-Far op (formula_of tree f e) (term_of tree t e))
        ∙ small_both (numbers_of (formula_of tree f e)) (numbers_in (term_of tree t e)) (is e both.0) (small_term t e role.Distance true both.1);
    at_pair = λ op f g first second e none.
        ap (λ x. small (numbers_of x)) (formula-Pair tree e op f g) ∙ ap small (numbers_of-Pair op (formula_of tree f e) (formula_of tree g e))
        ∙ both_small f g first second e (sym (in-Pair range_finding e op f g) ∙ none);
  }

  each_claim : (claims : List ClaimTree) → flat_map (λ c. places_in range_finding c.formula []) claims ≡ [] →
      list_all (λ c. small (numbers_of (formula_of tree c.formula []))) claims ≡ true
  unfolding SmallFormula
  each_claim [] none = refl
  each_claim (c ∷ cs) none =
      let both = append_empty (places_in range_finding c.formula []) (flat_map (λ c. places_in range_finding c.formula []) cs) none in
      and_from (small (numbers_of (formula_of tree c.formula []))) (list_all (λ c. small (numbers_of (formula_of tree c.formula []))) cs)
      (every_formula SmallFormula formula_cases c.formula [] both.0) (each_claim cs both.1)

pub numbers_are_small_from_range : (tree : SpecTree) → least (out_of_range tree) ≡ None → numbers_are_small (parts_of_tree tree) ≡ true
unfolding parts_of_tree small
numbers_are_small_from_range tree none =
    flat_all (λ n. nat_le n GREATEST_NUMBER) (λ (a : Axiom). numbers_of a.formula) _
    ∙ claims_pass tree (λ (a : Axiom). small (numbers_of a.formula)) tree.claims (each_claim tree tree.claims (in_range tree none).numbers)
