-- What a tree that has the form stands for: sums, conjunctions and disjunctions have parts, and names are names.
use Rattle.std.proofs.Common.{◌≡◌, ℕ, Bool, true, ◌&&◌, nat_le, if◌then◌else◌, List, [], ◌∷◌, ◌++◌, map, length, refl, sym, ap, ◌∙◌}
use Rattle.std.specs.List.{list_all, flat_map}
use Rattle.std.proofs.lemmas.Bool.{and_parts, and_from}
use Rattle.std.proofs.lemmas.List.Folds.{list_all-append, list_all-map}
use Rattle.trio_base.specs.Names.{is_name}
use Rattle.trio_types.specs.declared.spec.Axiom.{Axiom}
use Rattle.trio_types.specs.declared.formula.Term.{Term}
use Rattle.trio_types.specs.declared.formula.SignedTerm.{SignedTerm, SignedTerm-F, out-roll-SignedTerm}
use Rattle.trio_types.specs.declared.formula.Formula.{Formula}
use Rattle.trio_types.specs.Names.{variables_of}
use Rattle.trio_types.specs.Shape.{SignedShape, makes_sum, two_or_more, term_is_shaped, is_shaped}
use Rattle.trio_types.specs.WellFormed.{parts_are_many}
use Rattle.trio_types.proofs.ShapeAt.{shape_of_part, term_is_shaped-Number, term_is_shaped-Value, term_is_shaped-Var, term_is_shaped-Read, term_is_shaped-Sum, term_is_shaped-Times, is_shaped-Lone, is_shaped-Compare, is_shaped-Not, is_shaped-And, is_shaped-Or, is_shaped-Implies, is_shaped-Iff, is_shaped-All, is_shaped-Ex, is_shaped-One, is_shaped-Far, is_shaped-Pair}
use Rattle.trio_types.proofs.NamesAt.{variables_of-Lone, variables_of-Compare, variables_of-Not, variables_of-And, variables_of-Or, variables_of-Implies, variables_of-Iff, variables_of-All, variables_of-Ex, variables_of-One, variables_of-Far, variables_of-Pair}
use Rattle.trio_syntax.specs.declared.tree.Quantifier.{Quantifier}
use Rattle.trio_syntax.specs.declared.tree.Quantifier.TheVariants as quantifier
use Rattle.trio_syntax.specs.declared.tree.TermTree.{TermTree, out-TermTree, fold_out-TermTree}
use Rattle.trio_syntax.specs.declared.tree.TermShape.{TermShape, TermShape-F, roll-TermShape, map-TermShape, fold-TermShape, fold-roll-TermShape}
use Rattle.trio_syntax.specs.declared.tree.TermShape.TheOpen as open_shape
use Rattle.trio_syntax.specs.declared.tree.TermShape.TheVariants as shape
use Rattle.trio_syntax.specs.declared.tree.PartTree.{PartTree, out-PartTree, fold-PartTree, fold_out-PartTree}
use Rattle.trio_syntax.specs.declared.tree.FormulaTree.{FormulaTree}
use Rattle.trio_syntax.specs.declared.tree.FormulaTree.TheVariants as tree_formula
use Rattle.trio_syntax.specs.declared.tree.FormulaTree.TheOpen.{FormulaTree-F}
use Rattle.trio_syntax.specs.declared.tree.FormulaTree.TheOpen as open_formula
use Rattle.trio_syntax.specs.declared.tree.FormulaTree.TheFolds.{fold-roll-FormulaTree, map-FormulaTree}
use Rattle.trio_syntax.specs.declared.tree.FormulaTree.TheViews.{roll-FormulaTree}
use Rattle.trio_syntax.specs.declared.tree.ClaimTree.{ClaimTree}
use Rattle.trio_syntax.specs.declared.tree.SpecTree.{SpecTree}
use Rattle.trio_syntax.specs.Shape.{mentions_a_name, some_all, two_all, Part, is_sum, shape_is_formed, part_formed, term_formed, term_is_formed, ref_is_formed, node_is_formed, formula_is_formed, declaration_is_formed, claim_is_formed, is_formed}
use Rattle.trio_scope.specs.Gather.{Variable}
use Rattle.trio_reader.specs.declared.sense.Sense.{Sense}
use Rattle.trio_reader.specs.declared.sense.Sense.TheVariants as sense
use Rattle.trio_reader.specs.Erasure.{shape_of, term_of, part_from, sense_of, sense_term, formula_of, quantified, domain_of, parts_of_tree}
use Rattle.trio_reader.proofs.Erased.{map-map, term-shape, shape-Number, shape-Truth, shape-Named, shape-Call, shape-Sum, shape-Times, formula-Lone, formula-Compare, formula-Not, formula-And, formula-Or, formula-Implies, formula-Iff, formula-Quantified, formula-One, formula-Far, formula-Pair}
use Rattle.trio_types.proofs.Inductions.{Each}
use Rattle.trio_reader.proofs.FormedCases.{each_passes, FormulaCases, every_formula, TermCases, every_shape, term_in}
use Rattle.trio_reader.proofs.FormedNumbers.{flat_all_of}
use Rattle.trio_reader.proofs.FormedClaims.{claims_pass}

-- which terms and formulas have the form, form by form
formed_shape : TermShape → Bool
formed_shape = fold-TermShape Bool Part Bool shape_is_formed part_formed term_formed

formed_part : PartTree → Part
formed_part = fold-PartTree Bool Part Bool shape_is_formed part_formed term_formed

shape_at : {s : TermShape} (x : TermShape-F TermShape PartTree TermTree) → roll-TermShape x ≡ s →
    formed_shape s ≡ shape_is_formed (map-TermShape TermShape PartTree TermTree Bool Part Bool formed_shape formed_part term_is_formed x)
unfolding formed_shape formed_part term_is_formed
shape_at x is = ap formed_shape (sym is) ∙ fold-roll-TermShape Bool Part Bool shape_is_formed part_formed term_formed x

term_at : (t : TermTree) → term_is_formed t ≡ formed_shape (out-TermTree t).shape
unfolding formed_shape term_is_formed
term_at t = fold_out-TermTree Bool Part Bool shape_is_formed part_formed term_formed t

part_at : (p : PartTree) → formed_part p ≡ record { minus = (out-PartTree p).minus; formed = term_is_formed (out-PartTree p).term }
unfolding formed_part term_is_formed
part_at p = fold_out-PartTree Bool Part Bool shape_is_formed part_formed term_formed p

formula_at : {f : FormulaTree} (x : FormulaTree-F FormulaTree) → roll-FormulaTree x ≡ f →
    formula_is_formed f ≡ node_is_formed (map-FormulaTree FormulaTree Bool formula_is_formed x)
unfolding formula_is_formed
formula_at x is = ap formula_is_formed (sym is) ∙ fold-roll-FormulaTree Bool node_is_formed x

all_of : {X : Type 0} (h : X → Bool) (xs : List X) → list_all (λ b. b) (map h xs) ≡ list_all h xs
all_of h xs = list_all-map (λ b. b) h xs

two_of : {X Y : Type 0} (h : X → Bool) (g : X → Y) (q : Y → Bool) (xs : List X) → nat_le 2 (length (map h xs)) ≡ true → two_or_more (map q (map g xs)) ≡ true
two_of h g q [] is = cc
two_of h g q (x ∷ []) is = cc
two_of h g q (x ∷ y ∷ xs) is = refl

-- a part of a sum keeps its sign, and is shaped where it has the form
record Stays (a : Part) (b : SignedShape) : Type 0 where
  sign : a.minus ≡ b.minus
  shaped : a.formed ≡ true → b.is_shaped ≡ true

all_stay : {X : Type 0} (f : X → Part) (g : X → SignedShape) (xs : List X) → Each (λ x. Stays (f x) (g x)) xs →
    list_all (λ (p : Part). p.formed) (map f xs) ≡ true → list_all (λ (p : SignedShape). p.is_shaped) (map g xs) ≡ true
all_stay f g [] each all = refl
all_stay f g (x ∷ xs) each all =
    let both = and_parts (f x).formed (list_all (λ (p : Part). p.formed) (map f xs)) all in
    and_from (g x).is_shaped (list_all (λ (p : SignedShape). p.is_shaped) (map g xs)) (each.0.shaped both.0) (all_stay f g xs each.1 both.1)

sum_stays : {X : Type 0} (f : X → Part) (g : X → SignedShape) (xs : List X) → Each (λ x. Stays (f x) (g x)) xs →
    is_sum (map f xs) ≡ true → (makes_sum (map g xs) && list_all (λ (p : SignedShape). p.is_shaped) (map g xs)) ≡ true
sum_stays f g [] each is = cc
sum_stays f g (x ∷ []) each is =
    let both = and_parts (f x).minus (f x).formed is in
    and_from (g x).minus ((g x).is_shaped && true) (sym each.0.sign ∙ both.0) (and_from (g x).is_shaped true (each.0.shaped both.1) refl)
sum_stays f g (x ∷ y ∷ xs) each is = all_stay f g (x ∷ y ∷ xs) each is

named_shaped : (s : Sense) → term_is_shaped (sense_term s) ≡ true
named_shaped (sense.Variable level) = term_is_shaped-Var level
named_shaped (sense.Word d v) = term_is_shaped-Value d v
named_shaped (sense.Item n) = term_is_shaped-Read n []

quantified_shaped : (q : Quantifier) (name : List ℕ) (d : ℕ) (f : Formula) → is_shaped (quantified q name d f) ≡ is_shaped f
quantified_shaped quantifier.All name d f = is_shaped-All name d f
quantified_shaped quantifier.Ex name d f = is_shaped-Ex name d f

quantified_variables : (q : Quantifier) (name : List ℕ) (d : ℕ) (f : Formula) → variables_of (quantified q name d f) ≡ name ∷ variables_of f
quantified_variables quantifier.All name d f = variables_of-All name d f
quantified_variables quantifier.Ex name d f = variables_of-Ex name d f

module _ (tree : SpecTree) where
  ShapedShape : TermShape → Type 0
  ShapedShape s = (e : List Variable) → formed_shape s ≡ true → term_is_shaped (shape_of tree s e) ≡ true

  of_term : (t : TermTree) → ShapedShape (out-TermTree t).shape → (e : List Variable) → term_is_formed t ≡ true → term_is_shaped (term_of tree t e) ≡ true
  unfolding ShapedShape
  of_term t is e formed = ap term_is_shaped (term-shape tree t e) ∙ is e (sym (term_at t) ∙ formed)

  of_part : (e : List Variable) (p : PartTree) → shape_of_part (part_from tree p e)
      ≡ record { minus = (out-PartTree p).minus; is_shaped = term_is_shaped (term_of tree (out-PartTree p).term e) }
  of_part e p =
      ap (λ (x : SignedTerm-F Term SignedTerm). record { minus = x.minus; is_shaped = term_is_shaped x.term })
      (out-roll-SignedTerm (record { minus = (out-PartTree p).minus; term = term_of tree (out-PartTree p).term e }))

  parts_stay : (e : List Variable) (parts : List PartTree) → Each (λ p. ShapedShape (term_in p)) parts →
      Each (λ p. Stays (formed_part p) (shape_of_part (part_from tree p e))) parts
  parts_stay e [] each = tt
  parts_stay e (p ∷ ps) each = (
    record {
      sign = ap (λ (x : Part). x.minus) (part_at p) ∙ sym (ap (λ (x : SignedShape). x.minus) (of_part e p));
      shaped = λ formed. ap (λ (x : SignedShape). x.is_shaped) (of_part e p)
          ∙ of_term (out-PartTree p).term each.0 e (sym (ap (λ (x : Part). x.formed) (part_at p)) ∙ formed);
    },
    parts_stay e ps each.1,
  )

  shape_cases : TermCases ShapedShape
  unfolding ShapedShape
  shape_cases = record {
    at_number = λ n e formed. ap term_is_shaped (shape-Number tree e n) ∙ term_is_shaped-Number n.number;
    at_truth = λ b e formed. ap term_is_shaped (shape-Truth tree e b) ∙ term_is_shaped-Value 0 (if b then 1 else 0);
    at_named = λ m e formed. ap term_is_shaped (shape-Named tree e m) ∙ named_shaped (sense_of tree e m.name);
    at_call = λ m args each e formed.
        let all = and_parts (mentions_a_name m) (some_all (map term_is_formed args)) (sym (shape_at (open_shape.Call m args) (shape.rolls-Call m args)) ∙ formed) in
        let many = and_parts (nat_le 1 (length (map term_is_formed args))) (list_all (λ b. b) (map term_is_formed args)) all.1 in
        ap term_is_shaped (shape-Call tree e m args) ∙ term_is_shaped-Read _ (map (λ t. term_of tree t e) args)
        ∙ list_all-map term_is_shaped (λ t. term_of tree t e) args
        ∙ each_passes (λ t. ShapedShape (out-TermTree t).shape) term_is_formed (λ t. term_is_shaped (term_of tree t e)) (λ t is yes. of_term t is e yes) args each
        (sym (all_of term_is_formed args) ∙ many.1);
    at_sum = λ parts each e formed.
        ap term_is_shaped (shape-Sum tree e parts) ∙ term_is_shaped-Sum (map (λ p. part_from tree p e) parts)
        ∙ ap (λ ps. makes_sum ps && list_all (λ (p : SignedShape). p.is_shaped) ps) (map-map shape_of_part (λ p. part_from tree p e) parts)
        ∙ sum_stays formed_part (λ p. shape_of_part (part_from tree p e)) parts (parts_stay e parts each)
        (sym (shape_at (open_shape.Sum parts) (shape.rolls-Sum parts)) ∙ formed);
    at_times = λ n t is e formed.
        ap term_is_shaped (shape-Times tree e n t) ∙ term_is_shaped-Times n.number (term_of tree t e)
        ∙ of_term t is e (sym (shape_at (open_shape.Times n t) (shape.rolls-Times n t)) ∙ formed);
  }

  shaped_term : (t : TermTree) (e : List Variable) → term_is_formed t ≡ true → term_is_shaped (term_of tree t e) ≡ true
  shaped_term t e formed = of_term t (every_shape ShapedShape shape_cases (out-TermTree t).shape) e formed

  ShapedFormula : FormulaTree → Type 0
  ShapedFormula f = (e : List Variable) → formula_is_formed f ≡ true → is_shaped (formula_of tree f e) ≡ true

  many_shaped : (fs : List FormulaTree) → Each ShapedFormula fs → (e : List Variable) → two_all (map formula_is_formed fs) ≡ true →
      (two_or_more (map is_shaped (map (λ f. formula_of tree f e) fs)) && list_all is_shaped (map (λ f. formula_of tree f e) fs)) ≡ true
  unfolding ShapedFormula
  many_shaped fs each e formed =
      let both = and_parts (nat_le 2 (length (map formula_is_formed fs))) (list_all (λ b. b) (map formula_is_formed fs)) formed in
      and_from _ _ (two_of formula_is_formed (λ f. formula_of tree f e) is_shaped fs both.0)
      (list_all-map is_shaped (λ f. formula_of tree f e) fs
      ∙ each_passes ShapedFormula formula_is_formed (λ f. is_shaped (formula_of tree f e)) (λ f is yes. is e yes) fs each (sym (all_of formula_is_formed fs) ∙ both.1))

  both_shaped : (f g : FormulaTree) → ShapedFormula f → ShapedFormula g → (e : List Variable) → (formula_is_formed f && formula_is_formed g) ≡ true →
      (is_shaped (formula_of tree f e) && is_shaped (formula_of tree g e)) ≡ true
  unfolding ShapedFormula
  both_shaped f g first second e formed =
      let both = and_parts (formula_is_formed f) (formula_is_formed g) formed in
      and_from (is_shaped (formula_of tree f e)) (is_shaped (formula_of tree g e)) (first e both.0) (second e both.1)

  shaped_cases : FormulaCases ShapedFormula
  unfolding ShapedFormula
  shaped_cases = record {
    at_lone = λ t e formed.
        ap is_shaped (formula-Lone tree e t) ∙ is_shaped-Lone (term_of tree t e)
        ∙ shaped_term t e (sym (formula_at (open_formula.Lone t) (tree_formula.rolls-Lone t)) ∙ formed);
    at_compare = λ rel p t u e formed.
        let both = and_parts (term_is_formed t) (term_is_formed u) (sym (formula_at (open_formula.Compare rel p t u) (tree_formula.rolls-Compare rel p t u)) ∙ formed) in
        ap is_shaped (formula-Compare tree e rel p t u) ∙ is_shaped-Compare rel (term_of tree t e) (term_of tree u e)
        ∙ and_from (term_is_shaped (term_of tree t e)) (term_is_shaped (term_of tree u e)) (shaped_term t e both.0) (shaped_term u e both.1);
    at_not = λ f is e formed.
        ap is_shaped (formula-Not tree e f) ∙ is_shaped-Not (formula_of tree f e)
        ∙ is e (sym (formula_at (open_formula.Not f) (tree_formula.rolls-Not f)) ∙ formed);
    at_and = λ fs each e formed.
        ap is_shaped (formula-And tree e fs) ∙ is_shaped-And (map (λ f. formula_of tree f e) fs)
        ∙ many_shaped fs each e (sym (formula_at (open_formula.And fs) (tree_formula.rolls-And fs)) ∙ formed);
    at_or = λ fs each e formed.
        ap is_shaped (formula-Or tree e fs) ∙ is_shaped-Or (map (λ f. formula_of tree f e) fs)
        ∙ many_shaped fs each e (sym (formula_at (open_formula.Or fs) (tree_formula.rolls-Or fs)) ∙ formed);
    at_implies = λ f g first second e formed.
        ap is_shaped (formula-Implies tree e f g) ∙ is_shaped-Implies (formula_of tree f e) (formula_of tree g e)
        ∙ both_shaped f g first second e (sym (formula_at (open_formula.Implies f g) (tree_formula.rolls-Implies f g)) ∙ formed);
    at_iff = λ f g first second e formed.
        ap is_shaped (formula-Iff tree e f g) ∙ is_shaped-Iff (formula_of tree f e) (formula_of tree g e)
        ∙ both_shaped f g first second e (sym (formula_at (open_formula.Iff f g) (tree_formula.rolls-Iff f g)) ∙ formed);
    at_quantified = λ q x ref f is e formed.
        let both = and_parts (mentions_a_name x && ref_is_formed ref) (formula_is_formed f)
        (sym (formula_at (open_formula.Quantified q x ref f) (tree_formula.rolls-Quantified q x ref f)) ∙ formed) in
        ap is_shaped (formula-Quantified tree e q x ref f)
        ∙ quantified_shaped q x.name (domain_of tree ref) (formula_of tree f (e ++ record { name = x.name; domain = ref } ∷ []))
        ∙ is (e ++ record { name = x.name; domain = ref } ∷ []) both.1;
    at_one = λ op f is e formed.
        ap is_shaped (formula-One tree e op f) ∙ is_shaped-One op (formula_of tree f e)
        ∙ is e (sym (formula_at (open_formula.One op f) (tree_formula.rolls-One op f)) ∙ formed);
    at_far = λ op f t is e formed.
        let both = and_parts (formula_is_formed f) (term_is_formed t) (sym (formula_at (open_formula.Far op f t) (tree_formula.rolls-Far op f t)) ∙ formed) in
        ap is_shaped (formula-Far tree e op f t) ∙ is_shaped-Far op (formula_of tree f e) (term_of tree t e)
        ∙ and_from (is_shaped (formula_of tree f e)) (term_is_shaped (term_of tree t e)) (is e both.0) (shaped_term t e both.1);
    at_pair = λ op f g first second e formed.
        ap is_shaped (formula-Pair tree e op f g) ∙ is_shaped-Pair op (formula_of tree f e) (formula_of tree g e)
        ∙ both_shaped f g first second e (sym (formula_at (open_formula.Pair op f g) (tree_formula.rolls-Pair op f g)) ∙ formed);
  }

  shaped_claims : (claims : List ClaimTree) → list_all claim_is_formed claims ≡ true → list_all (λ c. is_shaped (formula_of tree c.formula [])) claims ≡ true
  unfolding ShapedFormula
  shaped_claims [] formed = refl
  shaped_claims (c ∷ cs) formed =
      let both = and_parts (claim_is_formed c) (list_all claim_is_formed cs) formed in
      let own = and_parts (mentions_a_name c.name) (formula_is_formed c.formula) both.0 in
      and_from (is_shaped (formula_of tree c.formula [])) (list_all (λ c. is_shaped (formula_of tree c.formula [])) cs)
      (every_formula ShapedFormula shaped_cases c.formula [] own.1) (shaped_claims cs both.1)

  -- the names of variables
  are_names : List (List ℕ) → Bool
  are_names names = list_all is_name names

  NamedFormula : FormulaTree → Type 0
  NamedFormula f = (e : List Variable) → formula_is_formed f ≡ true → are_names (variables_of (formula_of tree f e)) ≡ true

  many_named : (fs : List FormulaTree) → Each NamedFormula fs → (e : List Variable) → two_all (map formula_is_formed fs) ≡ true →
      are_names (flat_map variables_of (map (λ f. formula_of tree f e) fs)) ≡ true
  unfolding NamedFormula are_names
  many_named fs each e formed =
      let both = and_parts (nat_le 2 (length (map formula_is_formed fs))) (list_all (λ b. b) (map formula_is_formed fs)) formed in
      flat_all_of is_name variables_of (λ f. formula_of tree f e) fs
      ∙ each_passes NamedFormula formula_is_formed (λ f. are_names (variables_of (formula_of tree f e))) (λ f is yes. is e yes) fs each
      (sym (all_of formula_is_formed fs) ∙ both.1)

  both_named : (f g : FormulaTree) → NamedFormula f → NamedFormula g → (e : List Variable) → (formula_is_formed f && formula_is_formed g) ≡ true →
      are_names (variables_of (formula_of tree f e) ++ variables_of (formula_of tree g e)) ≡ true
  unfolding NamedFormula are_names
  both_named f g first second e formed =
      let both = and_parts (formula_is_formed f) (formula_is_formed g) formed in
      list_all-append is_name (variables_of (formula_of tree f e)) (variables_of (formula_of tree g e))
      ∙ and_from (list_all is_name (variables_of (formula_of tree f e))) (list_all is_name (variables_of (formula_of tree g e))) (first e both.0) (second e both.1)

  named_cases : FormulaCases NamedFormula
  unfolding NamedFormula are_names
  named_cases = record {
    at_lone = λ t e formed.
        ap (λ x. are_names (variables_of x)) (formula-Lone tree e t) ∙ ap are_names (variables_of-Lone (term_of tree t e));
    at_compare = λ rel p t u e formed.
        ap (λ x. are_names (variables_of x)) (formula-Compare tree e rel p t u) ∙ ap are_names (variables_of-Compare rel (term_of tree t e) (term_of tree u e));
    at_not = λ f is e formed.
        ap (λ x. are_names (variables_of x)) (formula-Not tree e f) ∙ ap are_names (variables_of-Not (formula_of tree f e))
        ∙ is e (sym (formula_at (open_formula.Not f) (tree_formula.rolls-Not f)) ∙ formed);
    at_and = λ fs each e formed.
        ap (λ x. are_names (variables_of x)) (formula-And tree e fs) ∙ ap are_names (variables_of-And (map (λ f. formula_of tree f e) fs))
        ∙ many_named fs each e (sym (formula_at (open_formula.And fs) (tree_formula.rolls-And fs)) ∙ formed);
    at_or = λ fs each e formed.
        ap (λ x. are_names (variables_of x)) (formula-Or tree e fs) ∙ ap are_names (variables_of-Or (map (λ f. formula_of tree f e) fs))
        ∙ many_named fs each e (sym (formula_at (open_formula.Or fs) (tree_formula.rolls-Or fs)) ∙ formed);
    at_implies = λ f g first second e formed.
        ap (λ x. are_names (variables_of x)) (formula-Implies tree e f g) ∙ ap are_names (variables_of-Implies (formula_of tree f e) (formula_of tree g e))
        ∙ both_named f g first second e (sym (formula_at (open_formula.Implies f g) (tree_formula.rolls-Implies f g)) ∙ formed);
    at_iff = λ f g first second e formed.
        ap (λ x. are_names (variables_of x)) (formula-Iff tree e f g) ∙ ap are_names (variables_of-Iff (formula_of tree f e) (formula_of tree g e))
        ∙ both_named f g first second e (sym (formula_at (open_formula.Iff f g) (tree_formula.rolls-Iff f g)) ∙ formed);
    at_quantified = λ q x ref f is e formed.
        let both = and_parts (mentions_a_name x && ref_is_formed ref) (formula_is_formed f)
        (sym (formula_at (open_formula.Quantified q x ref f) (tree_formula.rolls-Quantified q x ref f)) ∙ formed) in
        let inner : Formula = formula_of tree f (e ++ record { name = x.name; domain = ref } ∷ []) in
        ap (λ y. are_names (variables_of y)) (formula-Quantified tree e q x ref f)
        ∙ ap are_names (quantified_variables q x.name (domain_of tree ref) inner)
        ∙ and_from (is_name x.name) (are_names (variables_of inner)) (and_parts (mentions_a_name x) (ref_is_formed ref) both.0).0
        (is (e ++ record { name = x.name; domain = ref } ∷ []) both.1);
    at_one = λ op f is e formed.
        ap (λ x. are_names (variables_of x)) (formula-One tree e op f) ∙ ap are_names (variables_of-One op (formula_of tree f e))
        ∙ is e (sym (formula_at (open_formula.One op f) (tree_formula.rolls-One op f)) ∙ formed);
    at_far = λ op f t is e formed.
        let both = and_parts (formula_is_formed f) (term_is_formed t) (sym (formula_at (open_formula.Far op f t) (tree_formula.rolls-Far op f t)) ∙ formed) in
        ap (λ x. are_names (variables_of x)) (formula-Far tree e op f t) ∙ ap are_names (variables_of-Far op (formula_of tree f e) (term_of tree t e))
        ∙ is e both.0;
    at_pair = λ op f g first second e formed.
        ap (λ x. are_names (variables_of x)) (formula-Pair tree e op f g) ∙ ap are_names (variables_of-Pair op (formula_of tree f e) (formula_of tree g e))
        ∙ both_named f g first second e (sym (formula_at (open_formula.Pair op f g) (tree_formula.rolls-Pair op f g)) ∙ formed);
  }

  pub named_claims : (claims : List ClaimTree) → list_all claim_is_formed claims ≡ true →
      list_all (λ c. list_all is_name (variables_of (formula_of tree c.formula []))) claims ≡ true
  unfolding NamedFormula are_names
  named_claims [] formed = refl
  named_claims (c ∷ cs) formed =
      let both = and_parts (claim_is_formed c) (list_all claim_is_formed cs) formed in
      let own = and_parts (mentions_a_name c.name) (formula_is_formed c.formula) both.0 in
      and_from (list_all is_name (variables_of (formula_of tree c.formula []))) (list_all (λ c. list_all is_name (variables_of (formula_of tree c.formula []))) cs)
      (every_formula NamedFormula named_cases c.formula [] own.1) (named_claims cs both.1)

pub parts_are_many_from_form : (tree : SpecTree) → is_formed tree ≡ true → parts_are_many (parts_of_tree tree) ≡ true
unfolding parts_of_tree
parts_are_many_from_form tree formed =
    claims_pass tree (λ (a : Axiom). is_shaped a.formula) tree.claims
    (shaped_claims tree tree.claims (and_parts (list_all declaration_is_formed tree.declarations) (list_all claim_is_formed tree.claims) formed).1)
