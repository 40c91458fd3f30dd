-- Where nothing stands twice, no variable has a declared name or that of a variable in whose body it stands.
use Rattle.std.proofs.Common.{◌≡◌, ℕ, Bool, true, false, not, ◌&&◌, ◌||◌, List, [], ◌∷◌, ◌++◌, map, None, refl, sym, ap, ◌∙◌}
use Rattle.std.specs.List.{list_all, list_any, flat_map}
use Rattle.std.specs.Str.{bytes_eq}
use Rattle.std.proofs.lemmas.Bool.{and_from}
use Rattle.std.proofs.lemmas.List.Folds.{list_all-map, list_any-append}
use Rattle.trio_types.specs.declared.spec.Axiom.{Axiom}
use Rattle.trio_types.specs.declared.formula.Formula.{Formula}
use Rattle.trio_types.specs.Names.{declared_names, is_new, variables_are_new}
use Rattle.trio_types.specs.WellFormed.{variables_are_distinct}
use Rattle.trio_types.proofs.NamesAt.{variables_are_new-Lone, variables_are_new-Compare, variables_are_new-Not, variables_are_new-And, variables_are_new-Or, variables_are_new-Implies, variables_are_new-Iff, variables_are_new-All, variables_are_new-Ex, variables_are_new-One, variables_are_new-Far, variables_are_new-Pair}
use Rattle.trio_syntax.specs.declared.tree.Quantifier.{Quantifier}
use Rattle.trio_syntax.specs.declared.tree.Quantifier.TheVariants as quantifier
use Rattle.trio_syntax.specs.declared.tree.FormulaTree.{FormulaTree}
use Rattle.trio_syntax.specs.declared.tree.ClaimTree.{ClaimTree}
use Rattle.trio_syntax.specs.declared.tree.SpecTree.{SpecTree}
use Rattle.trio_scope.specs.declared.walk.Role.TheVariants as role
use Rattle.trio_scope.specs.Places.{least, unless}
use Rattle.trio_scope.specs.Names.{declarations, is_declared}
use Rattle.trio_scope.specs.Gather.{Variable, Finding, places_in, places_in_term}
use Rattle.trio_scope.specs.Scope.{is_variable, twice_finding, repeated_places}
use Rattle.trio_scope.proofs.Gathers.{in-Not, in-And, in-Or, in-Implies, in-Iff, in-Quantified, in-One, in-Far, in-Pair}
use Rattle.trio_reader.specs.Erasure.{term_of, formula_of, quantified, domain_of, parts_of_tree}
use Rattle.trio_reader.proofs.Erased.{formula-Lone, formula-Compare, formula-Not, formula-And, formula-Or, formula-Implies, formula-Iff, formula-Quantified, formula-One, formula-Far, formula-Pair}
use Rattle.trio_reader.proofs.FormedPhases.{append_empty, unless_empty}
use Rattle.trio_types.proofs.Inductions.{Each}
use Rattle.trio_reader.proofs.FormedCases.{each_clean, FormulaCases, every_formula}
use Rattle.trio_reader.proofs.FormedClaims.{claims_pass}
use Rattle.trio_reader.proofs.FormedNames.{is_once, same_names, same_declared}

pub quantified_new : (q : Quantifier) (name : List ℕ) (d : ℕ) (f : Formula) (taken : List (List ℕ)) →
    variables_are_new (quantified q name d f) taken ≡ (is_new name taken && variables_are_new f (taken ++ name ∷ []))
quantified_new quantifier.All name d f taken = variables_are_new-All name d f taken
quantified_new quantifier.Ex name d f taken = variables_are_new-Ex name d f taken

joined : (a b c d e : Bool) → a ≡ (b || c) → d ≡ e → (a || (d || false)) ≡ (b || (c || (e || false)))
joined a b c d e first second = rw (first, second) (or_assoc b c (e || false))
  where
    or_assoc : (x y z : Bool) → ((x || y) || z) ≡ (x || (y || z))
    or_assoc true y z = refl
    or_assoc false y z = refl

module _ (tree : SpecTree) where
  -- the names that are taken: the declared ones, and those of the variables round a formula
  Taken : List Variable → List (List ℕ) → Type 0
  Taken e taken = (name : List ℕ) → list_any (bytes_eq name) taken ≡ (is_declared (declarations tree) name || is_variable e name)

  one_more : (e : List Variable) (taken : List (List ℕ)) (v : Variable) → Taken e taken → Taken (e ++ v ∷ []) (taken ++ v.name ∷ [])
  unfolding Taken
  one_more e taken v is name =
      list_any-append (bytes_eq name) taken (v.name ∷ [])
      ∙ joined (list_any (bytes_eq name) taken) (is_declared (declarations tree) name) (is_variable e name) (bytes_eq name v.name) (bytes_eq v.name name)
      (is name) (same_names name v.name)
      ∙ ap (λ b. is_declared (declarations tree) name || b) (sym (list_any-append (λ (v : Variable). bytes_eq v.name name) e (v ∷ [])))

  rule : Finding
  rule = twice_finding (declarations tree)

  NewFormula : FormulaTree → Type 0
  NewFormula f = (e : List Variable) (taken : List (List ℕ)) → Taken e taken → places_in rule f e ≡ [] → variables_are_new (formula_of tree f e) taken ≡ true

  all_new : (fs : List FormulaTree) → Each NewFormula fs → (e : List Variable) (taken : List (List ℕ)) → Taken e taken →
      flat_map (λ f. places_in rule f e) fs ≡ [] → list_all (λ f. variables_are_new f taken) (map (λ f. formula_of tree f e) fs) ≡ true
  unfolding NewFormula
  all_new fs each e taken covers none =
      list_all-map (λ f. variables_are_new f taken) (λ f. formula_of tree f e) fs
      ∙ each_clean NewFormula (λ f. places_in rule f e) (λ f. variables_are_new (formula_of tree f e) taken) (λ f is clean. is e taken covers clean) fs each none

  both_new : (f g : FormulaTree) → NewFormula f → NewFormula g → (e : List Variable) (taken : List (List ℕ)) → Taken e taken →
      places_in rule f e ++ places_in rule g e ≡ [] → (variables_are_new (formula_of tree f e) taken && variables_are_new (formula_of tree g e) taken) ≡ true
  unfolding NewFormula
  both_new f g first second e taken covers none =
      let both = append_empty (places_in rule f e) (places_in rule g e) none in
      and_from (variables_are_new (formula_of tree f e) taken) (variables_are_new (formula_of tree g e) taken)
      (first e taken covers both.0) (second e taken covers both.1)

  new_cases : FormulaCases NewFormula
  unfolding NewFormula Taken rule
  new_cases = record {
    at_lone = λ t e taken covers none.
        ap (λ f. variables_are_new f taken) (formula-Lone tree e t) ∙ variables_are_new-Lone (term_of tree t e) taken;
    at_compare = λ rel p t u e taken covers none.
        ap (λ f. variables_are_new f taken) (formula-Compare tree e rel p t u) ∙ variables_are_new-Compare rel (term_of tree t e) (term_of tree u e) taken;
    at_not = λ f is e taken covers none.
        ap (λ f. variables_are_new f taken) (formula-Not tree e f) ∙ variables_are_new-Not (formula_of tree f e) taken
        ∙ is e taken covers (sym (in-Not rule e f) ∙ none);
    at_and = λ fs each e taken covers none.
        ap (λ f. variables_are_new f taken) (formula-And tree e fs) ∙ variables_are_new-And (map (λ f. formula_of tree f e) fs) taken
        ∙ all_new fs each e taken covers (sym (in-And rule e fs) ∙ none);
    at_or = λ fs each e taken covers none.
        ap (λ f. variables_are_new f taken) (formula-Or tree e fs) ∙ variables_are_new-Or (map (λ f. formula_of tree f e) fs) taken
        ∙ all_new fs each e taken covers (sym (in-Or rule e fs) ∙ none);
    at_implies = λ f g first second e taken covers none.
        ap (λ f. variables_are_new f taken) (formula-Implies tree e f g) ∙ variables_are_new-Implies (formula_of tree f e) (formula_of tree g e) taken
        ∙ both_new f g first second e taken covers (sym (in-Implies rule e f g) ∙ none);
    at_iff = λ f g first second e taken covers none.
        ap (λ f. variables_are_new f taken) (formula-Iff tree e f g) ∙ variables_are_new-Iff (formula_of tree f e) (formula_of tree g e) taken
        ∙ both_new f g first second e taken covers (sym (in-Iff rule e f g) ∙ none);
    at_quantified = λ q x ref f is e taken covers none.
        let v : Variable = record { name = x.name; domain = ref } in
        let known : Bool = is_declared (declarations tree) x.name || is_variable e x.name in
        let both = append_empty (unless (not known) x.place) (places_in rule f (e ++ v ∷ [])) (sym (in-Quantified rule e q x ref f) ∙ none) in
        ap (λ f. variables_are_new f taken) (formula-Quantified tree e q x ref f)
        ∙ quantified_new q x.name (domain_of tree ref) (formula_of tree f (e ++ v ∷ [])) taken
        ∙ and_from (is_new x.name taken) (variables_are_new (formula_of tree f (e ++ v ∷ [])) (taken ++ x.name ∷ []))
        (ap not (covers x.name) ∙ unless_empty (not known) x.place both.0)
        (is (e ++ v ∷ []) (taken ++ x.name ∷ []) (one_more e taken v covers) both.1);
    at_one = λ op f is e taken covers none.
        ap (λ f. variables_are_new f taken) (formula-One tree e op f) ∙ variables_are_new-One op (formula_of tree f e) taken
        ∙ is e taken covers (sym (in-One rule e op f) ∙ none);
    at_far = λ op f t is e taken covers none.
        let both = append_empty (places_in rule f e) (places_in_term rule t e role.Distance true) (sym (in-Far rule e op f t) ∙ none) in
        ap (λ f. variables_are_new f taken) (formula-Far tree e op f t) ∙ variables_are_new-Far op (formula_of tree f e) (term_of tree t e) taken
        ∙ is e taken covers both.0;
    at_pair = λ op f g first second e taken covers none.
        ap (λ f. variables_are_new f taken) (formula-Pair tree e op f g) ∙ variables_are_new-Pair op (formula_of tree f e) (formula_of tree g e) taken
        ∙ both_new f g first second e taken covers (sym (in-Pair rule e op f g) ∙ none);
  }

  none_around : (taken : List (List ℕ)) → ((name : List ℕ) → list_any (bytes_eq name) taken ≡ is_declared (declarations tree) name) → Taken [] taken
  unfolding Taken
  none_around taken same name = same name ∙ or_none (is_declared (declarations tree) name)
    where
      or_none : (b : Bool) → b ≡ (b || false)
      or_none true = refl
      or_none false = refl

  new_claims : (taken : List (List ℕ)) → Taken [] taken → (claims : List ClaimTree) → flat_map (λ c. places_in (twice_finding (declarations tree)) c.formula []) claims ≡ [] →
      list_all (λ c. variables_are_new (formula_of tree c.formula []) taken) claims ≡ true
  unfolding NewFormula rule
  new_claims taken covers [] none = refl
  new_claims taken covers (c ∷ cs) none =
      let both = append_empty (places_in rule c.formula []) (flat_map (λ c. places_in rule c.formula []) cs) none in
      and_from (variables_are_new (formula_of tree c.formula []) taken) (list_all (λ c. variables_are_new (formula_of tree c.formula []) taken) cs)
      (every_formula NewFormula new_cases c.formula [] taken covers both.0) (new_claims taken covers cs both.1)

  pub variables_are_distinct_from_once : least (repeated_places tree) ≡ None → variables_are_distinct (parts_of_tree tree) ≡ true
  unfolding parts_of_tree
  variables_are_distinct_from_once none =
      claims_pass tree (λ (a : Axiom). variables_are_new a.formula (declared_names (parts_of_tree tree))) tree.claims
      (new_claims (declared_names (parts_of_tree tree)) (none_around (declared_names (parts_of_tree tree)) (same_declared tree)) tree.claims (is_once tree none).variables)
