-- Where the kinds of its parts are right, no kind in a tree is wrong.
use Rattle.std.proofs.Common.{◌≡◌, ℕ, Bool, true, false, List, [], ◌∷◌, ◌++◌, map, refl, sym, ap, ◌∙◌}
use Rattle.std.specs.List.{flat_map, list_all}
use Rattle.std.proofs.lemmas.Bool.{and_parts}
use Rattle.std.proofs.lemmas.List.{map-append}
use Rattle.std.proofs.lemmas.List.Folds.{list_all-map}
use Rattle.trio_types.specs.declared.spec.Axiom.{Axiom}
use Rattle.trio_types.specs.declared.formula.Formula.{Formula}
use Rattle.trio_types.specs.World.{World}
use Rattle.trio_types.specs.WellFormed.{kinds_are_right}
use Rattle.trio_types.specs.Kinds.{Use, kind_in, term_uses, is_right, required, of_domain, alone, distance, compared, uses, item_uses}
use Rattle.trio_types.proofs.Lists.{all_left, all_right}
use Rattle.trio_types.proofs.KindsAt.{uses-Lone, uses-Compare, uses-Not, uses-And, uses-Or, uses-Implies, uses-Iff, uses-All, uses-Ex, uses-One, uses-Far, uses-Pair}
use Rattle.trio_syntax.specs.declared.tree.Quantifier.{Quantifier}
use Rattle.trio_syntax.specs.declared.tree.Quantifier.TheVariants as quantifier
use Rattle.trio_syntax.specs.declared.tree.RefTree.{RefTree}
use Rattle.trio_syntax.specs.declared.tree.RefTree.TheVariants as ref_to
use Rattle.trio_syntax.specs.declared.tree.TermTree.{TermTree, out-TermTree}
use Rattle.trio_syntax.specs.declared.tree.FormulaTree.{FormulaTree}
use Rattle.trio_syntax.specs.declared.tree.DeclarationTree.{DeclarationTree}
use Rattle.trio_syntax.specs.declared.tree.DeclarationTree.TheVariants as statement
use Rattle.trio_syntax.specs.declared.tree.SpecTree.{SpecTree}
use Rattle.trio_scope.specs.declared.walk.Role.TheVariants as role
use Rattle.trio_scope.specs.Scope.{refs_of}
use Rattle.trio_scope.specs.Names.{items_in}
use Rattle.trio_scope.specs.Gather.{Variable, places_in, places_in_term, places_in_claims}
use Rattle.trio_scope.proofs.Gathers.{in-Lone, in-Compare, in-Not, in-And, in-Or, in-Implies, in-Iff, in-Quantified, in-One, in-Far, in-Pair}
use Rattle.trio_reader.specs.Erasure.{domain_of, domains_of, world_of_tree, parts_of_tree, term_of, formula_of, quantified, item_from, claims_from}
use Rattle.trio_reader.specs.Kinds.{placed, wrong_places, kind_of, ref_uses, kind_finding, kind_places}
use Rattle.trio_reader.proofs.Erased.{formula-Lone, formula-Compare, formula-Not, formula-And, formula-Or, formula-Implies, formula-Iff, formula-Quantified, formula-One, formula-Far, formula-Pair}
use Rattle.trio_types.proofs.Inductions.{Each}
use Rattle.trio_reader.proofs.FormedCases.{FormulaCases, every_formula}
use Rattle.trio_reader.proofs.FormedNumbers.{flat_all, flat_all_of}
use Rattle.trio_canonical.proofs.SoundPhases.{both_empty, each_empty, all_empty, claims_each}
use Rattle.trio_canonical.proofs.SoundTerms.{none_wrong, one_placed, no_wrong_kind}

quantified_uses : (w : World) (q : Quantifier) (name : List ℕ) (d : ℕ) (f : Formula) (vs : List ℕ) →
    uses w (quantified q name d f) vs ≡ of_domain (kind_in w d) ∷ uses w f (vs ++ d ∷ [])
quantified_uses w quantifier.All name d f vs = uses-All w name d f vs
quantified_uses w quantifier.Ex name d f vs = uses-Ex w name d f vs

module _ (tree : SpecTree) where
  abbrev world : World
  world = world_of_tree tree

  -- what names a domain that has a kind
  abbrev ref_is_right : RefTree → Bool
  ref_is_right r = is_right (of_domain (kind_in world (domain_of tree r)))

  ref_clean : (r : RefTree) → ref_is_right r ≡ true → wrong_places (ref_uses tree r) ≡ []
  ref_clean ref_to.Bool is = refl
  ref_clean (ref_to.Named m) is =
      none_wrong (ref_uses tree (ref_to.Named m)) (one_placed m.place (of_domain (kind_in world (domain_of tree (ref_to.Named m)))) is)

  -- all that a formula uses is right
  abbrev right : List Variable → Formula → Bool
  right e f = list_all is_right (uses world f (domains_of tree e))

  CleanFormula : FormulaTree → Type 0
  CleanFormula f = (e : List Variable) → right e (formula_of tree f e) ≡ true → places_in (kind_finding tree) f e ≡ []

  each_clean : (fs : List FormulaTree) → Each CleanFormula fs → (e : List Variable) →
      list_all is_right (flat_map (λ f. uses world f (domains_of tree e)) (map (λ f. formula_of tree f e) fs)) ≡ true →
      flat_map (λ f. places_in (kind_finding tree) f e) fs ≡ []
  unfolding CleanFormula
  each_clean fs each e all =
      each_empty CleanFormula (λ f. places_in (kind_finding tree) f e) (λ f. right e (formula_of tree f e)) (λ f is yes. is e yes) fs each
      (sym (flat_all_of is_right (λ f. uses world f (domains_of tree e)) (λ f. formula_of tree f e) fs) ∙ all)

  both_clean : (f g : FormulaTree) → CleanFormula f → CleanFormula g → (e : List Variable) →
      list_all is_right (uses world (formula_of tree f e) (domains_of tree e) ++ uses world (formula_of tree g e) (domains_of tree e)) ≡ true →
      places_in (kind_finding tree) f e ++ places_in (kind_finding tree) g e ≡ []
  unfolding CleanFormula
  both_clean f g first second e all =
      let xs : List Use = uses world (formula_of tree f e) (domains_of tree e) in
      let ys : List Use = uses world (formula_of tree g e) (domains_of tree e) in
      both_empty (places_in (kind_finding tree) f e) (places_in (kind_finding tree) g e)
      (first e (all_left is_right xs ys all)) (second e (all_right is_right xs ys all))

  compare_clean : (e : List Variable) (t u : TermTree) (p : ℕ) (here : Use) → is_right here ≡ true →
      list_all is_right (term_uses world (domains_of tree e) false (term_of tree t e) ++ term_uses world (domains_of tree e) false (term_of tree u e)) ≡ true →
      wrong_places (placed p here ∷ []) ++ (places_in_term (kind_finding tree) t e role.Compared false ++ places_in_term (kind_finding tree) u e role.Compared false) ≡ []
  compare_clean e t u p here is all =
      let xs : List Use = term_uses world (domains_of tree e) false (term_of tree t e) in
      let ys : List Use = term_uses world (domains_of tree e) false (term_of tree u e) in
      let left : List ℕ = places_in_term (kind_finding tree) t e role.Compared false in
      let right : List ℕ = places_in_term (kind_finding tree) u e role.Compared false in
      both_empty (wrong_places (placed p here ∷ [])) (left ++ right) (none_wrong (placed p here ∷ []) (one_placed p here is))
      (both_empty left right (no_wrong_kind tree t e role.Compared false refl (all_left is_right xs ys all))
      (no_wrong_kind tree u e role.Compared false refl (all_right is_right xs ys all)))

  formula_cases : FormulaCases CleanFormula
  unfolding CleanFormula
  formula_cases = record {
    at_lone = λ t e all.
        let both = and_parts (is_right (required alone (kind_of tree e t))) (list_all is_right (term_uses world (domains_of tree e) false (term_of tree t e)))
        (sym (ap (right e) (formula-Lone tree e t) ∙ ap (list_all is_right) (uses-Lone world (term_of tree t e) (domains_of tree e))) ∙ all) in
        in-Lone (kind_finding tree) e t
        ∙ no_wrong_kind tree t e role.Alone false (one_placed (out-TermTree t).place (required alone (kind_of tree e t)) both.0) both.1;
    at_compare = λ rel p t u e all.
        let here : Use = required (compared rel (kind_of tree e t)) (kind_of tree e u) in
        let both = and_parts (is_right here)
        (list_all is_right (term_uses world (domains_of tree e) false (term_of tree t e) ++ term_uses world (domains_of tree e) false (term_of tree u e)))
        (sym (ap (right e) (formula-Compare tree e rel p t u)
        ∙ ap (list_all is_right) (uses-Compare world rel (term_of tree t e) (term_of tree u e) (domains_of tree e))) ∙ all) in
        in-Compare (kind_finding tree) e rel p t u ∙ compare_clean e t u p here both.0 both.1;
    at_not = λ f is e all.
        in-Not (kind_finding tree) e f
        ∙ is e (sym (ap (right e) (formula-Not tree e f) ∙ ap (list_all is_right) (uses-Not world (formula_of tree f e) (domains_of tree e))) ∙ all);
    at_and = λ fs each e all.
        in-And (kind_finding tree) e fs
        ∙ each_clean fs each e
        (sym (ap (right e) (formula-And tree e fs) ∙ ap (list_all is_right) (uses-And world (map (λ f. formula_of tree f e) fs) (domains_of tree e))) ∙ all);
    at_or = λ fs each e all.
        in-Or (kind_finding tree) e fs
        ∙ each_clean fs each e
        (sym (ap (right e) (formula-Or tree e fs) ∙ ap (list_all is_right) (uses-Or world (map (λ f. formula_of tree f e) fs) (domains_of tree e))) ∙ all);
    at_implies = λ f g first second e all.
        in-Implies (kind_finding tree) e f g
        ∙ both_clean f g first second e
        (sym (ap (right e) (formula-Implies tree e f g)
        ∙ ap (list_all is_right) (uses-Implies world (formula_of tree f e) (formula_of tree g e) (domains_of tree e))) ∙ all);
    at_iff = λ f g first second e all.
        in-Iff (kind_finding tree) e f g
        ∙ both_clean f g first second e
        (sym (ap (right e) (formula-Iff tree e f g)
        ∙ ap (list_all is_right) (uses-Iff world (formula_of tree f e) (formula_of tree g e) (domains_of tree e))) ∙ all);
    at_quantified = λ q x r f is e all.
        let under : List Variable = e ++ record { name = x.name; domain = r } ∷ [] in
        let both = and_parts (ref_is_right r) (list_all is_right (uses world (formula_of tree f under) (domains_of tree e ++ domain_of tree r ∷ [])))
        (sym (ap (right e) (formula-Quantified tree e q x r f)
        ∙ ap (list_all is_right) (quantified_uses world q x.name (domain_of tree r) (formula_of tree f under) (domains_of tree e))) ∙ all) in
        in-Quantified (kind_finding tree) e q x r f
        ∙ both_empty (wrong_places (ref_uses tree r)) (places_in (kind_finding tree) f under) (ref_clean r both.0)
        (is under (ap (λ ds. list_all is_right (uses world (formula_of tree f under) ds))
        (map-append (λ (v : Variable). domain_of tree v.domain) e (record { name = x.name; domain = r } ∷ [])) ∙ both.1));
    at_one = λ op f is e all.
        in-One (kind_finding tree) e op f
        ∙ is e (sym (ap (right e) (formula-One tree e op f) ∙ ap (list_all is_right) (uses-One world op (formula_of tree f e) (domains_of tree e))) ∙ all);
    at_far = λ op f t is e all.
        let xs : List Use = uses world (formula_of tree f e) (domains_of tree e) in
        let ys : List Use = term_uses world (domains_of tree e) true (term_of tree t e) in
        let both = and_parts (is_right (required distance (kind_of tree e t))) (list_all is_right (xs ++ ys))
        (sym (ap (right e) (formula-Far tree e op f t)
        ∙ ap (list_all is_right) (uses-Far world op (formula_of tree f e) (term_of tree t e) (domains_of tree e))) ∙ all) in
        in-Far (kind_finding tree) e op f t
        ∙ both_empty (places_in (kind_finding tree) f e) (places_in_term (kind_finding tree) t e role.Distance true) (is e (all_left is_right xs ys both.1))
        (no_wrong_kind tree t e role.Distance true (one_placed (out-TermTree t).place (required distance (kind_of tree e t)) both.0) (all_right is_right xs ys both.1));
    at_pair = λ op f g first second e all.
        in-Pair (kind_finding tree) e op f g
        ∙ both_clean f g first second e
        (sym (ap (right e) (formula-Pair tree e op f g)
        ∙ ap (list_all is_right) (uses-Pair world op (formula_of tree f e) (formula_of tree g e) (domains_of tree e))) ∙ all);
  }

  clean_formula : (f : FormulaTree) (e : List Variable) → right e (formula_of tree f e) ≡ true → places_in (kind_finding tree) f e ≡ []
  unfolding CleanFormula
  clean_formula f = every_formula CleanFormula formula_cases f

  -- what items name
  abbrev wrong_refs : DeclarationTree → List ℕ
  wrong_refs s = flat_map (λ r. wrong_places (ref_uses tree r)) (refs_of s)

  refs_clean : (rs : List RefTree) → list_all is_right (map (λ d. of_domain (kind_in world d)) (map (domain_of tree) rs)) ≡ true →
      flat_map (λ r. wrong_places (ref_uses tree r)) rs ≡ []
  refs_clean rs all =
      all_empty (λ r. wrong_places (ref_uses tree r)) ref_is_right (λ r is. ref_clean r is) rs
      (sym (list_all-map is_right (λ d. of_domain (kind_in world d)) (map (domain_of tree) rs)
      ∙ list_all-map (λ d. is_right (of_domain (kind_in world d))) (domain_of tree) rs) ∙ all)

  items_clean : (ds : List DeclarationTree) → list_all is_right (flat_map (item_uses world) (map (item_from tree) (items_in ds))) ≡ true →
      flat_map wrong_refs ds ≡ []
  items_clean [] all = refl
  items_clean (statement.Domain d ∷ ds) all = items_clean ds all
  items_clean (statement.Item i ∷ ds) all =
      let own : List Use = item_uses world (item_from tree i) in
      let later : List Use = flat_map (item_uses world) (map (item_from tree) (items_in ds)) in
      both_empty (wrong_refs (statement.Item i)) (flat_map wrong_refs ds)
      (refs_clean (i.args ++ i.value ∷ [])
      (ap (λ ns. list_all is_right (map (λ d. of_domain (kind_in world d)) ns)) (map-append (domain_of tree) i.args (i.value ∷ []))
      ∙ all_left is_right own later all))
      (items_clean ds (all_right is_right own later all))

  -- no kind is wrong, in what items name and in formulas
  pub record KindsClean : Type 0 where
    pub refs : flat_map (λ s. flat_map (λ r. wrong_places (ref_uses tree r)) (refs_of s)) tree.declarations ≡ []
    pub formulas : places_in_claims (kind_finding tree) tree ≡ []

  pub kinds_clean : kinds_are_right (parts_of_tree tree) ≡ true → KindsClean
  unfolding parts_of_tree
  kinds_clean all =
      let items : List Use = flat_map (item_uses world) (map (item_from tree) (items_in tree.declarations)) in
      let claims : List Axiom = claims_from tree false tree.claims ++ claims_from tree true tree.claims in
      let of_claims : List Use = flat_map (λ (a : Axiom). uses world a.formula []) claims in
      record {
        refs = items_clean tree.declarations (all_left is_right items of_claims all);
        formulas =
            all_empty (λ c. places_in (kind_finding tree) c.formula []) (λ c. right [] (formula_of tree c.formula [])) (λ c is. clean_formula c.formula [] is) tree.claims
            (claims_each tree (λ (a : Axiom). list_all is_right (uses world a.formula [])) tree.claims
            (sym (flat_all is_right (λ (a : Axiom). uses world a.formula []) claims) ∙ all_right is_right items of_claims all));
      }

  pub no_kind_wrong : kinds_are_right (parts_of_tree tree) ≡ true → kind_places tree ≡ []
  unfolding kind_places
  no_kind_wrong all =
      let clean = kinds_clean all in both_empty (flat_map wrong_refs tree.declarations) (places_in_claims (kind_finding tree) tree) clean.refs clean.formulas
