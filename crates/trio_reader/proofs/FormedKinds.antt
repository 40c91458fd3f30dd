-- The kinds of a sound tree's parts are right.
use Rattle.std.proofs.Common.{◌≡◌, ℕ, Bool, true, false, if◌then◌else◌, List, [], ◌∷◌, ◌++◌, map, filter, refl, sym, ap, subst, ◌∙◌}
use denote.Hole.Holds.{Such}
use Rattle.std.specs.List.{flat_map, list_all}
use Rattle.std.proofs.lemmas.Bool.{and_from}
use Rattle.std.proofs.lemmas.Grind.{flat_map-append}
use Rattle.std.proofs.lemmas.List.{map-append}
use Rattle.trio_base.specs.declared.operators.Rel.{Rel}
use Rattle.trio_base.specs.declared.operators.OneOp.{OneOp}
use Rattle.trio_base.specs.declared.operators.FarOp.{FarOp}
use Rattle.trio_base.specs.declared.operators.PairOp.{PairOp}
use Rattle.trio_types.specs.declared.spec.Axiom.{Axiom}
use Rattle.trio_types.specs.declared.formula.Formula.{Formula}
use Rattle.trio_types.specs.WellFormed.{kinds_are_right}
use Rattle.trio_types.specs.Kinds.{Use, kind_in, term_uses, is_right, required, of_domain, alone, distance, compared, uses, item_uses}
use Rattle.trio_types.proofs.KindsAt.{uses-Lone, uses-Compare, uses-Not, uses-And, uses-Or, uses-Implies, uses-Iff, uses-All, uses-Ex, uses-One, uses-Far, uses-Pair}
use Rattle.trio_syntax.specs.declared.tree.Quantifier.{Quantifier}
use Rattle.trio_syntax.specs.declared.tree.Quantifier.TheVariants as quantifier
use Rattle.trio_syntax.specs.declared.tree.Mention.{Mention}
use Rattle.trio_syntax.specs.declared.tree.RefTree.{RefTree}
use Rattle.trio_syntax.specs.declared.tree.RefTree.TheVariants as ref
use Rattle.trio_syntax.specs.declared.tree.TermTree.{TermTree, out-TermTree}
use Rattle.trio_syntax.specs.declared.tree.FormulaTree.{FormulaTree}
use Rattle.trio_syntax.specs.declared.tree.FormulaTree.TheVariants as formula
use Rattle.trio_syntax.specs.declared.tree.FormulaTree.TheOpen.{FormulaTree-F}
use Rattle.trio_syntax.specs.declared.tree.FormulaTree.TheOpen as open_formula
use Rattle.trio_syntax.specs.declared.tree.FormulaTree.TheFolds.{map-FormulaTree, ind-FormulaTree, claims}
use Rattle.trio_syntax.specs.declared.tree.FormulaTree.TheBlock.{the_family, member-FormulaTree}
use Rattle.trio_syntax.specs.declared.tree.FormulaTree.TheViews.{roll-FormulaTree}
use Rattle.trio_syntax.specs.declared.tree.DeclarationTree.{DeclarationTree}
use Rattle.trio_syntax.specs.declared.tree.DeclarationTree.TheVariants as statement
use Rattle.trio_syntax.specs.declared.tree.ClaimTree.{ClaimTree}
use Rattle.trio_syntax.specs.declared.tree.SpecTree.{SpecTree}
use Rattle.trio_scope.specs.declared.walk.Role.TheVariants as role
use Rattle.trio_scope.specs.Scope.{refs_of}
use Rattle.trio_scope.specs.Names.{items_in}
use Rattle.trio_scope.specs.Gather.{Variable, places_in, places_in_term, places_in_claims}
use Rattle.trio_scope.proofs.Gathers.{in-Lone, in-Compare, in-Not, in-And, in-Or, in-Implies, in-Iff, in-Quantified, in-One, in-Far, in-Pair}
use Rattle.trio_reader.specs.Erasure.{domain_of, domains_of, world_of_tree, parts_of_tree, term_of, formula_of, quantified, item_from, axiom_from, is_wanted, claims_from}
use Rattle.trio_reader.specs.Kinds.{placed, wrong_places, kind_of, ref_uses, kind_finding, kind_places}
use Rattle.trio_reader.specs.Sound.{IsSound}
use Rattle.trio_reader.proofs.Erased.{formula-Lone, formula-Compare, formula-Not, formula-And, formula-Or, formula-Implies, formula-Iff, formula-Quantified, formula-One, formula-Far, formula-Pair}
use Rattle.trio_reader.proofs.FormedPhases.{append_empty, least_none, clean}
use Rattle.trio_reader.proofs.FormedTerms.{all_both, no_wrong, one_right, role_right, term_right}

-- what names a domain that has a kind, or `bool`
bool_right : (tree : SpecTree) → is_right (of_domain (kind_in (world_of_tree tree) 0)) ≡ true
unfolding parts_of_tree
bool_right tree = refl

ref_right : (tree : SpecTree) (r : RefTree) → wrong_places (ref_uses tree r) ≡ [] → is_right (of_domain (kind_in (world_of_tree tree) (domain_of tree r))) ≡ true
ref_right tree ref.Bool clean = bool_right tree
ref_right tree (ref.Named m) clean =
    one_right m.place (of_domain (kind_in (world_of_tree tree) (domain_of tree (ref.Named m)))) (no_wrong (ref_uses tree (ref.Named m)) clean)

-- all that a formula uses is right
abbrev formula_right : SpecTree → List Variable → Formula → Bool
formula_right tree e f = list_all is_right (uses (world_of_tree tree) f (domains_of tree e))

-- where no place in a formula is wrong, all that it uses is right
Fine : SpecTree → FormulaTree → Type 0
Fine tree f = (e : List Variable) → places_in (kind_finding tree) f e ≡ [] → formula_right tree e (formula_of tree f e) ≡ true

-- a part of a formula, and that it is so
abbrev FinePart : SpecTree → Type 0
FinePart tree = Such the_family (claims (Fine tree)) member-FormulaTree

fine_lone : (tree : SpecTree) (t : TermTree) → Fine tree (formula.Lone t)
unfolding Fine
fine_lone tree t e clean =
    let found = sym (in-Lone (kind_finding tree) e t) ∙ clean in
    ap (formula_right tree e) (formula-Lone tree e t)
    ∙ ap (list_all is_right) (uses-Lone (world_of_tree tree) (term_of tree t e) (domains_of tree e))
    ∙ and_from (is_right (required alone (kind_of tree e t))) (list_all is_right (term_uses (world_of_tree tree) (domains_of tree e) false (term_of tree t e)))
    (one_right (out-TermTree t).place (required alone (kind_of tree e t)) (role_right tree t e role.Alone false found)) (term_right tree t e role.Alone false found)

fine_compare : (tree : SpecTree) (rel : Rel) (p : ℕ) (t u : TermTree) → Fine tree (formula.Compare rel p t u)
unfolding Fine
fine_compare tree rel p t u e clean =
    let here : Use = required (compared rel (kind_of tree e t)) (kind_of tree e u) in
    let left : List ℕ = places_in_term (kind_finding tree) t e role.Compared false in
    let right : List ℕ = places_in_term (kind_finding tree) u e role.Compared false in
    let both = append_empty (wrong_places (placed p here ∷ [])) (left ++ right) (sym (in-Compare (kind_finding tree) e rel p t u) ∙ clean) in
    let sides = append_empty left right both.1 in
    let first : List Use = term_uses (world_of_tree tree) (domains_of tree e) false (term_of tree t e) in
    let second : List Use = term_uses (world_of_tree tree) (domains_of tree e) false (term_of tree u e) in
    ap (formula_right tree e) (formula-Compare tree e rel p t u)
    ∙ ap (list_all is_right) (uses-Compare (world_of_tree tree) rel (term_of tree t e) (term_of tree u e) (domains_of tree e))
    ∙ and_from (is_right here) (list_all is_right (first ++ second)) (one_right p here (no_wrong (placed p here ∷ []) both.0))
    (all_both is_right first second (term_right tree t e role.Compared false sides.0) (term_right tree u e role.Compared false sides.1))

fine_not : (tree : SpecTree) (f : FormulaTree) → Fine tree f → Fine tree (formula.Not f)
unfolding Fine
fine_not tree f part e clean =
    ap (formula_right tree e) (formula-Not tree e f) ∙ ap (list_all is_right) (uses-Not (world_of_tree tree) (formula_of tree f e) (domains_of tree e))
    ∙ part e (sym (in-Not (kind_finding tree) e f) ∙ clean)

fine_one : (tree : SpecTree) (op : OneOp) (f : FormulaTree) → Fine tree f → Fine tree (formula.One op f)
unfolding Fine
fine_one tree op f part e clean =
    ap (formula_right tree e) (formula-One tree e op f) ∙ ap (list_all is_right) (uses-One (world_of_tree tree) op (formula_of tree f e) (domains_of tree e))
    ∙ part e (sym (in-One (kind_finding tree) e op f) ∙ clean)

fine_far : (tree : SpecTree) (op : FarOp) (f : FormulaTree) (t : TermTree) → Fine tree f → Fine tree (formula.Far op f t)
unfolding Fine
fine_far tree op f t part e clean =
    let both = append_empty (places_in (kind_finding tree) f e) (places_in_term (kind_finding tree) t e role.Distance true) (sym (in-Far (kind_finding tree) e op f t) ∙ clean) in
    let first : List Use = uses (world_of_tree tree) (formula_of tree f e) (domains_of tree e) in
    let second : List Use = term_uses (world_of_tree tree) (domains_of tree e) true (term_of tree t e) in
    ap (formula_right tree e) (formula-Far tree e op f t)
    ∙ ap (list_all is_right) (uses-Far (world_of_tree tree) op (formula_of tree f e) (term_of tree t e) (domains_of tree e))
    ∙ and_from (is_right (required distance (kind_of tree e t))) (list_all is_right (first ++ second))
    (one_right (out-TermTree t).place (required distance (kind_of tree e t)) (role_right tree t e role.Distance true both.1))
    (all_both is_right first second (part e both.0) (term_right tree t e role.Distance true both.1))

-- two parts side by side
two_fine : (tree : SpecTree) (f g : FormulaTree) → Fine tree f → Fine tree g → (e : List Variable) →
    places_in (kind_finding tree) f e ++ places_in (kind_finding tree) g e ≡ [] →
    list_all is_right (uses (world_of_tree tree) (formula_of tree f e) (domains_of tree e) ++ uses (world_of_tree tree) (formula_of tree g e) (domains_of tree e)) ≡ true
unfolding Fine
two_fine tree f g left right e clean =
    let both = append_empty (places_in (kind_finding tree) f e) (places_in (kind_finding tree) g e) clean in
    all_both is_right (uses (world_of_tree tree) (formula_of tree f e) (domains_of tree e)) (uses (world_of_tree tree) (formula_of tree g e) (domains_of tree e))
    (left e both.0) (right e both.1)

fine_implies : (tree : SpecTree) (f g : FormulaTree) → Fine tree f → Fine tree g → Fine tree (formula.Implies f g)
unfolding Fine
fine_implies tree f g left right e clean =
    ap (formula_right tree e) (formula-Implies tree e f g)
    ∙ ap (list_all is_right) (uses-Implies (world_of_tree tree) (formula_of tree f e) (formula_of tree g e) (domains_of tree e))
    ∙ two_fine tree f g left right e (sym (in-Implies (kind_finding tree) e f g) ∙ clean)

fine_iff : (tree : SpecTree) (f g : FormulaTree) → Fine tree f → Fine tree g → Fine tree (formula.Iff f g)
unfolding Fine
fine_iff tree f g left right e clean =
    ap (formula_right tree e) (formula-Iff tree e f g)
    ∙ ap (list_all is_right) (uses-Iff (world_of_tree tree) (formula_of tree f e) (formula_of tree g e) (domains_of tree e))
    ∙ two_fine tree f g left right e (sym (in-Iff (kind_finding tree) e f g) ∙ clean)

fine_pair : (tree : SpecTree) (op : PairOp) (f g : FormulaTree) → Fine tree f → Fine tree g → Fine tree (formula.Pair op f g)
unfolding Fine
fine_pair tree op f g left right e clean =
    ap (formula_right tree e) (formula-Pair tree e op f g)
    ∙ ap (list_all is_right) (uses-Pair (world_of_tree tree) op (formula_of tree f e) (formula_of tree g e) (domains_of tree e))
    ∙ two_fine tree f g left right e (sym (in-Pair (kind_finding tree) e op f g) ∙ clean)

fine_quantified : (tree : SpecTree) (q : Quantifier) (x : Mention) (r : RefTree) (f : FormulaTree) → Fine tree f → Fine tree (formula.Quantified q x r f)
unfolding Fine
fine_quantified tree q x r f part e clean = ap (formula_right tree e) (formula-Quantified tree e q x r f) ∙ by q
  where
    under : List Variable
    under = e ++ record { name = x.name; domain = r } ∷ []

    both : (wrong_places (ref_uses tree r) ≡ []) × (places_in (kind_finding tree) f under ≡ [])
    both = append_empty (wrong_places (ref_uses tree r)) (places_in (kind_finding tree) f under) (sym (in-Quantified (kind_finding tree) e q x r f) ∙ clean)

    body : list_all is_right (of_domain (kind_in (world_of_tree tree) (domain_of tree r))
        ∷ uses (world_of_tree tree) (formula_of tree f under) (domains_of tree e ++ domain_of tree r ∷ [])) ≡ true
    body =
        and_from (is_right (of_domain (kind_in (world_of_tree tree) (domain_of tree r))))
        (list_all is_right (uses (world_of_tree tree) (formula_of tree f under) (domains_of tree e ++ domain_of tree r ∷ []))) (ref_right tree r both.0)
        (ap (λ ds. list_all is_right (uses (world_of_tree tree) (formula_of tree f under) ds))
        (sym (map-append (λ (v : Variable). domain_of tree v.domain) e (record { name = x.name; domain = r } ∷ []))) ∙ part under both.1)

    by : (q : Quantifier) → formula_right tree e (quantified q x.name (domain_of tree r) (formula_of tree f under)) ≡ true
    by quantifier.All = ap (list_all is_right) (uses-All (world_of_tree tree) x.name (domain_of tree r) (formula_of tree f under) (domains_of tree e)) ∙ body
    by quantifier.Ex = ap (list_all is_right) (uses-Ex (world_of_tree tree) x.name (domain_of tree r) (formula_of tree f under) (domains_of tree e)) ∙ body

-- parts in a row
all_fine : (tree : SpecTree) (e : List Variable) (xs : List (FinePart tree)) → flat_map (λ f. places_in (kind_finding tree) f e) (map (λ x. x.0) xs) ≡ [] →
    list_all is_right (flat_map (λ f. uses (world_of_tree tree) f (domains_of tree e)) (map (λ f. formula_of tree f e) (map (λ x. x.0) xs))) ≡ true
unfolding Fine
all_fine tree e [] clean = refl
all_fine tree e (x ∷ xs) clean =
    let both = append_empty (places_in (kind_finding tree) x.0 e) (flat_map (λ f. places_in (kind_finding tree) f e) (map (λ x. x.0) xs)) clean in
    all_both is_right (uses (world_of_tree tree) (formula_of tree x.0 e) (domains_of tree e))
    (flat_map (λ f. uses (world_of_tree tree) f (domains_of tree e)) (map (λ f. formula_of tree f e) (map (λ x. x.0) xs)))
    (x.1 e both.0) (all_fine tree e xs both.1)

fine_and : (tree : SpecTree) (xs : List (FinePart tree)) → Fine tree (formula.And (map (λ x. x.0) xs))
unfolding Fine
fine_and tree xs e clean =
    let fs : List FormulaTree = map (λ x. x.0) xs in
    ap (formula_right tree e) (formula-And tree e fs)
    ∙ ap (list_all is_right) (uses-And (world_of_tree tree) (map (λ f. formula_of tree f e) fs) (domains_of tree e))
    ∙ all_fine tree e xs (sym (in-And (kind_finding tree) e fs) ∙ clean)

fine_or : (tree : SpecTree) (xs : List (FinePart tree)) → Fine tree (formula.Or (map (λ x. x.0) xs))
unfolding Fine
fine_or tree xs e clean =
    let fs : List FormulaTree = map (λ x. x.0) xs in
    ap (formula_right tree e) (formula-Or tree e fs)
    ∙ ap (list_all is_right) (uses-Or (world_of_tree tree) (map (λ f. formula_of tree f e) fs) (domains_of tree e))
    ∙ all_fine tree e xs (sym (in-Or (kind_finding tree) e fs) ∙ clean)

-- by induction over formulas
all_formulas : (tree : SpecTree) (f : FormulaTree) → Fine tree f
all_formulas tree = ind-FormulaTree (Fine tree) (λ x y is. subst (λ z. Fine tree (roll-FormulaTree z)) is (each y))
  where
    each : (y : FormulaTree-F (FinePart tree)) → Fine tree (roll-FormulaTree (map-FormulaTree (FinePart tree) FormulaTree (λ x. x.0) y))
    each (open_formula.Lone t) = subst (Fine tree) (sym (formula.rolls-Lone t)) (fine_lone tree t)
    each (open_formula.Compare rel p t u) = subst (Fine tree) (sym (formula.rolls-Compare rel p t u)) (fine_compare tree rel p t u)
    each (open_formula.Not x) = subst (Fine tree) (sym (formula.rolls-Not x.0)) (fine_not tree x.0 x.1)
    each (open_formula.And xs) = subst (Fine tree) (sym (formula.rolls-And (map (λ x. x.0) xs))) (fine_and tree xs)
    each (open_formula.Or xs) = subst (Fine tree) (sym (formula.rolls-Or (map (λ x. x.0) xs))) (fine_or tree xs)
    each (open_formula.Implies x y) = subst (Fine tree) (sym (formula.rolls-Implies x.0 y.0)) (fine_implies tree x.0 y.0 x.1 y.1)
    each (open_formula.Iff x y) = subst (Fine tree) (sym (formula.rolls-Iff x.0 y.0)) (fine_iff tree x.0 y.0 x.1 y.1)
    each (open_formula.Quantified q m r x) = subst (Fine tree) (sym (formula.rolls-Quantified q m r x.0)) (fine_quantified tree q m r x.0 x.1)
    each (open_formula.One op x) = subst (Fine tree) (sym (formula.rolls-One op x.0)) (fine_one tree op x.0 x.1)
    each (open_formula.Far op x t) = subst (Fine tree) (sym (formula.rolls-Far op x.0 t)) (fine_far tree op x.0 t x.1)
    each (open_formula.Pair op x y) = subst (Fine tree) (sym (formula.rolls-Pair op x.0 y.0)) (fine_pair tree op x.0 y.0 x.1 y.1)

-- all that a formula uses is right where no place in it is wrong
pub formula_uses_right : (tree : SpecTree) (f : FormulaTree) (e : List Variable) → places_in (kind_finding tree) f e ≡ [] →
    list_all is_right (uses (world_of_tree tree) (formula_of tree f e) (domains_of tree e)) ≡ true
unfolding Fine
formula_uses_right tree f = all_formulas tree f

-- axioms, goals and items
module _ (tree : SpecTree) where
  abbrev claim_uses : Axiom → List Use
  claim_uses a = uses (world_of_tree tree) a.formula []

  claims_right : (goals : Bool) (cs : List ClaimTree) → flat_map (λ (c : ClaimTree). places_in (kind_finding tree) c.formula []) cs ≡ [] →
      list_all is_right (flat_map claim_uses (claims_from tree goals cs)) ≡ true
  claims_right goals [] clean = refl
  claims_right goals (c ∷ cs) clean =
      let both = append_empty (places_in (kind_finding tree) c.formula []) (flat_map (λ (c : ClaimTree). places_in (kind_finding tree) c.formula []) cs) clean in
      by (is_wanted goals c) (formula_uses_right tree c.formula [] both.0) (claims_right goals cs both.1)
    where
      by : (b : Bool) → list_all is_right (claim_uses (axiom_from tree c)) ≡ true → list_all is_right (flat_map claim_uses (claims_from tree goals cs)) ≡ true →
          list_all is_right (flat_map claim_uses (map (axiom_from tree) (if b then c ∷ filter (is_wanted goals) cs else filter (is_wanted goals) cs))) ≡ true
      by true here rest = all_both is_right (claim_uses (axiom_from tree c)) (flat_map claim_uses (claims_from tree goals cs)) here rest
      by false here rest = rest

  refs_right : (rs : List RefTree) → flat_map (λ r. wrong_places (ref_uses tree r)) rs ≡ [] →
      list_all is_right (map (λ d. of_domain (kind_in (world_of_tree tree) d)) (map (domain_of tree) rs)) ≡ true
  refs_right [] clean = refl
  refs_right (r ∷ rs) clean =
      let both = append_empty (wrong_places (ref_uses tree r)) (flat_map (λ r. wrong_places (ref_uses tree r)) rs) clean in
      and_from (is_right (of_domain (kind_in (world_of_tree tree) (domain_of tree r))))
      (list_all is_right (map (λ d. of_domain (kind_in (world_of_tree tree) d)) (map (domain_of tree) rs))) (ref_right tree r both.0) (refs_right rs both.1)

  abbrev wrong_refs : DeclarationTree → List ℕ
  wrong_refs s = flat_map (λ r. wrong_places (ref_uses tree r)) (refs_of s)

  items_right : (ds : List DeclarationTree) → flat_map wrong_refs ds ≡ [] →
      list_all is_right (flat_map (item_uses (world_of_tree tree)) (map (item_from tree) (items_in ds))) ≡ true
  items_right [] clean = refl
  items_right (statement.Domain d ∷ ds) clean = items_right ds clean
  items_right (statement.Item i ∷ ds) clean =
      let both = append_empty (wrong_refs (statement.Item i)) (flat_map wrong_refs ds) clean in
      all_both is_right (item_uses (world_of_tree tree) (item_from tree i)) (flat_map (item_uses (world_of_tree tree)) (map (item_from tree) (items_in ds)))
      (ap (λ ns. list_all is_right (map (λ d. of_domain (kind_in (world_of_tree tree) d)) ns)) (sym (map-append (domain_of tree) i.args (i.value ∷ [])))
      ∙ refs_right (i.args ++ i.value ∷ []) both.0) (items_right ds both.1)

-- where no place is wrong, all uses are right
pub kinds_without_fault : (tree : SpecTree) → kind_places tree ≡ [] → kinds_are_right (parts_of_tree tree) ≡ true
unfolding kind_places parts_of_tree
kinds_without_fault tree clean =
    let both = append_empty (flat_map (wrong_refs tree) tree.declarations) (places_in_claims (kind_finding tree) tree) clean in
    let axioms : List Axiom = claims_from tree false tree.claims in
    let goals : List Axiom = claims_from tree true tree.claims in
    all_both is_right (flat_map (item_uses (world_of_tree tree)) (map (item_from tree) (items_in tree.declarations)))
    (flat_map (claim_uses tree) (axioms ++ goals)) (items_right tree tree.declarations both.0)
    (ap (list_all is_right) (flat_map-append (claim_uses tree) axioms goals)
    ∙ all_both is_right (flat_map (claim_uses tree) axioms) (flat_map (claim_uses tree) goals)
    (claims_right tree false tree.claims both.1) (claims_right tree true tree.claims both.1))

-- the kinds of a sound tree's parts are right
pub kinds_formed : (tree : SpecTree) → IsSound tree → kinds_are_right (parts_of_tree tree) ≡ true
kinds_formed tree is = kinds_without_fault tree (least_none (kind_places tree) (clean tree is.sound).kinds)
