-- Where the names of its parts are distinct and its variables new, no name of a tree stands twice.
use Rattle.std.proofs.Common.{◌≡◌, ℕ, ◌+◌, Bool, true, false, not, ◌&&◌, ◌||◌, if◌then◌else◌, List, [], ◌∷◌, ◌++◌, map, filter, refl, sym, ap, ◌∙◌, append_assoc}
use Rattle.std.specs.List.{list_all, list_any, flat_map}
use Rattle.std.specs.Str.{bytes_eq}
use Rattle.std.proofs.lemmas.Bool.{and_parts, and_from, or_parts, not-true, not_from_false}
use Rattle.std.proofs.lemmas.List.{append-nil, map-append}
use Rattle.std.proofs.lemmas.List.Folds.{list_all-map, list_any-append}
use Rattle.trio_types.specs.declared.spec.Item.{Item}
use Rattle.trio_types.specs.declared.spec.Axiom.{Axiom}
use Rattle.trio_types.specs.Names.{words_of, names_of_domain, declared_names, are_distinct, is_new, variables_are_new}
use Rattle.trio_types.specs.WellFormed.{names_are_distinct, variables_are_distinct}
use Rattle.trio_types.proofs.Lists.{list_any-map, any_same}
use Rattle.trio_types.proofs.NamesAt.{variables_are_new-Not, variables_are_new-And, variables_are_new-Or, variables_are_new-Implies, variables_are_new-Iff, variables_are_new-One, variables_are_new-Far, variables_are_new-Pair}
use Rattle.trio_syntax.specs.declared.tree.TermTree.{TermTree, out-TermTree}
use Rattle.trio_syntax.specs.declared.tree.TermShape.{TermShape}
use Rattle.trio_syntax.specs.declared.tree.PartTree.{out-PartTree}
use Rattle.trio_syntax.specs.declared.tree.FormulaTree.{FormulaTree}
use Rattle.trio_syntax.specs.declared.tree.DomainTree.{DomainTree}
use Rattle.trio_syntax.specs.declared.tree.ItemTree.{ItemTree}
use Rattle.trio_syntax.specs.declared.tree.DeclarationTree.{DeclarationTree}
use Rattle.trio_syntax.specs.declared.tree.DeclarationTree.TheVariants as statement
use Rattle.trio_syntax.specs.declared.tree.ClaimTree.{ClaimTree}
use Rattle.trio_syntax.specs.declared.tree.SpecTree.{SpecTree}
use Rattle.trio_scope.specs.declared.meaning.Meaning.TheVariants as meaning
use Rattle.trio_scope.specs.declared.walk.Role.{Role}
use Rattle.trio_scope.specs.declared.walk.Role.TheVariants as role
use Rattle.trio_scope.specs.Places.{unless}
use Rattle.trio_scope.specs.Names.{Declaration, declaration, declared_words, declared_from, declarations, domains_in, items_in, is_declared, repeated_behind}
use Rattle.trio_scope.specs.Gather.{Variable, Finding, places_in, places_in_term, places_in_shape, places_in_claims}
use Rattle.trio_scope.specs.Scope.{is_variable, twice_finding, repeated_places}
use Rattle.trio_scope.proofs.Gathers.{in-term, in-Number, in-Truth, in-Named, in-Call, in-Sum, in-Times, in-Lone, in-Compare, in-Not, in-And, in-Or, in-Implies, in-Iff, in-Quantified, in-One, in-Far, in-Pair}
use Rattle.trio_reader.specs.Erasure.{values_kind, domain_from, item_from, axiom_from, is_wanted, claims_from, term_of, formula_of, domain_of, parts_of_tree}
use Rattle.trio_reader.proofs.Erased.{formula-Not, formula-And, formula-Or, formula-Implies, formula-Iff, formula-Quantified, formula-One, formula-Far, formula-Pair}
use Rattle.trio_types.proofs.Inductions.{Each}
use Rattle.trio_reader.proofs.FormedCases.{FormulaCases, every_formula, TermCases, every_shape, term_in}
use Rattle.trio_reader.proofs.FormedVariables.{quantified_new}
use Rattle.trio_reader.proofs.FormedNames.{same_names, same_declared, names_of, words_names, any_named}
use Rattle.trio_canonical.proofs.SoundPhases.{both_empty, passes, each_empty, all_empty, claims_each}

-- a name among distinct names: it is none of the others, and these are distinct
one_less : (front rest : List (List ℕ)) (n : List ℕ) → are_distinct (front ++ n ∷ rest) ≡ true →
    (list_any (bytes_eq n) (front ++ rest) ≡ false) × (are_distinct (front ++ rest) ≡ true)
one_less [] rest n is =
    let both = and_parts (not (list_any (bytes_eq n) rest)) (are_distinct rest) is in (not-true (list_any (bytes_eq n) rest) both.0, both.1)
one_less (x ∷ front) rest n is =
    let both = and_parts (not (list_any (bytes_eq x) (front ++ n ∷ rest))) (are_distinct (front ++ n ∷ rest)) is in
    let later = one_less front rest n both.1 in
    let p = or_parts (list_any (bytes_eq x) front) (bytes_eq x n || list_any (bytes_eq x) rest)
    (sym (list_any-append (bytes_eq x) front (n ∷ rest)) ∙ not-true (list_any (bytes_eq x) (front ++ n ∷ rest)) both.0) in
    let q = or_parts (bytes_eq x n) (list_any (bytes_eq x) rest) p.1 in (
      rw (same_names n x, q.0, later.0) refl,
      and_from (not (list_any (bytes_eq x) (front ++ rest))) (are_distinct (front ++ rest))
          (not_from_false (list_any (bytes_eq x) (front ++ rest)) (list_any-append (bytes_eq x) front rest ∙ rw (p.0, q.1) refl)) later.1,
    )

one_more : (front rest : List (List ℕ)) (n : List ℕ) → list_any (bytes_eq n) (front ++ rest) ≡ false → are_distinct (front ++ rest) ≡ true →
    are_distinct (front ++ n ∷ rest) ≡ true
one_more [] rest n new is = and_from (not (list_any (bytes_eq n) rest)) (are_distinct rest) (not_from_false (list_any (bytes_eq n) rest) new) is
one_more (x ∷ front) rest n new is =
    let both = and_parts (not (list_any (bytes_eq x) (front ++ rest))) (are_distinct (front ++ rest)) is in
    let p = or_parts (bytes_eq n x) (list_any (bytes_eq n) (front ++ rest)) new in
    let q = or_parts (list_any (bytes_eq x) front) (list_any (bytes_eq x) rest)
    (sym (list_any-append (bytes_eq x) front rest) ∙ not-true (list_any (bytes_eq x) (front ++ rest)) both.0) in
    and_from (not (list_any (bytes_eq x) (front ++ n ∷ rest))) (are_distinct (front ++ n ∷ rest))
    (not_from_false (list_any (bytes_eq x) (front ++ n ∷ rest)) (list_any-append (bytes_eq x) front (n ∷ rest) ∙ rw (q.0, same_names x n, p.0, q.1) refl))
    (one_more front rest n p.1 both.1)

-- a name that moves to the left
moved : (front middle rest : List (List ℕ)) (n : List ℕ) → are_distinct (front ++ (middle ++ n ∷ rest)) ≡ true → are_distinct (front ++ n ∷ (middle ++ rest)) ≡ true
moved front middle rest n is =
    let less = one_less (front ++ middle) rest n (ap are_distinct (append_assoc front middle (n ∷ rest)) ∙ is) in
    let same = append_assoc front middle rest in
    one_more front (middle ++ rest) n (ap (list_any (bytes_eq n)) (sym same) ∙ less.0) (ap are_distinct (sym same) ∙ less.1)

-- where the names of declarations are distinct, none is repeated
none_repeated : (front ds : List Declaration) → are_distinct (names_of (front ++ ds)) ≡ true → repeated_behind front ds ≡ []
none_repeated front [] is = refl
none_repeated front (d ∷ ds) is =
    let less = one_less (names_of front) (names_of ds) d.name
    (ap are_distinct (sym (map-append (λ (x : Declaration). x.name) front (d ∷ ds))) ∙ is) in
    let apart = or_parts (list_any (bytes_eq d.name) (names_of front)) (list_any (bytes_eq d.name) (names_of ds))
    (sym (list_any-append (bytes_eq d.name) (names_of front) (names_of ds)) ∙ less.0) in
    both_empty (unless (not (is_declared front d.name)) d.declared.place) (repeated_behind (front ++ d ∷ []) ds)
    (passes (not (is_declared front d.name)) d.declared.place
    (not_from_false (is_declared front d.name) (sym (any_named d.name front) ∙ apart.0)))
    (none_repeated (front ++ d ∷ []) ds (ap (λ xs. are_distinct (names_of xs)) (append_assoc front (d ∷ []) ds) ∙ is))

-- domains before items
abbrev pub in_order : List DomainTree → List ItemTree → List DeclarationTree
in_order ds is = map statement.Domain ds ++ map statement.Item is

pub domains_in_order : (ds : List DomainTree) (is : List ItemTree) → domains_in (in_order ds is) ≡ ds
domains_in_order [] is = none is
  where
    none : (is : List ItemTree) → domains_in (map statement.Item is) ≡ []
    none [] = refl
    none (i ∷ is) = none is
domains_in_order (d ∷ ds) is = ap (λ xs. d ∷ xs) (domains_in_order ds is)

pub items_in_order : (ds : List DomainTree) (is : List ItemTree) → items_in (in_order ds is) ≡ is
items_in_order [] is = all is
  where
    all : (is : List ItemTree) → items_in (map statement.Item is) ≡ is
    all [] = refl
    all (i ∷ is) = ap (λ xs. i ∷ xs) (all is)
items_in_order (d ∷ ds) is = items_in_order ds is

module _ (tree : SpecTree) where
  abbrev item_names : List ItemTree → List (List ℕ)
  item_names is = map (λ (item : Item). item.name) (map (item_from tree) is)

  items_declare : (domains items : ℕ) (is : List ItemTree) → names_of (declared_from domains items (map statement.Item is)) ≡ item_names is
  items_declare domains items [] = refl
  items_declare domains items (i ∷ is) = ap (λ ns. i.name.name ∷ ns) (items_declare domains (items + 1) is)

  statements_declare : (domains : ℕ) (ds : List DomainTree) (is : List ItemTree) →
      names_of (declared_from domains 0 (in_order ds is)) ≡ flat_map names_of_domain (map domain_from ds) ++ item_names is
  statements_declare domains [] is = items_declare domains 0 is
  statements_declare domains (d ∷ ds) is =
      let rest : List Declaration = declared_from (domains + 1) 0 (in_order ds is) in
      let words : List (List ℕ) = words_of (values_kind d.values) in
      ap (λ ns. d.name.name ∷ ns)
      (map-append (λ (x : Declaration). x.name) (declared_words domains d.values) rest
      ∙ rw (words_names domains d.values, statements_declare (domains + 1) ds is)
      (sym (append_assoc words (flat_map names_of_domain (map domain_from ds)) (item_names is))))

  -- axioms and goals, as they stand in the tree and one after the other
  abbrev claim_names : Bool → List ClaimTree → List (List ℕ)
  claim_names goals claims = map (λ (a : Axiom). a.name) (claims_from tree goals claims)

  abbrev own_names : List ClaimTree → List (List ℕ)
  own_names claims = names_of (map (λ (c : ClaimTree). declaration c.name meaning.Claim) claims)

  one_claim : (front : List (List ℕ)) (b : Bool) (c : ClaimTree) (axioms goals : List ClaimTree) →
      are_distinct (front ++ (map (λ (a : Axiom). a.name) (map (axiom_from tree) (if not b then c ∷ axioms else axioms))
      ++ map (λ (a : Axiom). a.name) (map (axiom_from tree) (if b then c ∷ goals else goals)))) ≡ true →
      are_distinct (front ++ c.name.name ∷ (map (λ (a : Axiom). a.name) (map (axiom_from tree) axioms) ++ map (λ (a : Axiom). a.name) (map (axiom_from tree) goals))) ≡ true
  one_claim front true c axioms goals is =
      moved front (map (λ (a : Axiom). a.name) (map (axiom_from tree) axioms)) (map (λ (a : Axiom). a.name) (map (axiom_from tree) goals)) c.name.name is
  one_claim front false c axioms goals is = is

  claims_distinct : (front : List (List ℕ)) (claims : List ClaimTree) → are_distinct (front ++ (claim_names false claims ++ claim_names true claims)) ≡ true →
      are_distinct (front ++ own_names claims) ≡ true
  claims_distinct front [] is = is
  claims_distinct front (c ∷ cs) is =
      ap are_distinct (sym (append_assoc front (c.name.name ∷ []) (own_names cs)))
      ∙ claims_distinct (front ++ c.name.name ∷ []) cs
      (ap are_distinct (append_assoc front (c.name.name ∷ []) (claim_names false cs ++ claim_names true cs))
      ∙ one_claim front c.goal c (filter (is_wanted false) cs) (filter (is_wanted true) cs) is)

  stated : List DeclarationTree → List (List ℕ)
  stated statements = flat_map names_of_domain (map domain_from (domains_in statements)) ++ item_names (items_in statements)

  stated_in_order : (ds : List DomainTree) (is : List ItemTree) → stated (in_order ds is) ≡ flat_map names_of_domain (map domain_from ds) ++ item_names is
  unfolding stated
  stated_in_order ds is = rw (domains_in_order ds is, items_in_order ds is) refl

  declarations_distinct : (ds : List DomainTree) (is : List ItemTree) → tree.declarations ≡ in_order ds is → names_are_distinct (parts_of_tree tree) ≡ true →
      are_distinct (names_of (declarations tree)) ≡ true
  unfolding parts_of_tree declarations stated
  declarations_distinct ds is order distinct =
      let names : List (List ℕ) = flat_map names_of_domain (map domain_from ds) ++ item_names is in
      let same : stated tree.declarations ≡ names = ap stated order ∙ stated_in_order ds is in
      ap are_distinct (map-append (λ (x : Declaration). x.name) (declared_from 1 0 tree.declarations) (map (λ (c : ClaimTree). declaration c.name meaning.Claim) tree.claims)
      ∙ ap (λ ns. ns ++ own_names tree.claims) (ap (λ s. names_of (declared_from 1 0 s)) order ∙ statements_declare 1 ds is))
      ∙ claims_distinct names tree.claims
      (ap are_distinct (sym (ap (λ ns. stated tree.declarations ++ ns)
      (map-append (λ (a : Axiom). a.name) (claims_from tree false tree.claims) (claims_from tree true tree.claims))
      ∙ ap (λ ns. ns ++ (claim_names false tree.claims ++ claim_names true tree.claims)) same)) ∙ distinct)

-- a rule that finds nothing at terms finds nothing in them
module _ (rule : Finding) (silent : (e : List Variable) (r : Role) (inside : Bool) (t : TermTree) → rule.term e r inside t ≡ []) where
  SilentShape : TermShape → Type 0
  SilentShape s = (e : List Variable) (inside : Bool) → places_in_shape rule s e inside ≡ []

  of_term : (t : TermTree) → SilentShape (out-TermTree t).shape → (e : List Variable) (r : Role) (inside : Bool) → places_in_term rule t e r inside ≡ []
  unfolding SilentShape
  of_term t is e r inside =
      in-term rule t e r inside
      ∙ both_empty (rule.term e r inside t) (places_in_shape rule (out-TermTree t).shape e inside) (silent e r inside t) (is e inside)

  each_silent : {X : Type 0} (P : X → Type 0) (found : X → List ℕ) → ((x : X) → P x → found x ≡ []) → (xs : List X) → Each P xs → flat_map found xs ≡ []
  each_silent P found give [] each = refl
  each_silent P found give (x ∷ xs) each = both_empty (found x) (flat_map found xs) (give x each.0) (each_silent P found give xs each.1)

  silent_cases : TermCases SilentShape
  unfolding SilentShape
  silent_cases = record {
    at_number = λ n e inside. in-Number rule e inside n;
    at_truth = λ b e inside. in-Truth rule e inside b;
    at_named = λ m e inside. in-Named rule e inside m;
    at_call = λ m args each e inside.
        in-Call rule e inside m args
        ∙ each_silent (λ t. SilentShape (out-TermTree t).shape) (λ t. places_in_term rule t e role.Argument true) (λ t is. of_term t is e role.Argument true) args each;
    at_sum = λ ps each e inside.
        in-Sum rule e inside ps
        ∙ each_silent (λ p. SilentShape (term_in p)) (λ p. places_in_term rule (out-PartTree p).term e role.Part inside)
        (λ p is. of_term (out-PartTree p).term is e role.Part inside) ps each;
    at_times = λ n t is e inside. in-Times rule e inside n t ∙ of_term t is e role.Factor inside;
  }

  nothing_in_term : (t : TermTree) (e : List Variable) (r : Role) (inside : Bool) → places_in_term rule t e r inside ≡ []
  nothing_in_term t = of_term t (every_shape SilentShape silent_cases (out-TermTree t).shape)

-- variables
module _ (tree : SpecTree) where
  abbrev rule : Finding
  rule = twice_finding (declarations tree)

  -- the declared names, and those of the variables round a formula
  abbrev taken : List Variable → List (List ℕ)
  taken e = declared_names (parts_of_tree tree) ++ map (λ (v : Variable). v.name) e

  taken_more : (e : List Variable) (v : Variable) → taken (e ++ v ∷ []) ≡ taken e ++ v.name ∷ []
  taken_more e v =
      ap (λ ns. declared_names (parts_of_tree tree) ++ ns) (map-append (λ (v : Variable). v.name) e (v ∷ []))
      ∙ sym (append_assoc (declared_names (parts_of_tree tree)) (map (λ (v : Variable). v.name) e) (v.name ∷ []))

  is_taken : (e : List Variable) (name : List ℕ) → list_any (bytes_eq name) (taken e) ≡ (is_declared (declarations tree) name || is_variable e name)
  is_taken e name =
      list_any-append (bytes_eq name) (declared_names (parts_of_tree tree)) (map (λ (v : Variable). v.name) e)
      ∙ rw (
        same_declared tree name,
        list_any-map (bytes_eq name) (λ (v : Variable). v.name) e,
        any_same (λ (v : Variable). bytes_eq name v.name) (λ (v : Variable). bytes_eq v.name name) (λ v. same_names name v.name) e,
      ) refl

  CleanFormula : FormulaTree → Type 0
  CleanFormula f = (e : List Variable) → variables_are_new (formula_of tree f e) (taken e) ≡ true → places_in rule f e ≡ []

  nothing_at : (t : TermTree) (e : List Variable) (r : Role) (inside : Bool) → places_in_term rule t e r inside ≡ []
  nothing_at = nothing_in_term rule (λ e r inside t. refl)

  each_clean : (fs : List FormulaTree) → Each CleanFormula fs → (e : List Variable) →
      list_all (λ f. variables_are_new f (taken e)) (map (λ f. formula_of tree f e) fs) ≡ true → flat_map (λ f. places_in rule f e) fs ≡ []
  unfolding CleanFormula
  each_clean fs each e all =
      each_empty CleanFormula (λ f. places_in rule f e) (λ f. variables_are_new (formula_of tree f e) (taken e)) (λ f is yes. is e yes) fs each
      (sym (list_all-map (λ f. variables_are_new f (taken e)) (λ f. formula_of tree f e) fs) ∙ all)

  both_clean : (f g : FormulaTree) → CleanFormula f → CleanFormula g → (e : List Variable) →
      (variables_are_new (formula_of tree f e) (taken e) && variables_are_new (formula_of tree g e) (taken e)) ≡ true → places_in rule f e ++ places_in rule g e ≡ []
  unfolding CleanFormula
  both_clean f g first second e all =
      let both = and_parts (variables_are_new (formula_of tree f e) (taken e)) (variables_are_new (formula_of tree g e) (taken e)) all in
      both_empty (places_in rule f e) (places_in rule g e) (first e both.0) (second e both.1)

  formula_cases : FormulaCases CleanFormula
  unfolding CleanFormula
  formula_cases = record {
    at_lone = λ t e all. in-Lone rule e t ∙ nothing_at t e role.Alone false;
    at_compare = λ rel p t u e all.
        in-Compare rule e rel p t u
        ∙ both_empty (places_in_term rule t e role.Compared false) (places_in_term rule u e role.Compared false)
        (nothing_at t e role.Compared false) (nothing_at u e role.Compared false);
    at_not = λ f is e all.
        in-Not rule e f
        ∙ is e (sym (ap (λ f. variables_are_new f (taken e)) (formula-Not tree e f) ∙ variables_are_new-Not (formula_of tree f e) (taken e)) ∙ all);
    at_and = λ fs each e all.
        in-And rule e fs
        ∙ each_clean fs each e
        (sym (ap (λ f. variables_are_new f (taken e)) (formula-And tree e fs) ∙ variables_are_new-And (map (λ f. formula_of tree f e) fs) (taken e)) ∙ all);
    at_or = λ fs each e all.
        in-Or rule e fs
        ∙ each_clean fs each e
        (sym (ap (λ f. variables_are_new f (taken e)) (formula-Or tree e fs) ∙ variables_are_new-Or (map (λ f. formula_of tree f e) fs) (taken e)) ∙ all);
    at_implies = λ f g first second e all.
        in-Implies rule e f g
        ∙ both_clean f g first second e
        (sym (ap (λ f. variables_are_new f (taken e)) (formula-Implies tree e f g)
        ∙ variables_are_new-Implies (formula_of tree f e) (formula_of tree g e) (taken e)) ∙ all);
    at_iff = λ f g first second e all.
        in-Iff rule e f g
        ∙ both_clean f g first second e
        (sym (ap (λ f. variables_are_new f (taken e)) (formula-Iff tree e f g)
        ∙ variables_are_new-Iff (formula_of tree f e) (formula_of tree g e) (taken e)) ∙ all);
    at_quantified = λ q x ref f is e all.
        let v : Variable = record { name = x.name; domain = ref } in
        let known : Bool = is_declared (declarations tree) x.name || is_variable e x.name in
        let both = and_parts (is_new x.name (taken e)) (variables_are_new (formula_of tree f (e ++ v ∷ [])) (taken e ++ x.name ∷ []))
        (sym (ap (λ f. variables_are_new f (taken e)) (formula-Quantified tree e q x ref f)
        ∙ quantified_new q x.name (domain_of tree ref) (formula_of tree f (e ++ v ∷ [])) (taken e)) ∙ all) in
        in-Quantified rule e q x ref f
        ∙ both_empty (unless (not known) x.place) (places_in rule f (e ++ v ∷ []))
        (passes (not known) x.place (ap not (sym (is_taken e x.name)) ∙ both.0))
        (is (e ++ v ∷ []) (ap (variables_are_new (formula_of tree f (e ++ v ∷ []))) (taken_more e v) ∙ both.1));
    at_one = λ op f is e all.
        in-One rule e op f
        ∙ is e (sym (ap (λ f. variables_are_new f (taken e)) (formula-One tree e op f) ∙ variables_are_new-One op (formula_of tree f e) (taken e)) ∙ all);
    at_far = λ op f t is e all.
        in-Far rule e op f t
        ∙ both_empty (places_in rule f e) (places_in_term rule t e role.Distance true)
        (is e (sym (ap (λ f. variables_are_new f (taken e)) (formula-Far tree e op f t)
        ∙ variables_are_new-Far op (formula_of tree f e) (term_of tree t e) (taken e)) ∙ all))
        (nothing_at t e role.Distance true);
    at_pair = λ op f g first second e all.
        in-Pair rule e op f g
        ∙ both_clean f g first second e
        (sym (ap (λ f. variables_are_new f (taken e)) (formula-Pair tree e op f g)
        ∙ variables_are_new-Pair op (formula_of tree f e) (formula_of tree g e) (taken e)) ∙ all);
  }

  clean_claim : (c : ClaimTree) → variables_are_new (formula_of tree c.formula []) (declared_names (parts_of_tree tree)) ≡ true → places_in rule c.formula [] ≡ []
  unfolding CleanFormula
  clean_claim c is =
      every_formula CleanFormula formula_cases c.formula []
      (ap (variables_are_new (formula_of tree c.formula [])) (append-nil (declared_names (parts_of_tree tree))) ∙ is)

  no_variable_twice : variables_are_distinct (parts_of_tree tree) ≡ true → places_in_claims rule tree ≡ []
  unfolding parts_of_tree
  no_variable_twice all =
      all_empty (λ c. places_in rule c.formula []) (λ c. variables_are_new (formula_of tree c.formula []) (declared_names (parts_of_tree tree)))
      (λ c is. clean_claim c is) tree.claims
      (claims_each tree (λ (a : Axiom). variables_are_new a.formula (declared_names (parts_of_tree tree))) tree.claims all)

  -- no name stands twice
  pub no_name_twice : (ds : List DomainTree) (is : List ItemTree) → tree.declarations ≡ in_order ds is → names_are_distinct (parts_of_tree tree) ≡ true →
      variables_are_distinct (parts_of_tree tree) ≡ true → repeated_places tree ≡ []
  unfolding repeated_places
  no_name_twice ds is order distinct new =
      both_empty (repeated_behind [] (declarations tree)) (places_in_claims rule tree)
      (none_repeated [] (declarations tree) (declarations_distinct tree ds is order distinct)) (no_variable_twice new)
