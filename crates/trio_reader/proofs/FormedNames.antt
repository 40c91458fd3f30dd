-- What a tree declares and what its parts declare are the same names as often, and names are names.
use Rattle.std.proofs.Common.{◌≡◌, ℕ, ◌+◌, ◌≤◌, Bool, true, false, not, ◌&&◌, ◌||◌, nat_lt, if◌then◌else◌, List, [], ◌∷◌, ◌++◌, map, filter, None, refl, sym, ap, ◌∙◌, ⊎_elim, arith}
use Rattle.std.specs.List.{list_all, list_any, flat_map}
use Rattle.std.specs.Str.{bytes_eq}
use Rattle.std.proofs.lemmas.Bool.{and_parts, and_from, or_parts, not-true, not_from_false, cases_Bool, lt-ltb, le-ltb, ltb-false}
use Rattle.std.proofs.lemmas.Bool.Decides.{same_from_decides, Decides-like}
use Rattle.std.proofs.lemmas.List.{map-append}
use Rattle.std.proofs.lemmas.List.Folds.{list_all-append, list_all-map, list_any-append}
use Rattle.std.proofs.lemmas.Slice.Eq.{bytes_eq-Decides}
use Rattle.trio_base.specs.Names.{is_name}
use Rattle.trio_types.specs.declared.spec.Item.{Item}
use Rattle.trio_types.specs.declared.spec.Axiom.{Axiom}
use Rattle.trio_types.specs.Names.{words_of, names_of_domain, declared_names, are_distinct, variables_of}
use Rattle.trio_types.specs.WellFormed.{names_are_names, names_are_distinct}
use Rattle.trio_syntax.specs.declared.tree.Mention.{Mention}
use Rattle.trio_syntax.specs.declared.tree.ValuesTree.{ValuesTree}
use Rattle.trio_syntax.specs.declared.tree.ValuesTree.TheVariants as values
use Rattle.trio_syntax.specs.declared.tree.DeclarationTree.{DeclarationTree}
use Rattle.trio_syntax.specs.declared.tree.DeclarationTree.TheVariants as statement
use Rattle.trio_syntax.specs.declared.tree.ClaimTree.{ClaimTree}
use Rattle.trio_syntax.specs.declared.tree.SpecTree.{SpecTree}
use Rattle.trio_syntax.specs.Shape.{mentions_a_name, ref_is_formed, values_are_formed, declaration_is_formed, formula_is_formed, claim_is_formed, is_formed}
use Rattle.trio_scope.specs.declared.meaning.Meaning.TheVariants as meaning
use Rattle.trio_scope.specs.Places.{least, unless}
use Rattle.trio_scope.specs.Names.{Declaration, declaration, words_from, declared_words, declared_from, declarations, domains_in, items_in, is_declared, repeated_behind}
use Rattle.trio_scope.specs.Gather.{places_in_claims}
use Rattle.trio_scope.specs.Scope.{twice_finding, repeated_places}
use Rattle.trio_reader.specs.Erasure.{values_kind, domain_from, item_from, axiom_from, is_wanted, claims_from, parts_of_tree}
use Rattle.trio_reader.proofs.FormedPhases.{append_empty, unless_empty, least_none}
use Rattle.trio_reader.proofs.FormedNumbers.{flat_all}
use Rattle.trio_reader.proofs.FormedClaims.{claims_pass}
use Rattle.trio_reader.proofs.FormedShape.{named_claims}

-- how often a name stands among names
one_if : Bool → ℕ
one_if true = 1
one_if false = 0

times : List ℕ → List (List ℕ) → ℕ
times name [] = 0
times name (x ∷ xs) = one_if (bytes_eq name x) + times name xs

times-append : (name : List ℕ) (xs ys : List (List ℕ)) → times name (xs ++ ys) ≡ times name xs + times name ys
unfolding times
times-append name [] ys = omega arith
times-append name (x ∷ xs) ys = omega (arith, times-append name xs ys)

some_any : (b any : Bool) (n : ℕ) → any ≡ nat_lt 0 n → (b || any) ≡ nat_lt 0 (one_if b + n)
unfolding one_if
some_any true any n is = sym (lt-ltb 0 (1 + n) (omega arith))
some_any false any n is = is ∙ ap (nat_lt 0) (omega arith)

-- a name stands among names where it stands there once or more
any_times : (name : List ℕ) (xs : List (List ℕ)) → list_any (bytes_eq name) xs ≡ nat_lt 0 (times name xs)
unfolding times
any_times name [] = refl
any_times name (x ∷ xs) = some_any (bytes_eq name x) (list_any (bytes_eq name) xs) (times name xs) (any_times name xs)

itself : (name : List ℕ) → one_if (bytes_eq name name) ≡ 1
unfolding one_if
itself name = ap one_if ((bytes_eq-Decides name name).1 refl)

no_time : (name : List ℕ) (xs : List (List ℕ)) → list_any (bytes_eq name) xs ≡ false → times name xs ≡ 0
no_time name xs none = let past : times name xs ≤ 0 = ltb-false 0 (times name xs) (sym (any_times name xs) ∙ none) in omega arith

-- names are distinct where each stands once
distinct_once : (names : List (List ℕ)) → are_distinct names ≡ true → (name : List ℕ) → times name names ≤ 1
unfolding times one_if
distinct_once [] is name = omega arith
distinct_once (x ∷ xs) is name =
    let both = and_parts (not (list_any (bytes_eq x) xs)) (are_distinct xs) is in
    let none = no_time x xs (not-true (list_any (bytes_eq x) xs) both.0) in
    let before = distinct_once xs both.1 name in ⊎_elim
    (λ same. let e : one_if (bytes_eq name x) ≡ 1 = ap one_if same in
    let here : times name xs ≡ 0 = ap (λ n. times n xs) ((bytes_eq-Decides name x).0 same) ∙ none in omega arith)
    (λ other. let e : one_if (bytes_eq name x) ≡ 0 = ap one_if other in omega arith)
    (cases_Bool (bytes_eq name x))

once_distinct : (names : List (List ℕ)) → ((name : List ℕ) → times name names ≤ 1) → are_distinct names ≡ true
unfolding times
once_distinct [] once = refl
once_distinct (x ∷ xs) once =
    let here : times x xs ≤ 0 = omega (arith, once x, itself x) in
    and_from (not (list_any (bytes_eq x) xs)) (are_distinct xs)
    (not_from_false (list_any (bytes_eq x) xs) (any_times x xs ∙ le-ltb 0 (times x xs) here))
    (once_distinct xs (λ name. omega (arith, once name)))

-- the names of declarations
abbrev pub names_of : List Declaration → List (List ℕ)
names_of ds = map (λ d. d.name) ds

names_of-append : (xs ys : List Declaration) → names_of (xs ++ ys) ≡ names_of xs ++ names_of ys
names_of-append xs ys = map-append (λ (d : Declaration). d.name) xs ys

pub words_from_names : (domain index : ℕ) (ws : List Mention) → names_of (words_from domain index ws) ≡ map (λ (w : Mention). w.name) ws
words_from_names domain index [] = refl
words_from_names domain index (w ∷ ws) = ap (λ ns. w.name ∷ ns) (words_from_names domain (index + 1) ws)

pub words_names : (domain : ℕ) (v : ValuesTree) → names_of (declared_words domain v) ≡ words_of (values_kind v)
words_names domain (values.Range low high) = refl
words_names domain (values.Words ws) = words_from_names domain 0 ws

module _ (tree : SpecTree) where
  domain_names : List DeclarationTree → List (List ℕ)
  domain_names statements = flat_map names_of_domain (map domain_from (domains_in statements))

  item_names : List DeclarationTree → List (List ℕ)
  item_names statements = map (λ (item : Item). item.name) (map (item_from tree) (items_in statements))

  claim_names : Bool → List ClaimTree → List (List ℕ)
  claim_names goals claims = map (λ (a : Axiom). a.name) (claims_from tree goals claims)

  statements_same : (name : List ℕ) (domains items : ℕ) (statements : List DeclarationTree) →
      times name (names_of (declared_from domains items statements)) ≡ times name (domain_names statements) + times name (item_names statements)
  unfolding times domain_names item_names
  statements_same name domains items [] = omega arith
  statements_same name domains items (statement.Domain d ∷ rest) =
      let before = statements_same name (domains + 1) items rest in
      let first : times name (names_of (declared_words domains d.values ++ declared_from (domains + 1) items rest))
      ≡ times name (words_of (values_kind d.values)) + times name (names_of (declared_from (domains + 1) items rest)) =
      ap (times name) (names_of-append (declared_words domains d.values) (declared_from (domains + 1) items rest)
      ∙ ap (λ ns. ns ++ names_of (declared_from (domains + 1) items rest)) (words_names domains d.values))
      ∙ times-append name (words_of (values_kind d.values)) (names_of (declared_from (domains + 1) items rest)) in
      let second = times-append name (words_of (values_kind d.values)) (domain_names rest) in
      omega arith
  statements_same name domains items (statement.Item i ∷ rest) =
      let before = statements_same name domains (items + 1) rest in omega arith

  one_claim : (name : List ℕ) (b : Bool) (c : ClaimTree) (cs : List ClaimTree) →
      times name (map (λ (a : Axiom). a.name) (map (axiom_from tree) (if b then c ∷ cs else cs)))
      ≡ (if b then one_if (bytes_eq name c.name.name) else 0) + times name (map (λ (a : Axiom). a.name) (map (axiom_from tree) cs))
  unfolding times
  one_claim name true c cs = refl
  one_claim name false c cs = omega arith

  one_of_two : (b : Bool) (here x y z : ℕ) → x + y ≡ z → ((if not b then here else 0) + x) + ((if b then here else 0) + y) ≡ here + z
  one_of_two true here x y z is = omega arith
  one_of_two false here x y z is = omega arith

  claims_same : (name : List ℕ) (claims : List ClaimTree) →
      times name (claim_names false claims) + times name (claim_names true claims)
      ≡ times name (names_of (map (λ (c : ClaimTree). declaration c.name meaning.Claim) claims))
  unfolding times claim_names
  claims_same name [] = omega arith
  claims_same name (c ∷ cs) =
      rw (one_claim name (not c.goal) c (filter (is_wanted false) cs), one_claim name c.goal c (filter (is_wanted true) cs))
      (one_of_two c.goal (one_if (bytes_eq name c.name.name)) (times name (claim_names false cs)) (times name (claim_names true cs)) _ (claims_same name cs))

  -- each name is declared by the parts as often as by the tree
  same_times : (name : List ℕ) → times name (declared_names (parts_of_tree tree)) ≡ times name (names_of (declarations tree))
  unfolding parts_of_tree declarations domain_names item_names claim_names
  same_times name =
      let claimed = map (λ (c : ClaimTree). declaration c.name meaning.Claim) tree.claims in
      let stated = declared_from 1 0 tree.declarations in
      let a = times-append name (domain_names tree.declarations ++ item_names tree.declarations)
      (map (λ (a : Axiom). a.name) (claims_from tree false tree.claims ++ claims_from tree true tree.claims)) in
      let b = times-append name (domain_names tree.declarations) (item_names tree.declarations) in
      let c = ap (times name) (map-append (λ (a : Axiom). a.name) (claims_from tree false tree.claims) (claims_from tree true tree.claims)) in
      let d = times-append name (claim_names false tree.claims) (claim_names true tree.claims) in
      let e = statements_same name 1 0 tree.declarations in
      let f = claims_same name tree.claims in
      let g = ap (times name) (names_of-append stated claimed) ∙ times-append name (names_of stated) (names_of claimed) in
      omega (arith, a, b, c, d, e, f, g)

-- none of the later declarations has a name of these
Apart : List Declaration → List Declaration → Type 0
Apart front ds = list_all (λ d. not (is_declared front d.name)) ds ≡ true

none_equal : (front : List Declaration) (x : Declaration) (ds : List Declaration) → Apart (front ++ x ∷ []) ds →
    (list_any (bytes_eq x.name) (names_of ds) ≡ false) × Apart front ds
unfolding Apart
none_equal front x [] is = (refl, refl)
none_equal front x (d ∷ ds) is =
    let p = and_parts (not (is_declared (front ++ x ∷ []) d.name)) (list_all (λ d. not (is_declared (front ++ x ∷ []) d.name)) ds) is in
    let q = or_parts (is_declared front d.name) (is_declared (x ∷ []) d.name)
    (sym (list_any-append (λ (other : Declaration). bytes_eq other.name d.name) front (x ∷ [])) ∙ not-true (is_declared (front ++ x ∷ []) d.name) p.0) in
    let r = none_equal front x ds p.1 in (
      rw ((or_parts (bytes_eq x.name d.name) false q.1).0, r.0) refl,
      and_from (not (is_declared front d.name)) (list_all (λ d. not (is_declared front d.name)) ds) (ap not q.0) r.1,
    )

distinct_behind : (front ds : List Declaration) → repeated_behind front ds ≡ [] → (are_distinct (names_of ds) ≡ true) × Apart front ds
unfolding Apart
distinct_behind front [] none = (refl, refl)
distinct_behind front (d ∷ ds) none =
    let p = append_empty (unless (not (is_declared front d.name)) d.declared.place) (repeated_behind (front ++ d ∷ []) ds) none in
    let here = unless_empty (not (is_declared front d.name)) d.declared.place p.0 in
    let r = distinct_behind (front ++ d ∷ []) ds p.1 in
    let s = none_equal front d ds r.1 in (
      and_from (not (list_any (bytes_eq d.name) (names_of ds))) (are_distinct (names_of ds)) (ap not s.0) r.0,
      and_from (not (is_declared front d.name)) (list_all (λ d. not (is_declared front d.name)) ds) here s.1,
    )

-- nothing stands twice, list by list
pub record IsOnce (tree : SpecTree) : Type 0 where
  pub declared : repeated_behind [] (declarations tree) ≡ []
  pub variables : places_in_claims (twice_finding (declarations tree)) tree ≡ []

pub is_once : (tree : SpecTree) → least (repeated_places tree) ≡ None → IsOnce tree
unfolding repeated_places
is_once tree none =
    let both = append_empty (repeated_behind [] (declarations tree)) (places_in_claims (twice_finding (declarations tree)) tree) (least_none (repeated_places tree) none) in
    record { declared = both.0; variables = both.1 }

pub names_are_distinct_from_once : (tree : SpecTree) → least (repeated_places tree) ≡ None → names_are_distinct (parts_of_tree tree) ≡ true
names_are_distinct_from_once tree none =
    once_distinct (declared_names (parts_of_tree tree))
    (λ name. let once = distinct_once (names_of (declarations tree)) (distinct_behind [] (declarations tree) (is_once tree none).declared).0 name in
    omega (arith, once, same_times tree name))

pub same_names : (x y : List ℕ) → bytes_eq x y ≡ bytes_eq y x
same_names x y = same_from_decides (bytes_eq x y) (bytes_eq y x) (bytes_eq-Decides x y)
    (Decides-like (bytes_eq y x) sym sym (bytes_eq-Decides y x))

pub any_named : (name : List ℕ) (ds : List Declaration) → list_any (bytes_eq name) (names_of ds) ≡ is_declared ds name
any_named name [] = refl
any_named name (d ∷ ds) = rw (same_names name d.name, any_named name ds) refl

-- the same names are declared
pub same_declared : (tree : SpecTree) (name : List ℕ) → list_any (bytes_eq name) (declared_names (parts_of_tree tree)) ≡ is_declared (declarations tree) name
same_declared tree name =
    any_times name (declared_names (parts_of_tree tree)) ∙ ap (nat_lt 0) (same_times tree name)
    ∙ sym (any_times name (names_of (declarations tree))) ∙ any_named name (declarations tree)

-- names are names
words_named : (v : ValuesTree) → values_are_formed v ≡ true → list_all is_name (words_of (values_kind v)) ≡ true
words_named (values.Range low high) formed = refl
words_named (values.Words []) formed = refl
words_named (values.Words (w ∷ ws)) formed = list_all-map is_name (λ (w : Mention). w.name) (w ∷ ws) ∙ formed

domains_named : (statements : List DeclarationTree) → list_all declaration_is_formed statements ≡ true →
    list_all is_name (flat_map names_of_domain (map domain_from (domains_in statements))) ≡ true
domains_named [] formed = refl
domains_named (statement.Domain d ∷ rest) formed =
    let f = and_parts (declaration_is_formed (statement.Domain d)) (list_all declaration_is_formed rest) formed in
    let g = and_parts (mentions_a_name d.name) (values_are_formed d.values) f.0 in
    list_all-append is_name (d.name.name ∷ words_of (values_kind d.values)) (flat_map names_of_domain (map domain_from (domains_in rest)))
    ∙ and_from _ _ (and_from (is_name d.name.name) (list_all is_name (words_of (values_kind d.values))) g.0 (words_named d.values g.1)) (domains_named rest f.1)
domains_named (statement.Item i ∷ rest) formed = domains_named rest (and_parts (declaration_is_formed (statement.Item i)) (list_all declaration_is_formed rest) formed).1

items_named : (tree : SpecTree) (statements : List DeclarationTree) → list_all declaration_is_formed statements ≡ true →
    list_all is_name (map (λ (item : Item). item.name) (map (item_from tree) (items_in statements))) ≡ true
items_named tree [] formed = refl
items_named tree (statement.Domain d ∷ rest) formed =
    items_named tree rest (and_parts (declaration_is_formed (statement.Domain d)) (list_all declaration_is_formed rest) formed).1
items_named tree (statement.Item i ∷ rest) formed =
    let f = and_parts (declaration_is_formed (statement.Item i)) (list_all declaration_is_formed rest) formed in
    let g = and_parts (mentions_a_name i.name && list_all ref_is_formed i.args) (ref_is_formed i.value) f.0 in
    and_from (is_name i.name.name) (list_all is_name (map (λ (item : Item). item.name) (map (item_from tree) (items_in rest))))
    (and_parts (mentions_a_name i.name) (list_all ref_is_formed i.args) g.0).0 (items_named tree rest f.1)

claims_named : (tree : SpecTree) (claims : List ClaimTree) → list_all claim_is_formed claims ≡ true →
    list_all (λ (c : ClaimTree). is_name (axiom_from tree c).name) claims ≡ true
claims_named tree [] formed = refl
claims_named tree (c ∷ cs) formed =
    let both = and_parts (claim_is_formed c) (list_all claim_is_formed cs) formed in
    and_from (is_name c.name.name) (list_all (λ (c : ClaimTree). is_name (axiom_from tree c).name) cs)
    (and_parts (mentions_a_name c.name) (formula_is_formed c.formula) both.0).0 (claims_named tree cs both.1)

pub names_are_names_from_form : (tree : SpecTree) → is_formed tree ≡ true → names_are_names (parts_of_tree tree) ≡ true
unfolding parts_of_tree
names_are_names_from_form tree formed =
    let both = and_parts (list_all declaration_is_formed tree.declarations) (list_all claim_is_formed tree.claims) formed in
    let claims : List Axiom = claims_from tree false tree.claims ++ claims_from tree true tree.claims in
    list_all-append is_name (declared_names (parts_of_tree tree)) (flat_map (λ (a : Axiom). variables_of a.formula) claims)
    ∙ and_from _ _
    (list_all-append is_name (flat_map names_of_domain (map domain_from (domains_in tree.declarations)) ++ map (λ (item : Item). item.name) (map (item_from tree) (items_in tree.declarations))) (map (λ (a : Axiom). a.name) claims)
    ∙ and_from _ _
    (list_all-append is_name (flat_map names_of_domain (map domain_from (domains_in tree.declarations))) (map (λ (item : Item). item.name) (map (item_from tree) (items_in tree.declarations)))
    ∙ and_from _ _ (domains_named tree.declarations both.0) (items_named tree tree.declarations both.0))
    (list_all-map is_name (λ (a : Axiom). a.name) claims ∙ claims_pass tree (λ (a : Axiom). is_name a.name) tree.claims (claims_named tree tree.claims both.1)))
    (flat_all is_name (λ (a : Axiom). variables_of a.formula) claims
    ∙ claims_pass tree (λ (a : Axiom). list_all is_name (variables_of a.formula)) tree.claims (named_claims tree tree.claims both.1))
