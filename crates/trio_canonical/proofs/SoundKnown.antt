-- Where no kind in a tree is wrong, each name that it uses was declared before.
use Rattle.std.proofs.Common.{◌≡◌, ℕ, ◌+◌, ◌<◌, ◌≤◌, Bool, true, false, not, nat_lt, nat_le, List, [], ◌∷◌, ◌++◌, Option, None, Some, length, map, slice_get, find, cond, refl, sym, ap, ◌∙◌, arith}
use Rattle.std.specs.List.{list_all, flat_map}
use Rattle.std.specs.Option.{option_map}
use Rattle.std.specs.Str.{bytes_eq}
use Rattle.std.proofs.lemmas.Bool.{and_parts, and_from, or_left, or_right, false≢true, ltb-true, lt-ltb, leb-true}
use Rattle.std.proofs.lemmas.List.{length-map}
use Rattle.std.proofs.lemmas.List.Folds.{list_all-map, list_any_at}
use Rattle.std.proofs.lemmas.List.Quantifiers.{position-Some}
use Rattle.std.proofs.lemmas.Option.{slice_get_past, none-some, same_Some}
use Rattle.trio_types.specs.declared.spec.Item.{Item}
use Rattle.trio_types.specs.Kinds.{kind_in, is_right, is_arity, of_domain, has_kind, term_uses}
use Rattle.trio_types.specs.WellFormed.{kinds_are_right}
use Rattle.trio_types.proofs.Lists.{all_right}
use Rattle.trio_syntax.specs.declared.tree.Mention.{Mention}
use Rattle.trio_syntax.specs.declared.tree.RefTree.{RefTree}
use Rattle.trio_syntax.specs.declared.tree.RefTree.TheVariants as ref_to
use Rattle.trio_syntax.specs.declared.tree.TermTree.{TermTree, out-TermTree}
use Rattle.trio_syntax.specs.declared.tree.TermShape.{TermShape, TermShape-F, out-TermShape}
use Rattle.trio_syntax.specs.declared.tree.TermShape.TheOpen as open_shape
use Rattle.trio_syntax.specs.declared.tree.PartTree.{PartTree}
use Rattle.trio_syntax.specs.declared.tree.ValuesTree.{ValuesTree}
use Rattle.trio_syntax.specs.declared.tree.ValuesTree.TheVariants as values
use Rattle.trio_syntax.specs.declared.tree.DomainTree.{DomainTree}
use Rattle.trio_syntax.specs.declared.tree.ItemTree.{ItemTree}
use Rattle.trio_syntax.specs.declared.tree.DeclarationTree.{DeclarationTree}
use Rattle.trio_syntax.specs.declared.tree.DeclarationTree.TheVariants as statement
use Rattle.trio_syntax.specs.declared.tree.ClaimTree.{ClaimTree}
use Rattle.trio_syntax.specs.declared.tree.SpecTree.{SpecTree}
use Rattle.trio_scope.specs.declared.meaning.Meaning.{Meaning}
use Rattle.trio_scope.specs.declared.meaning.Meaning.TheVariants as meaning
use Rattle.trio_scope.specs.declared.meaning.Declared.{Declared}
use Rattle.trio_scope.specs.Places.{unless}
use Rattle.trio_scope.specs.Names.{Declaration, declaration, words_from, declared_words, declared_from, declarations, domains_in, items_in, declared_of}
use Rattle.trio_scope.specs.Gather.{Variable, places_in, places_in_claims}
use Rattle.trio_scope.specs.Scope.{is_variable, stands_before, is_known, unknown_among, own_names, names_of_ref, unknown_finding, refs_of, unknown_places}
use Rattle.trio_reader.specs.declared.sense.Sense.TheVariants as sense
use Rattle.trio_reader.specs.Erasure.{meaning_of, domain_count, item_count, domain_meant, domain_of, domains_of, level_in, sense_in, sense_of, sense_term, sense_item, domain_from, item_from, world_of_tree, parts_of_tree}
use Rattle.trio_reader.specs.Kinds.{placed, wrong_places, role_uses, kind_of, item_use, shape_uses, own_uses, ref_uses, kind_finding}
use Rattle.trio_reader.proofs.KindLemmas.{uses-Read}
use Rattle.trio_reader.proofs.FormedPhases.{append_empty, unless_empty}
use Rattle.trio_reader.proofs.FormedTerms.{all_both, no_wrong, one_right, placed_right}
use Rattle.trio_canonical.proofs.SoundPhases.{both_empty, passes}
use Rattle.trio_canonical.proofs.SoundKinds.{kinds_clean}
use Rattle.trio_canonical.proofs.SoundFindings.{Follows, formula_follows}
use Rattle.trio_canonical.proofs.SoundNames.{in_order}
use Rattle.trio_canonical.proofs.SoundPlaces.{early, early_finding, words_in, names_declared, all_before}
use Rattle.trio_canonical.proofs.SoundOrder.{early_uses, Rises}

-- what holds of each declaration holds of the first of a name
first_passes : (p : Declared → Bool) (ds : List Declaration) (name : List ℕ) (d : Declared) → list_all (λ (x : Declaration). p x.declared) ds ≡ true →
    declared_of ds name ≡ Some d → p d ≡ true
first_passes p [] name d all is = absurd (none-some d is)
first_passes p (x ∷ ds) name d all is =
    let both = and_parts (p x.declared) (list_all (λ (y : Declaration). p y.declared) ds) all in
    by (bytes_eq x.name name) is both.0 (first_passes p ds name d both.1)
  where
    by : (b : Bool) → option_map (λ (y : Declaration). y.declared) (cond b (Some x) (find (λ y. bytes_eq y.name name) ds)) ≡ Some d → p x.declared ≡ true →
        (declared_of ds name ≡ Some d → p d ≡ true) → p d ≡ true
    by true here passes later = ap p (sym (same_Some x.declared d here)) ∙ passes
    by false here passes later = later here

-- a test that is asked of a domain alone, and of all but claims
abbrev if_domain : Meaning → Bool → Bool
if_domain (meaning.Domain n) b = b
if_domain x b = true

abbrev unless_claim : Meaning → Bool → Bool
unless_claim meaning.Claim b = true
unless_claim x b = b

-- the domains, and all but claims, are declared before a token
abbrev domain_before : ℕ → Declared → Bool
domain_before place d = if_domain d.meaning (nat_lt d.place place)

abbrev statement_before : ℕ → Declared → Bool
statement_before place d = unless_claim d.meaning (nat_lt d.place place)

module _ (bound : ℕ) where
  abbrev domain_passes : Declaration → Bool
  domain_passes x = domain_before bound x.declared

  abbrev statement_passes : Declaration → Bool
  statement_passes x = statement_before bound x.declared

  words_no_domain : (domain index : ℕ) (ws : List Mention) → list_all domain_passes (words_from domain index ws) ≡ true
  words_no_domain domain index [] = refl
  words_no_domain domain index (w ∷ ws) = words_no_domain domain (index + 1) ws

  values_no_domain : (domain : ℕ) (v : ValuesTree) → list_all domain_passes (declared_words domain v) ≡ true
  values_no_domain domain (values.Range low high) = refl
  values_no_domain domain (values.Words ws) = words_no_domain domain 0 ws

  items_no_domain : (domains items : ℕ) (is : List ItemTree) → list_all domain_passes (declared_from domains items (map statement.Item is)) ≡ true
  items_no_domain domains items [] = refl
  items_no_domain domains items (i ∷ is) = items_no_domain domains (items + 1) is

  domains_first : (domains items : ℕ) (ds : List DomainTree) (is : List ItemTree) →
      list_all (λ w. all_before bound (names_declared w)) (map statement.Domain ds) ≡ true → list_all domain_passes (declared_from domains items (in_order ds is)) ≡ true
  domains_first domains items [] is all = items_no_domain domains items is
  domains_first domains items (d ∷ ds) is all =
      let both = and_parts (all_before bound (d.name ∷ words_in d.values)) (list_all (λ w. all_before bound (names_declared w)) (map statement.Domain ds)) all in
      let own = and_parts (nat_lt d.name.place bound) (all_before bound (words_in d.values)) both.0 in
      let later : List Declaration = declared_from (domains + 1) items (in_order ds is) in
      and_from (nat_lt d.name.place bound) (list_all domain_passes (declared_words domains d.values ++ later)) own.0
      (all_both domain_passes (declared_words domains d.values) later (values_no_domain domains d.values) (domains_first (domains + 1) items ds is both.1))

  words_first : (domain index : ℕ) (ws : List Mention) → all_before bound ws ≡ true → list_all statement_passes (words_from domain index ws) ≡ true
  words_first domain index [] all = refl
  words_first domain index (w ∷ ws) all =
      let both = and_parts (nat_lt w.place bound) (all_before bound ws) all in
      and_from (nat_lt w.place bound) (list_all statement_passes (words_from domain (index + 1) ws)) both.0 (words_first domain (index + 1) ws both.1)

  values_first : (domain : ℕ) (v : ValuesTree) → all_before bound (words_in v) ≡ true → list_all statement_passes (declared_words domain v) ≡ true
  values_first domain (values.Range low high) all = refl
  values_first domain (values.Words ws) all = words_first domain 0 ws all

  statements_first : (domains items : ℕ) (ws : List DeclarationTree) → list_all (λ w. all_before bound (names_declared w)) ws ≡ true →
      list_all statement_passes (declared_from domains items ws) ≡ true
  statements_first domains items [] all = refl
  statements_first domains items (statement.Domain d ∷ rest) all =
      let both = and_parts (all_before bound (d.name ∷ words_in d.values)) (list_all (λ w. all_before bound (names_declared w)) rest) all in
      let own = and_parts (nat_lt d.name.place bound) (all_before bound (words_in d.values)) both.0 in
      let later : List Declaration = declared_from (domains + 1) items rest in
      and_from (nat_lt d.name.place bound) (list_all statement_passes (declared_words domains d.values ++ later)) own.0
      (all_both statement_passes (declared_words domains d.values) later (values_first domains d.values own.1) (statements_first (domains + 1) items rest both.1))
  statements_first domains items (statement.Item i ∷ rest) all =
      let both = and_parts (all_before bound (i.name ∷ [])) (list_all (λ w. all_before bound (names_declared w)) rest) all in
      and_from (nat_lt i.name.place bound) (list_all statement_passes (declared_from domains (items + 1) rest))
      (and_parts (nat_lt i.name.place bound) true both.0).0 (statements_first domains (items + 1) rest both.1)

  claims_pass : (cs : List ClaimTree) →
      (list_all domain_passes (map (λ (c : ClaimTree). declaration c.name meaning.Claim) cs) ≡ true)
      × (list_all statement_passes (map (λ (c : ClaimTree). declaration c.name meaning.Claim) cs) ≡ true)
  claims_pass [] = (refl, refl)
  claims_pass (c ∷ cs) = claims_pass cs

-- a name that stands behind
behind : (low : ℕ) (m : Mention) → early low (m ∷ []) ≡ [] → low ≤ m.place
behind low m none =
    leb-true low m.place (unless_empty (nat_le low m.place) m.place (append_empty (unless (nat_le low m.place) m.place) [] none).0)

before_it : (d : Declared) (bound : ℕ) (m : Mention) → nat_lt d.place bound ≡ true → bound ≤ m.place → nat_lt d.place m.place ≡ true
before_it d bound m is from = let below : d.place < bound = ltb-true d.place bound is in lt-ltb d.place m.place (omega arith)

all_known : (ds : List Declaration) (e : List Variable) (m : Mention) → is_known ds e m ≡ true → unknown_among ds e (m ∷ []) ≡ []
all_known ds e m is = both_empty (unless (is_known ds e m) m.place) [] (passes (is_known ds e m) m.place is) refl

module _ (tree : SpecTree) where
  abbrev ds : List Declaration
  ds = declarations tree

  -- the first numbers that no domain and no item has
  no_domain : has_kind (kind_in (world_of_tree tree) (domain_count tree)) ≡ true → ⊥
  unfolding parts_of_tree
  no_domain is =
      let past = slice_get_past (world_of_tree tree).domains (domain_count tree) (omega (arith, length-map (domains_in tree.declarations) domain_from)) in
      false≢true (rw past at is)

  no_item : (inside : Bool) (given : ℕ) → is_right (item_use tree inside (item_count tree) given) ≡ true → ⊥
  unfolding parts_of_tree
  no_item inside given is =
      let both = and_parts (not inside) (is_arity (option_map (λ (item : Item). length item.args) (slice_get (world_of_tree tree).items (item_count tree))) given) is in
      let past = slice_get_past (world_of_tree tree).items (item_count tree) (omega (arith, length-map (items_in tree.declarations) (item_from tree))) in
      false≢true (rw past at both.1)

  -- a name of a domain that has a kind
  domain_is_known : (bound : ℕ) → list_all (λ (x : Declaration). domain_before bound x.declared) ds ≡ true → (m : Mention) → bound ≤ m.place →
      has_kind (kind_in (world_of_tree tree) (domain_of tree (ref_to.Named m))) ≡ true → stands_before (declared_of ds m.name) m.place ≡ true
  domain_is_known bound all m from is = by (declared_of ds m.name) refl is
    where
      with_meaning : (d : Declared) (x : Meaning) → d.meaning ≡ x → declared_of ds m.name ≡ Some d →
          has_kind (kind_in (world_of_tree tree) (domain_meant (domain_count tree) (Some x))) ≡ true → nat_lt d.place m.place ≡ true
      with_meaning d (meaning.Domain n) means found kinded =
          before_it d bound m (rw means at (first_passes (domain_before bound) ds m.name d all found)) from
      with_meaning d (meaning.Word n k) means found kinded = absurd (no_domain kinded)
      with_meaning d (meaning.Item n) means found kinded = absurd (no_domain kinded)
      with_meaning d meaning.Claim means found kinded = absurd (no_domain kinded)

      by : (o : Option Declared) → declared_of ds m.name ≡ o →
          has_kind (kind_in (world_of_tree tree) (domain_meant (domain_count tree) (option_map (λ (d : Declared). d.meaning) o))) ≡ true →
          stands_before o m.place ≡ true
      by None found kinded = absurd (no_domain kinded)
      by (Some d) found kinded = with_meaning d d.meaning refl found kinded

  ref_is_known : (bound : ℕ) → list_all (λ (x : Declaration). domain_before bound x.declared) ds ≡ true → (e : List Variable) (r : RefTree) →
      wrong_places (ref_uses tree r) ≡ [] → early bound (names_of_ref r) ≡ [] → unknown_among ds e (names_of_ref r) ≡ []
  ref_is_known bound all e ref_to.Bool right late = refl
  ref_is_known bound all e (ref_to.Named m) right late =
      all_known ds e m
      (or_right (is_variable e m.name) (stands_before (declared_of ds m.name) m.place)
      (domain_is_known bound all m (behind bound m late)
      (one_right m.place (of_domain (kind_in (world_of_tree tree) (domain_of tree (ref_to.Named m)))) (no_wrong (ref_uses tree (ref_to.Named m)) right))))

  -- a name in a term that stands for something
  some_level : (e : List Variable) (name : List ℕ) (level : ℕ) → level_in e name ≡ Some level → is_variable e name ≡ true
  some_level e name level is =
      let nobody : Variable = record { name = []; domain = ref_to.Bool } in
      let at = position-Some (λ (v : Variable). bytes_eq v.name name) e level nobody is in
      list_any_at (λ (v : Variable). bytes_eq v.name name) e level nobody at.0 at.1

  name_is_known : (bound : ℕ) → list_all (λ (x : Declaration). statement_before bound x.declared) ds ≡ true → (e : List Variable) (m : Mention) → bound ≤ m.place →
      (sense_of tree e m.name ≡ sense.Item (item_count tree) → ⊥) → is_known ds e m ≡ true
  name_is_known bound all e m from some = by (level_in e m.name) refl
    where
      with_meaning : (d : Declared) (x : Meaning) → d.meaning ≡ x → declared_of ds m.name ≡ Some d →
          (sense_in (item_count tree) None (Some x) ≡ sense.Item (item_count tree) → ⊥) → nat_lt d.place m.place ≡ true
      with_meaning d (meaning.Domain n) means found other = absurd (other refl)
      with_meaning d (meaning.Word n k) means found other =
          before_it d bound m (rw means at (first_passes (statement_before bound) ds m.name d all found)) from
      with_meaning d (meaning.Item n) means found other =
          before_it d bound m (rw means at (first_passes (statement_before bound) ds m.name d all found)) from
      with_meaning d meaning.Claim means found other = absurd (other refl)

      declared : (o : Option Declared) → declared_of ds m.name ≡ o →
          (sense_in (item_count tree) None (option_map (λ (d : Declared). d.meaning) o) ≡ sense.Item (item_count tree) → ⊥) → stands_before o m.place ≡ true
      declared None found other = absurd (other refl)
      declared (Some d) found other = with_meaning d d.meaning refl found other

      by : (o : Option ℕ) → level_in e m.name ≡ o → is_known ds e m ≡ true
      by (Some level) is = or_left (is_variable e m.name) (stands_before (declared_of ds m.name) m.place) (some_level e m.name level is)
      by None is =
          or_right (is_variable e m.name) (stands_before (declared_of ds m.name) m.place)
          (declared (declared_of ds m.name) refl
          (λ same. some (ap (λ o. sense_in (item_count tree) o (meaning_of tree m.name)) is ∙ same)))

  shape_is_known : (bound : ℕ) → list_all (λ (x : Declaration). statement_before bound x.declared) ds ≡ true → (e : List Variable) (inside : Bool)
      (x : TermShape-F TermShape PartTree TermTree) → list_all placed_right (shape_uses tree e inside x) ≡ true → early bound (own_names x) ≡ [] →
      unknown_among ds e (own_names x) ≡ []
  shape_is_known bound all e inside (open_shape.Number n) right late = refl
  shape_is_known bound all e inside (open_shape.Truth b) right late = refl
  shape_is_known bound all e inside (open_shape.Named m) right late =
      all_known ds e m
      (name_is_known bound all e m (behind bound m late)
      (λ same. no_item inside 0
      (and_parts (is_right (item_use tree inside (item_count tree) 0)) true
      (sym (ap (list_all is_right) (ap (λ y. term_uses (world_of_tree tree) (domains_of tree e) inside (sense_term y)) same
      ∙ uses-Read tree (domains_of tree e) inside (item_count tree)))
      ∙ sym (list_all-map placed_right (placed m.place) (term_uses (world_of_tree tree) (domains_of tree e) inside (sense_term (sense_of tree e m.name))))
      ∙ right)).0))
  shape_is_known bound all e inside (open_shape.Call m args) right late =
      all_known ds e m
      (name_is_known bound all e m (behind bound m late)
      (λ same. no_item inside (length args)
      (ap (λ y. is_right (item_use tree inside (sense_item (item_count tree) y) (length args))) (sym same)
      ∙ (and_parts (is_right (item_use tree inside (sense_item (item_count tree) (sense_of tree e m.name)) (length args))) _ right).0)))
  shape_is_known bound all e inside (open_shape.Sum ps) right late = refl
  shape_is_known bound all e inside (open_shape.Times n t) right late = refl

  -- no name is unknown where no kind is wrong and none stands before
  domains_of_statements : (bound : ℕ) → list_all (λ (x : Declaration). statement_before bound x.declared) ds ≡ true →
      list_all (λ (x : Declaration). domain_before bound x.declared) ds ≡ true
  domains_of_statements bound all = each ds all
    where
      one : (d : Declared) (x : Meaning) → d.meaning ≡ x → statement_before bound d ≡ true → domain_before bound d ≡ true
      one d (meaning.Domain n) is passed = rw is (rw is at passed)
      one d (meaning.Word n k) is passed = rw is refl
      one d (meaning.Item n) is passed = rw is refl
      one d meaning.Claim is passed = rw is refl

      each : (xs : List Declaration) → list_all (λ (x : Declaration). statement_before bound x.declared) xs ≡ true →
          list_all (λ (x : Declaration). domain_before bound x.declared) xs ≡ true
      each [] all = refl
      each (x ∷ xs) all =
          let both = and_parts (statement_before bound x.declared) (list_all (λ (y : Declaration). statement_before bound y.declared) xs) all in
          and_from (domain_before bound x.declared) (list_all (λ (y : Declaration). domain_before bound y.declared) xs)
          (one x.declared x.declared.meaning refl both.0) (each xs both.1)

  names_follow : (bound : ℕ) → list_all (λ (x : Declaration). statement_before bound x.declared) ds ≡ true →
      Follows (kind_finding tree) (early_finding bound) (unknown_finding ds)
  names_follow bound all = record {
    term = λ e r inside t right late.
        let x : TermShape-F TermShape PartTree TermTree = out-TermShape (out-TermTree t).shape in
        shape_is_known bound all e inside x
        (all_right placed_right (role_uses r (out-TermTree t).place (kind_of tree e t)) (shape_uses tree e inside x) (no_wrong (own_uses tree e r inside t) right)) late;
    compared = λ e rel p t u right late. refl;
    variable = λ e x r right late. ref_is_known bound (domains_of_statements bound all) e r right late;
  }

  module _ (doms : List DomainTree) (is : List ItemTree) (order : tree.declarations ≡ in_order doms is) (rises : Rises tree doms is) where
    all_domains : list_all (λ (x : Declaration). domain_before rises.middle x.declared) ds ≡ true
    unfolding declarations
    all_domains =
        all_both (λ (x : Declaration). domain_before rises.middle x.declared) (declared_from 1 0 tree.declarations) _
        (ap (λ w. list_all (λ (x : Declaration). domain_before rises.middle x.declared) (declared_from 1 0 w)) order ∙ domains_first rises.middle 1 0 doms is rises.domains)
        (claims_pass rises.middle tree.claims).0

    all_statements : list_all (λ (x : Declaration). statement_before rises.last x.declared) ds ≡ true
    unfolding declarations
    all_statements =
        all_both (λ (x : Declaration). statement_before rises.last x.declared) (declared_from 1 0 tree.declarations) _
        (statements_first rises.last 1 0 tree.declarations
        (ap (list_all (λ w. all_before rises.last (names_declared w))) order ∙ rises.statements))
        (claims_pass rises.last tree.claims).1

    abbrev wrong_refs : DeclarationTree → List ℕ
    wrong_refs w = flat_map (λ r. wrong_places (ref_uses tree r)) (refs_of w)

    abbrev unknown_refs : DeclarationTree → List ℕ
    unknown_refs w = flat_map (λ r. unknown_among ds [] (names_of_ref r)) (refs_of w)

    refs_known : (rs : List RefTree) → flat_map (λ r. wrong_places (ref_uses tree r)) rs ≡ [] → flat_map (λ r. early rises.middle (names_of_ref r)) rs ≡ [] →
        flat_map (λ r. unknown_among ds [] (names_of_ref r)) rs ≡ []
    refs_known [] right late = refl
    refs_known (r ∷ rs) right late =
        let w = append_empty (wrong_places (ref_uses tree r)) (flat_map (λ r. wrong_places (ref_uses tree r)) rs) right in
        let l = append_empty (early rises.middle (names_of_ref r)) (flat_map (λ r. early rises.middle (names_of_ref r)) rs) late in
        both_empty (unknown_among ds [] (names_of_ref r)) (flat_map (λ r. unknown_among ds [] (names_of_ref r)) rs)
        (ref_is_known rises.middle all_domains [] r w.0 l.0) (refs_known rs w.1 l.1)

    items_known : (xs : List ItemTree) → flat_map wrong_refs (map statement.Item xs) ≡ [] → flat_map (early_uses rises.middle) (map statement.Item xs) ≡ [] →
        flat_map unknown_refs (map statement.Item xs) ≡ []
    items_known [] right late = refl
    items_known (i ∷ xs) right late =
        let w = append_empty (wrong_refs (statement.Item i)) (flat_map wrong_refs (map statement.Item xs)) right in
        let l = append_empty (early_uses rises.middle (statement.Item i)) (flat_map (early_uses rises.middle) (map statement.Item xs)) late in
        both_empty (unknown_refs (statement.Item i)) (flat_map unknown_refs (map statement.Item xs))
        (refs_known (i.args ++ i.value ∷ []) w.0 l.0) (items_known xs w.1 l.1)

    statements_known : (xs : List DomainTree) → flat_map wrong_refs (in_order xs is) ≡ [] → flat_map unknown_refs (in_order xs is) ≡ []
    statements_known [] right = items_known is right rises.refs
    statements_known (d ∷ xs) right = statements_known xs right

    claims_known : (cs : List ClaimTree) → flat_map (λ c. places_in (kind_finding tree) c.formula []) cs ≡ [] →
        flat_map (λ c. places_in (early_finding rises.last) c.formula []) cs ≡ [] → flat_map (λ c. places_in (unknown_finding ds) c.formula []) cs ≡ []
    claims_known [] right late = refl
    claims_known (c ∷ cs) right late =
        let w = append_empty (places_in (kind_finding tree) c.formula []) (flat_map (λ c. places_in (kind_finding tree) c.formula []) cs) right in
        let l = append_empty (places_in (early_finding rises.last) c.formula []) (flat_map (λ c. places_in (early_finding rises.last) c.formula []) cs) late in
        both_empty (places_in (unknown_finding ds) c.formula []) (flat_map (λ c. places_in (unknown_finding ds) c.formula []) cs)
        (formula_follows (kind_finding tree) (early_finding rises.last) (unknown_finding ds) (names_follow rises.last all_statements) c.formula [] w.0 l.0)
        (claims_known cs w.1 l.1)

    -- no name is unknown
    pub no_name_unknown : kinds_are_right (parts_of_tree tree) ≡ true → unknown_places tree ≡ []
    unfolding unknown_places
    no_name_unknown right =
        let clean = kinds_clean tree right in
        both_empty (flat_map unknown_refs tree.declarations) (places_in_claims (unknown_finding ds) tree)
        (ap (flat_map unknown_refs) order ∙ statements_known doms (ap (flat_map wrong_refs) (sym order) ∙ clean.refs))
        (claims_known tree.claims clean.formulas rises.formulas)
