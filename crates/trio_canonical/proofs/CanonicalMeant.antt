-- What the names of a specification mean in the tree of its canonical text.
use Rattle.std.proofs.Common.{◌≡◌, ℕ, zero, suc, ◌+◌, Bool, true, false, not, ◌==◌, List, [], ◌∷◌, ◌++◌, map, drop, length, find, Some, slice_get, slice_index_or, refl, sym, ap, subst, ◌∙◌, arith}
use Rattle.std.specs.List.{list_any, flat_map}
use Rattle.std.specs.Option.{option_map}
use Rattle.std.specs.Str.{bytes_eq}
use Rattle.std.proofs.lemmas.Bool.{false≢true, and_parts, not-true, cond-true, cond-false}
use Rattle.std.proofs.lemmas.Slice.Eq.{bytes_eq-Decides}
use Rattle.std.proofs.lemmas.List.{append_assoc, map-append}
use Rattle.std.proofs.lemmas.Option.{none-some, same_Some, slice_get-map, slice_get-get_or}
use Rattle.trio_types.specs.declared.spec.DomainKind.TheVariants as kind
use Rattle.trio_types.specs.declared.spec.Domain.{Domain}
use Rattle.trio_types.specs.declared.spec.Item.{Item}
use Rattle.trio_types.specs.declared.spec.Axiom.{Axiom}
use Rattle.trio_types.specs.Parts.{Parts, claims_of}
use Rattle.trio_types.specs.Names.{words_of, names_of_domain, declared_names, are_distinct}
use Rattle.trio_types.proofs.Lists.{any_from_some, get_left, get_right, map_some}
use Rattle.trio_types.proofs.Specs.{Formed}
use Rattle.trio_syntax.specs.declared.tree.Mention.{Mention}
use Rattle.trio_syntax.specs.declared.tree.ValuesTree.{ValuesTree}
use Rattle.trio_syntax.specs.declared.tree.ValuesTree.TheVariants as values
use Rattle.trio_syntax.specs.declared.tree.DomainTree.{DomainTree}
use Rattle.trio_syntax.specs.declared.tree.ItemTree.{ItemTree}
use Rattle.trio_syntax.specs.declared.tree.DeclarationTree.{DeclarationTree}
use Rattle.trio_syntax.specs.declared.tree.DeclarationTree.TheVariants as statement
use Rattle.trio_syntax.specs.declared.tree.ClaimTree.{ClaimTree}
use Rattle.trio_syntax.specs.declared.tree.SpecTree.{SpecTree}
use Rattle.trio_scope.specs.declared.meaning.Meaning.TheVariants as meaning
use Rattle.trio_scope.specs.Names.{Declaration, declaration, words_from, declared_words, declared_from, declarations, declared_of}
use Rattle.trio_reader.specs.Erasure.{values_kind, domain_from, meaning_of}
use Rattle.trio_reader.proofs.FormedNames.{names_of, words_names}
use Rattle.trio_canonical.proofs.Told.{Pairwise}
use Rattle.trio_canonical.proofs.Meant.{bool_first, IsMeant, Meant}
use Rattle.trio_canonical.proofs.StatementTexts.{DomainStands, ItemStands, ClaimStands, SpecStands}

-- the trees of domains, and those of items
pub record DomainTrees (ds : List Domain) (ts : List DeclarationTree) : Type 0 where
  pub trees : List DomainTree
  pub are : ts ≡ map statement.Domain trees
  pub same : map domain_from trees ≡ ds

pub domain_trees : (ds : List Domain) (ts : List DeclarationTree) → Pairwise DomainStands ds ts → DomainTrees ds ts
domain_trees [] [] pairs = record { trees = []; are = refl; same = refl }
domain_trees [] (t ∷ ts) pairs = absurd pairs
domain_trees (d ∷ ds) [] pairs = absurd pairs
domain_trees (d ∷ ds) (t ∷ ts) pairs =
    let own = pairs.0 in
    let others = domain_trees ds ts pairs.1 in
    record { trees = own.tree ∷ others.trees; are = λ i. own.is i ∷ others.are i; same = λ i. own.same i ∷ others.same i }

-- a tree stands for an item
pub record IsItem (parts : Parts) (i : Item) (t : ItemTree) : Type 0 where
  pub stands : ItemStands parts i (statement.Item t)
  pub same : stands.tree ≡ t

pub record ItemTrees (parts : Parts) (is_ : List Item) (ts : List DeclarationTree) : Type 0 where
  pub trees : List ItemTree
  pub are : ts ≡ map statement.Item trees
  pub each : Pairwise (IsItem parts) is_ trees

pub item_trees : (parts : Parts) (is_ : List Item) (ts : List DeclarationTree) → Pairwise (ItemStands parts) is_ ts → ItemTrees parts is_ ts
item_trees parts [] [] pairs = record { trees = []; are = refl; each = tt }
item_trees parts [] (t ∷ ts) pairs = absurd pairs
item_trees parts (i ∷ is_) [] pairs = absurd pairs
item_trees parts (i ∷ is_) (t ∷ ts) pairs =
    let own = pairs.0 in
    let others = item_trees parts is_ ts pairs.1 in
    record {
      trees = own.tree ∷ others.trees;
      are = λ i. own.is i ∷ others.are i;
      each = (
        record { stands = record { tree = own.tree; is = refl; named = own.named; same = own.same }; same = refl },
        others.each,
      );
    }

abbrev pub stated : List DomainTree → List ItemTree → List DeclarationTree
stated ds is_ = map statement.Domain ds ++ map statement.Item is_

stated_names : (n m : ℕ) (ds : List DomainTree) (is_ : List ItemTree) →
    names_of (declared_from n m (stated ds is_)) ≡ flat_map names_of_domain (map domain_from ds) ++ map (λ (i : ItemTree). i.name.name) is_
stated_names n m [] [] = refl
stated_names n m [] (i ∷ is_) = ap (λ ns. i.name.name ∷ ns) (stated_names n (m + 1) [] is_)
stated_names n m (d ∷ ds) is_ =
    let words = declared_words n d.values in
    let others = declared_from (n + 1) m (stated ds is_) in
    ap (λ ns. d.name.name ∷ ns)
    (map-append (λ (d : Declaration). d.name) words others
    ∙ rw (words_names n d.values, stated_names (n + 1) m ds is_)
    (sym (append_assoc (words_of (values_kind d.values)) (flat_map names_of_domain (map domain_from ds)) (map (λ (i : ItemTree). i.name.name) is_))))

item_names : (parts : Parts) (is_ : List Item) (ts : List ItemTree) → Pairwise (IsItem parts) is_ ts → map (λ (t : ItemTree). t.name.name) ts ≡ map (λ (i : Item). i.name) is_
item_names parts [] [] pairs = refl
item_names parts [] (t ∷ ts) pairs = absurd pairs
item_names parts (i ∷ is_) [] pairs = absurd pairs
item_names parts (i ∷ is_) (t ∷ ts) pairs =
    let e : t.name.name ≡ i.name = ap (λ (t : ItemTree). t.name.name) (sym pairs.0.same) ∙ pairs.0.stands.named in
    let es = item_names parts is_ ts pairs.1 in
    rw (e, es) refl

claim_names : (parts : Parts) (goal : Bool) (cs : List Axiom) (ts : List ClaimTree) → Pairwise (ClaimStands parts goal) cs ts →
    names_of (map (λ (c : ClaimTree). declaration c.name meaning.Claim) ts) ≡ map (λ (c : Axiom). c.name) cs
claim_names parts goal [] [] pairs = refl
claim_names parts goal [] (t ∷ ts) pairs = absurd pairs
claim_names parts goal (c ∷ cs) [] pairs = absurd pairs
claim_names parts goal (c ∷ cs) (t ∷ ts) pairs =
    let e : t.name.name ≡ c.name = pairs.0.named in
    let es = claim_names parts goal cs ts pairs.1 in
    rw (e, es) refl

-- a declaration stands among others
abbrev pub StandsAmong : Declaration → List Declaration → Type 0
StandsAmong d ds = (k : ℕ) × (slice_get ds k ≡ Some d)

-- where names are distinct, each declaration is the first of its name
first_declaration : (ds : List Declaration) → are_distinct (names_of ds) ≡ true → (k : ℕ) (d : Declaration) → slice_get ds k ≡ Some d →
    declared_of ds d.name ≡ Some d.declared
first_declaration [] are k d at = absurd (none-some d at)
first_declaration (x ∷ ds) are zero d at =
    ap (option_map (λ (d : Declaration). d.declared))
    (cond-true (bytes_eq x.name d.name) (Some x) (find (λ (e : Declaration). bytes_eq e.name d.name) ds)
    ((bytes_eq-Decides x.name d.name).1 (ap (λ (d : Declaration). d.name) (same_Some x d at))) ∙ at)
first_declaration (x ∷ ds) are (suc k) d at =
    let both = and_parts (not (list_any (bytes_eq x.name) (names_of ds))) (are_distinct (names_of ds)) are in
    let there : slice_get (names_of ds) k ≡ Some d.name = slice_get-map (λ (d : Declaration). d.name) ds k ∙ ap (option_map (λ (d : Declaration). d.name)) at in
    let other : bytes_eq x.name d.name ≡ false = other_name (bytes_eq x.name d.name) refl there (not-true (list_any (bytes_eq x.name) (names_of ds)) both.0) in
    ap (option_map (λ (d : Declaration). d.declared)) (cond-false (bytes_eq x.name d.name) (Some x) (find (λ (e : Declaration). bytes_eq e.name d.name) ds) other)
    ∙ first_declaration ds both.1 k d at
  where
    other_name : (b : Bool) → bytes_eq x.name d.name ≡ b → slice_get (names_of ds) k ≡ Some d.name → list_any (bytes_eq x.name) (names_of ds) ≡ false → bytes_eq x.name d.name ≡ false
    other_name false is there none = is
    other_name true is there none = absurd (false≢true (sym none ∙ any_from_some (bytes_eq x.name) (names_of ds) k d.name there is))

-- what a domain and its words declare
abbrev own : ℕ → DomainTree → List Declaration
own n d = declaration d.name (meaning.Domain n) ∷ declared_words n d.values

in_domain : (n m : ℕ) (ds : List DomainTree) (is_ : List ItemTree) (j : ℕ) (t : DomainTree) → slice_get ds j ≡ Some t → (i : ℕ) (d : Declaration) →
    slice_get (own (n + j) t) i ≡ Some d → StandsAmong d (declared_from n m (stated ds is_))
in_domain n m [] is_ j t at i d here = absurd (none-some t at)
in_domain n m (x ∷ ds) is_ zero t at i d here =
    let e : n + 0 ≡ n = omega arith in (
      i,
      get_left (own n x) (declared_from (n + 1) m (stated ds is_)) i d
          (ap (λ (x : DomainTree). slice_get (own n x) i) (same_Some x t at) ∙ ap (λ n. slice_get (own n t) i) (sym e) ∙ here),
    )
in_domain n m (x ∷ ds) is_ (suc j) t at i d here =
    let e : (n + 1) + j ≡ n + suc j = omega arith in
    let there = in_domain (n + 1) m ds is_ j t at i d (ap (λ n. slice_get (own n t) i) e ∙ here) in
    (length (own n x) + there.0, get_right (own n x) (declared_from (n + 1) m (stated ds is_)) there.0 ∙ there.1)

word_at : (n i : ℕ) (ws : List Mention) (v : ℕ) (w : Mention) → slice_get ws v ≡ Some w → slice_get (words_from n i ws) v ≡ Some (declaration w (meaning.Word n (i + v)))
word_at n i [] v w at = absurd (none-some w at)
word_at n i (x ∷ ws) zero w at =
    let e : i ≡ i + 0 = omega arith in
    ap (λ x. Some (declaration x (meaning.Word n i))) (same_Some x w at) ∙ ap (λ i. Some (declaration w (meaning.Word n i))) e
word_at n i (x ∷ ws) (suc v) w at =
    let e : (i + 1) + v ≡ i + suc v = omega arith in
    word_at n (i + 1) ws v w at ∙ ap (λ i. Some (declaration w (meaning.Word n i))) e

in_items : (n m : ℕ) (is_ : List ItemTree) (j : ℕ) (t : ItemTree) → slice_get is_ j ≡ Some t → StandsAmong (declaration t.name (meaning.Item (m + j))) (declared_from n m (map statement.Item is_))
in_items n m [] j t at = absurd (none-some t at)
in_items n m (x ∷ is_) zero t at =
    let e : m ≡ m + 0 = omega arith in
    (0, ap (λ (x : ItemTree). Some (declaration x.name (meaning.Item m))) (same_Some x t at) ∙ ap (λ m. Some (declaration t.name (meaning.Item m))) e)
in_items n m (x ∷ is_) (suc j) t at =
    let e : (m + 1) + j ≡ m + suc j = omega arith in
    let there = in_items n (m + 1) is_ j t at in
    (suc there.0, there.1 ∙ ap (λ m. Some (declaration t.name (meaning.Item m))) e)

behind_domains : (n m : ℕ) (ds : List DomainTree) (is_ : List ItemTree) (j : ℕ) (t : ItemTree) → slice_get is_ j ≡ Some t →
    StandsAmong (declaration t.name (meaning.Item (m + j))) (declared_from n m (stated ds is_))
behind_domains n m [] is_ j t at = in_items n m is_ j t at
behind_domains n m (x ∷ ds) is_ j t at =
    let there = behind_domains (n + 1) m ds is_ j t at in
    (length (own n x) + there.0, get_right (own n x) (declared_from (n + 1) m (stated ds is_)) there.0 ∙ there.1)

-- the elements of lists whose images are these
image_at : {X Y : Type 0} (f : X → Y) (xs : List X) (ys : List Y) (k : ℕ) (y : Y) → map f xs ≡ ys → slice_get ys k ≡ Some y → (x : X) × (slice_get xs k ≡ Some x) × (f x ≡ y)
image_at f xs ys k y is at = map_some f (slice_get xs k) y (sym (slice_get-map f xs k) ∙ ap (λ zs. slice_get zs k) is ∙ at)

paired_at : (parts : Parts) (is_ : List Item) (ts : List ItemTree) → Pairwise (IsItem parts) is_ ts → (k : ℕ) (i : Item) → slice_get is_ k ≡ Some i →
    (t : ItemTree) × (slice_get ts k ≡ Some t) × (t.name.name ≡ i.name)
paired_at parts is_ ts pairs k i at = image_at (λ (t : ItemTree). t.name.name) ts (map (λ (i : Item). i.name) is_) k i.name (item_names parts is_ ts pairs)
    (slice_get-map (λ (i : Item). i.name) is_ k ∙ ap (option_map (λ (i : Item). i.name)) at)

words_are : (v : ValuesTree) (words : List (List ℕ)) → values_kind v ≡ kind.Words words → (ws : List Mention) × (v ≡ values.Words ws) × (map (λ (w : Mention). w.name) ws ≡ words)
words_are (values.Range low high) words is = cc
words_are (values.Words ws) words is = (ws, refl, cc)

module _ (parts : Parts) (formed : Formed parts) (tree : SpecTree) (stands : SpecStands parts tree) where
  pub domains_of_tree : DomainTrees (drop 1 parts.domains) stands.declared.front
  domains_of_tree = domain_trees (drop 1 parts.domains) stands.declared.front stands.declared.one

  pub items_of_tree : ItemTrees parts parts.items stands.declared.rest
  items_of_tree = item_trees parts parts.items stands.declared.rest stands.declared.two

  pub declared_is : tree.declarations ≡ stated domains_of_tree.trees items_of_tree.trees
  declared_is = stands.declared.whole ∙ (λ i. domains_of_tree.are i ++ items_of_tree.are i)

  abbrev all_stated : List Declaration
  all_stated = declared_from 1 0 (stated domains_of_tree.trees items_of_tree.trees)

  abbrev all_claimed : List Declaration
  all_claimed = map (λ (c : ClaimTree). declaration c.name meaning.Claim) tree.claims

  declarations_are : declarations tree ≡ all_stated ++ all_claimed
  unfolding declarations
  declarations_are = ap (λ ts. declared_from 1 0 ts ++ all_claimed) declared_is

  claimed_names : names_of all_claimed ≡ map (λ (a : Axiom). a.name) (claims_of parts)
  claimed_names =
      let c = stands.claimed in
      let of = λ (c : ClaimTree). declaration c.name meaning.Claim in
      ap (λ cs. names_of (map of cs)) c.whole ∙ ap names_of (map-append of c.front c.rest) ∙ map-append (λ (d : Declaration). d.name) (map of c.front) (map of c.rest)
      ∙ rw (claim_names parts false parts.axioms c.front c.one, claim_names parts true parts.goals c.rest c.two)
      (sym (map-append (λ (a : Axiom). a.name) parts.axioms parts.goals))

  names_are : names_of (declarations tree) ≡ declared_names parts
  names_are =
      ap names_of declarations_are ∙ map-append (λ (d : Declaration). d.name) all_stated all_claimed
      ∙ rw (stated_names 1 0 domains_of_tree.trees items_of_tree.trees, claimed_names, domains_of_tree.same, item_names parts parts.items items_of_tree.trees items_of_tree.each) refl

  meant_of : (name : List ℕ) (d : Declaration) → d.name ≡ name → StandsAmong d all_stated → IsMeant parts tree name d.declared.meaning
  meant_of name d is among =
      let at : slice_get (declarations tree) among.0 ≡ Some d =
      ap (λ ds. slice_get ds among.0) declarations_are ∙ get_left all_stated all_claimed among.0 d among.1 in
      record {
        place = among.0;
        declared = ap (λ ns. slice_get ns among.0) (sym names_are) ∙ slice_get-map (λ (d : Declaration). d.name) (declarations tree) among.0
            ∙ ap (option_map (λ (d : Declaration). d.name)) at ∙ ap Some is;
        means = ap (meaning_of tree) (sym is)
            ∙ ap (option_map (λ d. d.meaning)) (first_declaration (declarations tree) (ap are_distinct names_are ∙ formed.distinct) among.0 d at);
      }

  -- the tree of a domain other than `bool`
  domain_at : (d : ℕ) (domain : Domain) → slice_get parts.domains d ≡ Some domain → (d == 0) ≡ false →
      (j : ℕ) × (t : DomainTree) × (d ≡ 1 + j) × (slice_get domains_of_tree.trees j ≡ Some t) × (domain_from t ≡ domain)
  domain_at zero domain at other = absurd (false≢true (sym other))
  domain_at (suc j) domain at other =
      let b = bool_first parts formed.bool_first in
      let same : map domain_from domains_of_tree.trees ≡ b.others = domains_of_tree.same ∙ ap (drop 1) b.whole in
      let found = image_at domain_from domains_of_tree.trees b.others j domain same (sym (ap (λ ds. slice_get ds (suc j)) b.whole) ∙ at) in
      (j, found.0, omega arith, found.1, found.2)

  pub meant : Meant parts tree
  meant = record {
    domains = λ d domain at other.
        let found = domain_at d domain at other in
        let name : found.1.name.name ≡ domain.name = ap (λ (d : Domain). d.name) found.4 in
        subst (λ n. IsMeant parts tree domain.name (meaning.Domain n)) (sym found.2)
        (meant_of domain.name (declaration found.1.name (meaning.Domain (1 + found.0))) name
        (in_domain 1 0 domains_of_tree.trees items_of_tree.trees found.0 found.1 found.3 0 (declaration found.1.name (meaning.Domain (1 + found.0))) refl));
    words = λ d domain words v at other is below.
        let found = domain_at d domain at other in
        let own_words = words_are found.1.values words (ap (λ (d : Domain). d.kind) found.4 ∙ is) in
        let word = image_at (λ (w : Mention). w.name) own_words.0 words v (slice_index_or words v []) own_words.2 (slice_get-get_or words v [] below) in
        let here = declaration word.0 (meaning.Word (1 + found.0) v) in
        let e : 0 + v ≡ v = omega arith in
        subst (λ n. IsMeant parts tree (slice_index_or words v []) (meaning.Word n v)) (sym found.2)
        (meant_of (slice_index_or words v []) here word.2
        (in_domain 1 0 domains_of_tree.trees items_of_tree.trees found.0 found.1 found.3 (suc v) here
        (ap (λ vs. slice_get (declared_words (1 + found.0) vs) v) own_words.1 ∙ word_at (1 + found.0) 0 own_words.0 v word.0 word.1
        ∙ ap (λ v. Some (declaration word.0 (meaning.Word (1 + found.0) v))) e)));
    items = λ n item at.
        let found = paired_at parts parts.items items_of_tree.trees items_of_tree.each n item at in
        let e : 0 + n ≡ n = omega arith in
        meant_of item.name (declaration found.0.name (meaning.Item n)) found.2
        (subst (λ k. StandsAmong (declaration found.0.name (meaning.Item k)) all_stated) e (behind_domains 1 0 domains_of_tree.trees items_of_tree.trees n found.0 found.1));
  }
