-- The canonical text of a specification has a tree in the grammar that stands for that specification.
use Rattle.std.proofs.Common.{◌≡◌, Bool, true, false, not, if◌then◌else◌, cond, List, [], ◌∷◌, ◌++◌, map, drop, filter, refl, sym, ap, ◌∙◌}
use Rattle.std.specs.List.{list_all, flat_map}
use Rattle.std.proofs.lemmas.Bool.{and_parts, and_from}
use Rattle.std.proofs.lemmas.List.{append-nil, map-append}
use Rattle.std.proofs.lemmas.List.Elements.{filter-append}
use Rattle.trio_types.specs.declared.spec.Item.{Item}
use Rattle.trio_types.specs.declared.spec.Axiom.{Axiom}
use Rattle.trio_types.specs.Parts.{Parts, world_of_parts, claims_of}
use Rattle.trio_types.specs.Kinds.{is_right, item_uses, uses}
use Rattle.trio_types.specs.Names.{declared_names, are_distinct, variables_are_new}
use Rattle.trio_types.specs.WellFormed.{is_well_formed}
use Rattle.trio_types.proofs.Lists.{all_left, all_right}
use Rattle.trio_types.proofs.Specs.{Formed, formed_of}
use Rattle.trio_syntax.specs.declared.tree.DomainTree.{DomainTree}
use Rattle.trio_syntax.specs.declared.tree.ItemTree.{ItemTree}
use Rattle.trio_syntax.specs.declared.tree.DeclarationTree.TheVariants as statement
use Rattle.trio_syntax.specs.declared.tree.ClaimTree.{ClaimTree}
use Rattle.trio_syntax.specs.declared.tree.SpecTree.{SpecTree}
use Rattle.trio_syntax.specs.Grammar.{IsSpec}
use Rattle.trio_scope.specs.Names.{domains_in, items_in}
use Rattle.trio_reader.specs.Erasure.{domain_from, bool_domain, item_from, axiom_from, is_wanted, claims_from, parts_of_tree}
use Rattle.trio_reader.proofs.FormedNumbers.{flat_all}
use Rattle.trio_print.specs.Pieces.{lexemes_in}
use Rattle.trio_print.specs.Canonical.{spec_pieces}
use Rattle.trio_canonical.proofs.Told.{Pairwise}
use Rattle.trio_canonical.proofs.Meant.{bool_first, Meant, Fits}
use Rattle.trio_canonical.proofs.StatementTexts.{ClaimStands, SpecStands, spec_told}
use Rattle.trio_canonical.proofs.CanonicalMeant.{IsItem, stated, domains_of_tree, items_of_tree, declared_is, meant}

-- the declarations of a tree are first those of domains and then those of items, and its claims are first axioms and then goals
pub record InOrder (tree : SpecTree) : Type 0 where
  pub domains : List DomainTree
  pub items : List ItemTree
  pub declarations : tree.declarations ≡ map statement.Domain domains ++ map statement.Item items
  pub axioms : List ClaimTree
  pub goals : List ClaimTree
  pub claims : tree.claims ≡ axioms ++ goals
  pub are_axioms : list_all (λ (c : ClaimTree). not c.goal) axioms ≡ true
  pub are_goals : list_all (λ (c : ClaimTree). c.goal) goals ≡ true

pub record CanonicalTree (parts : Parts) : Type 0 where
  pub tree : SpecTree
  pub reads : IsSpec (lexemes_in (spec_pieces parts)) tree
  pub stands : parts_of_tree tree ≡ parts
  pub in_order : InOrder tree

-- the domains and the items among declarations in order
items_only : (is_ : List ItemTree) → (domains_in (map statement.Item is_) ≡ []) × (items_in (map statement.Item is_) ≡ is_)
items_only [] = (refl, refl)
items_only (i ∷ is_) = ((items_only is_).0, ap (λ js. i ∷ js) (items_only is_).1)

stated_domains : (ds : List DomainTree) (is_ : List ItemTree) → domains_in (stated ds is_) ≡ ds
stated_domains [] is_ = (items_only is_).0
stated_domains (d ∷ ds) is_ = ap (λ es. d ∷ es) (stated_domains ds is_)

stated_items : (ds : List DomainTree) (is_ : List ItemTree) → items_in (stated ds is_) ≡ is_
stated_items [] is_ = (items_only is_).1
stated_items (d ∷ ds) is_ = stated_items ds is_

items_same : (parts : Parts) (tree : SpecTree) → Meant parts tree → (is_ : List Item) (ts : List ItemTree) → Pairwise (IsItem parts) is_ ts →
    list_all is_right (flat_map (item_uses (world_of_parts parts)) is_) ≡ true → map (item_from tree) ts ≡ is_
items_same parts tree known [] [] pairs right = refl
items_same parts tree known [] (t ∷ ts) pairs right = absurd pairs
items_same parts tree known (i ∷ is_) [] pairs right = absurd pairs
items_same parts tree known (i ∷ is_) (t ∷ ts) pairs right =
    let first = all_left is_right (item_uses (world_of_parts parts) i) (flat_map (item_uses (world_of_parts parts)) is_) right in
    let others = all_right is_right (item_uses (world_of_parts parts) i) (flat_map (item_uses (world_of_parts parts)) is_) right in
    let own : item_from tree t ≡ i = ap (item_from tree) (sym pairs.0.same) ∙ pairs.0.stands.same tree known first in
    let rest = items_same parts tree known is_ ts pairs.1 others in
    λ j. own j ∷ rest j

-- axioms and goals
kept : (tree : SpecTree) (wanted : Bool) (xs ys : List ClaimTree) → claims_from tree wanted (xs ++ ys) ≡ claims_from tree wanted xs ++ claims_from tree wanted ys
kept tree wanted xs ys = ap (map (axiom_from tree)) (filter-append (is_wanted wanted) xs ys) ∙ map-append (axiom_from tree) (filter (is_wanted wanted) xs) (filter (is_wanted wanted) ys)

wanted_same : (b : Bool) → (if b then b else not b) ≡ true
wanted_same true = refl
wanted_same false = refl

wanted_other : (b : Bool) → (if not b then b else not b) ≡ false
wanted_other true = refl
wanted_other false = refl

none_kept : (parts : Parts) (tree : SpecTree) (goal : Bool) (cs : List Axiom) (ts : List ClaimTree) → Pairwise (ClaimStands parts goal) cs ts → claims_from tree (not goal) ts ≡ []
none_kept parts tree goal [] [] pairs = refl
none_kept parts tree goal [] (t ∷ ts) pairs = absurd pairs
none_kept parts tree goal (c ∷ cs) [] pairs = absurd pairs
none_kept parts tree goal (c ∷ cs) (t ∷ ts) pairs =
    let out : is_wanted (not goal) t ≡ false = ap (λ g. if not goal then g else not g) pairs.0.goal ∙ wanted_other goal in
    ap (λ b. map (axiom_from tree) (cond b (t ∷ filter (is_wanted (not goal)) ts) (filter (is_wanted (not goal)) ts))) out
    ∙ none_kept parts tree goal cs ts pairs.1

fits_nothing : (parts : Parts) (tree : SpecTree) → Formed parts → Meant parts tree → Fits parts tree [] [] []
fits_nothing parts tree formed known = record {
  has_bool = formed.bool_first;
  meant = known;
  named = refl;
  distinct = ap are_distinct (append-nil (declared_names parts)) ∙ formed.distinct;
  as_many = refl;
}

same_claim : (parts : Parts) (tree : SpecTree) → Fits parts tree [] [] [] → (goal : Bool) (c : Axiom) (t : ClaimTree) → ClaimStands parts goal c t →
    list_all is_right (uses (world_of_parts parts) c.formula []) ≡ true → variables_are_new c.formula (declared_names parts) ≡ true → axiom_from tree t ≡ c
same_claim parts tree fits goal c t stands right new =
    let formula = stands.formula.is tree [] [] fits right (ap (variables_are_new c.formula) (append-nil (declared_names parts)) ∙ new) in
    λ i. record { name = stands.named i; at = stands.at i; formula = formula i }

all_kept : (parts : Parts) (tree : SpecTree) → Fits parts tree [] [] [] → (goal : Bool) (cs : List Axiom) (ts : List ClaimTree) → Pairwise (ClaimStands parts goal) cs ts →
    list_all (λ (c : Axiom). list_all is_right (uses (world_of_parts parts) c.formula [])) cs ≡ true →
    list_all (λ (c : Axiom). variables_are_new c.formula (declared_names parts)) cs ≡ true → claims_from tree goal ts ≡ cs
all_kept parts tree fits goal [] [] pairs right new = refl
all_kept parts tree fits goal [] (t ∷ ts) pairs right new = absurd pairs
all_kept parts tree fits goal (c ∷ cs) [] pairs right new = absurd pairs
all_kept parts tree fits goal (c ∷ cs) (t ∷ ts) pairs right new =
    let rights = and_parts (list_all is_right (uses (world_of_parts parts) c.formula [])) (list_all (λ (c : Axiom). list_all is_right (uses (world_of_parts parts) c.formula [])) cs) right in
    let news = and_parts (variables_are_new c.formula (declared_names parts)) (list_all (λ (c : Axiom). variables_are_new c.formula (declared_names parts)) cs) new in
    let in_ : is_wanted goal t ≡ true = ap (λ g. if goal then g else not g) pairs.0.goal ∙ wanted_same goal in
    let own = same_claim parts tree fits goal c t pairs.0 rights.0 news.0 in
    let rest = all_kept parts tree fits goal cs ts pairs.1 rights.1 news.1 in
    ap (λ b. map (axiom_from tree) (cond b (t ∷ filter (is_wanted goal) ts) (filter (is_wanted goal) ts))) in_
    ∙ (λ i. own i ∷ rest i)

all_of_kind : (parts : Parts) (goal : Bool) (cs : List Axiom) (ts : List ClaimTree) → Pairwise (ClaimStands parts goal) cs ts → list_all (λ (t : ClaimTree). is_wanted goal t) ts ≡ true
all_of_kind parts goal [] [] pairs = refl
all_of_kind parts goal [] (t ∷ ts) pairs = absurd pairs
all_of_kind parts goal (c ∷ cs) [] pairs = absurd pairs
all_of_kind parts goal (c ∷ cs) (t ∷ ts) pairs =
    and_from (is_wanted goal t) (list_all (λ (t : ClaimTree). is_wanted goal t) ts) (ap (λ g. if goal then g else not g) pairs.0.goal ∙ wanted_same goal) (all_of_kind parts goal cs ts pairs.1)

module _ (parts : Parts) (formed : Formed parts) (tree : SpecTree) (stands : SpecStands parts tree) where
  abbrev fits : Fits parts tree [] [] []
  fits = fits_nothing parts tree formed (meant parts formed tree stands)

  abbrev of_items : List Item → Bool
  of_items is_ = list_all is_right (flat_map (item_uses (world_of_parts parts)) is_)

  uses_right : (of_items parts.items ≡ true) × (list_all (λ (c : Axiom). list_all is_right (uses (world_of_parts parts) c.formula [])) (claims_of parts) ≡ true)
  uses_right =
      let first = flat_map (item_uses (world_of_parts parts)) parts.items in
      let second = flat_map (λ (c : Axiom). uses (world_of_parts parts) c.formula []) (claims_of parts) in (
        all_left is_right first second formed.kinds,
        sym (flat_all is_right (λ (c : Axiom). uses (world_of_parts parts) c.formula []) (claims_of parts)) ∙ all_right is_right first second formed.kinds,
      )

  domains_same : bool_domain ∷ map domain_from (domains_in tree.declarations) ≡ parts.domains
  domains_same =
      let b = bool_first parts formed.bool_first in
      let d = domains_of_tree parts formed tree stands in
      let i = items_of_tree parts formed tree stands in
      let others : map domain_from (domains_in tree.declarations) ≡ b.others =
      ap (λ ts. map domain_from (domains_in ts)) (declared_is parts formed tree stands) ∙ ap (map domain_from) (stated_domains d.trees i.trees) ∙ d.same ∙ ap (drop 1) b.whole in
      let first : bool_domain ≡ b.first = λ j. record { name = sym b.name j; kind = sym b.bool j } in
      (λ j. first j ∷ others j) ∙ sym b.whole

  all_items_same : map (item_from tree) (items_in tree.declarations) ≡ parts.items
  all_items_same =
      let d = domains_of_tree parts formed tree stands in
      let i = items_of_tree parts formed tree stands in
      ap (λ ts. map (item_from tree) (items_in ts)) (declared_is parts formed tree stands) ∙ ap (map (item_from tree)) (stated_items d.trees i.trees)
      ∙ items_same parts tree (meant parts formed tree stands) parts.items i.trees i.each uses_right.0

  axioms_same : claims_from tree false tree.claims ≡ parts.axioms
  axioms_same =
      let c = stands.claimed in
      ap (claims_from tree false) c.whole ∙ kept tree false c.front c.rest
      ∙ rw (none_kept parts tree true parts.goals c.rest c.two)
      (append-nil (claims_from tree false c.front)
      ∙ all_kept parts tree fits false parts.axioms c.front c.one
      (all_left (λ (c : Axiom). list_all is_right (uses (world_of_parts parts) c.formula [])) parts.axioms parts.goals uses_right.1)
      (all_left (λ (c : Axiom). variables_are_new c.formula (declared_names parts)) parts.axioms parts.goals formed.variables))

  goals_same : claims_from tree true tree.claims ≡ parts.goals
  goals_same =
      let c = stands.claimed in
      ap (claims_from tree true) c.whole ∙ kept tree true c.front c.rest
      ∙ rw (none_kept parts tree false parts.axioms c.front c.one)
      (all_kept parts tree fits true parts.goals c.rest c.two
      (all_right (λ (c : Axiom). list_all is_right (uses (world_of_parts parts) c.formula [])) parts.axioms parts.goals uses_right.1)
      (all_right (λ (c : Axiom). variables_are_new c.formula (declared_names parts)) parts.axioms parts.goals formed.variables))

  parts_same : parts_of_tree tree ≡ parts
  unfolding parts_of_tree
  parts_same = λ j. record {
    instants = stands.instants j;
    domains = domains_same j;
    items = all_items_same j;
    axioms = axioms_same j;
    goals = goals_same j;
  }

  in_order : InOrder tree
  in_order = record {
    domains = (domains_of_tree parts formed tree stands).trees;
    items = (items_of_tree parts formed tree stands).trees;
    declarations = declared_is parts formed tree stands;
    axioms = stands.claimed.front;
    goals = stands.claimed.rest;
    claims = stands.claimed.whole;
    are_axioms = all_of_kind parts false parts.axioms stands.claimed.front stands.claimed.one;
    are_goals = all_of_kind parts true parts.goals stands.claimed.rest stands.claimed.two;
  }

pub canonical_tree : (parts : Parts) → is_well_formed parts ≡ true → CanonicalTree parts
canonical_tree parts is =
    let formed = formed_of parts is in
    let read = (spec_told parts formed).at 0 in
    record {
      tree = read.value;
      reads = read.says;
      stands = parts_same parts formed read.value read.good;
      in_order = in_order parts formed read.value read.good;
    }
