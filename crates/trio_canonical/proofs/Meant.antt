-- What the names of a specification's parts mean in a tree, and how variables are found.
use Rattle.std.proofs.Common.{◌≡◌, ℕ, zero, suc, ◌+◌, ◌<◌, Bool, true, false, not, ◌&&◌, ◌==◌, cond, List, [], ◌∷◌, ◌++◌, length, map, None, Some, slice_get, slice_index_or, codes, refl, sym, ap, ◌∙◌, arith}
use Rattle.std.specs.List.{list_all, list_any, position_from}
use Rattle.std.specs.Str.{bytes_eq}
use Rattle.std.proofs.lemmas.Bool.{false≢true, and_parts, and_from, or_parts, not-true, not_from_false, cond-true, cond-false}
use Rattle.std.proofs.lemmas.Slice.Eq.{bytes_eq-Decides}
use Rattle.std.proofs.lemmas.Iterator.Adapters.{position_from-zero}
use Rattle.std.proofs.lemmas.List.{append_assoc, map-append, length_push}
use Rattle.std.proofs.lemmas.List.Folds.{list_any-append}
use Rattle.std.proofs.lemmas.Option.{none-some, same_Some}
use Rattle.trio_types.specs.declared.spec.DomainKind.{DomainKind}
use Rattle.trio_types.specs.declared.spec.DomainKind.TheVariants as kind
use Rattle.trio_types.specs.declared.spec.Domain.{Domain}
use Rattle.trio_types.specs.declared.spec.Item.{Item}
use Rattle.trio_types.specs.declared.spec.Axiom.{Axiom}
use Rattle.trio_types.specs.Parts.{Parts}
use Rattle.trio_types.specs.Names.{declared_names, are_distinct, is_new}
use Rattle.trio_types.specs.WellFormed.{has_bool, is_bool, is_other}
use Rattle.trio_types.proofs.Lists.{each_of, any_from_some}
use Rattle.trio_syntax.specs.declared.tree.SpecTree.{SpecTree}
use Rattle.trio_scope.specs.declared.meaning.Meaning.{Meaning}
use Rattle.trio_scope.specs.declared.meaning.Meaning.TheVariants as meaning
use Rattle.trio_scope.specs.Gather.{Variable}
use Rattle.trio_reader.specs.Erasure.{meaning_of, level_in, sense_in, sense_of, item_count}
use Rattle.trio_reader.proofs.FormedNames.{same_names}

-- `bool` is the first domain, and no other is
pub record BoolFirst (domains : List Domain) : Type 0 where
  pub first : Domain
  pub others : List Domain
  pub whole : domains ≡ first ∷ others
  pub name : first.name ≡ codes "bool"
  pub bool : first.kind ≡ kind.Bool
  pub no_other : (k : ℕ) (domain : Domain) → slice_get others k ≡ Some domain → domain.kind ≡ kind.Bool → ⊥

bool_kind : (k : DomainKind) → is_bool k ≡ true → k ≡ kind.Bool
bool_kind kind.Bool is = refl
bool_kind (kind.Range low high) is = absurd (false≢true is)
bool_kind (kind.Words words) is = absurd (false≢true is)

bool_among : (instants : ℕ) (domains : List Domain) (items : List Item) (axioms goals : List Axiom) →
    has_bool (record { instants = instants; domains = domains; items = items; axioms = axioms; goals = goals }) ≡ true → BoolFirst domains
bool_among instants [] items axioms goals has = absurd (false≢true has)
bool_among instants (first ∷ others) items axioms goals has =
    let both = and_parts (bytes_eq first.name (codes "bool")) (is_bool first.kind && list_all (λ (d : Domain). is_other d.kind) others) has in
    let kinds = and_parts (is_bool first.kind) (list_all (λ (d : Domain). is_other d.kind) others) both.1 in
    record {
      first = first;
      others = others;
      whole = refl;
      name = (bytes_eq-Decides first.name (codes "bool")).0 both.0;
      bool = bool_kind first.kind kinds.0;
      no_other = λ k domain at is. false≢true (sym (ap is_other is) ∙ each_of (λ (d : Domain). is_other d.kind) others kinds.1 k domain at);
    }

pub bool_first : (parts : Parts) → has_bool parts ≡ true → BoolFirst parts.domains
bool_first parts has = bool_among parts.instants parts.domains parts.items parts.axioms parts.goals has

-- a declared name, with what it means in a tree
pub record IsMeant (parts : Parts) (tree : SpecTree) (name : List ℕ) (m : Meaning) : Type 0 where
  pub place : ℕ
  pub declared : slice_get (declared_names parts) place ≡ Some name
  pub means : meaning_of tree name ≡ Some m

-- the declared names mean in the tree what stands at their places in the parts
pub record Meant (parts : Parts) (tree : SpecTree) : Type 0 where
  pub domains : (d : ℕ) (domain : Domain) → slice_get parts.domains d ≡ Some domain → (d == 0) ≡ false → IsMeant parts tree domain.name (meaning.Domain d)
  pub words : (d : ℕ) (domain : Domain) (words : List (List ℕ)) (v : ℕ) → slice_get parts.domains d ≡ Some domain → (d == 0) ≡ false →
      domain.kind ≡ kind.Words words → v < length words → IsMeant parts tree (slice_index_or words v []) (meaning.Word d v)
  pub items : (n : ℕ) (item : Item) → slice_get parts.items n ≡ Some item → IsMeant parts tree item.name (meaning.Item n)

-- and the variables in whose bodies a formula stands have these names and domains
pub record Fits (parts : Parts) (tree : SpecTree) (names : List (List ℕ)) (around : List Variable) (vs : List ℕ) : Type 0 where
  pub has_bool : has_bool parts ≡ true
  pub meant : Meant parts tree
  pub named : map (λ (v : Variable). v.name) around ≡ names
  pub distinct : are_distinct (declared_names parts ++ names) ≡ true
  pub as_many : length vs ≡ length names

-- names that are distinct
distinct_behind : (xs ys : List (List ℕ)) → are_distinct (xs ++ ys) ≡ true → are_distinct ys ≡ true
distinct_behind [] ys are = are
distinct_behind (x ∷ xs) ys are = distinct_behind xs ys (and_parts (not (list_any (bytes_eq x) (xs ++ ys))) (are_distinct (xs ++ ys)) are).1

distinct_apart : (xs ys : List (List ℕ)) → are_distinct (xs ++ ys) ≡ true → (k : ℕ) (name : List ℕ) → slice_get xs k ≡ Some name → list_any (bytes_eq name) ys ≡ false
distinct_apart [] ys are k name at = absurd (none-some name at)
distinct_apart (x ∷ xs) ys are zero name at =
    let both = and_parts (not (list_any (bytes_eq x) (xs ++ ys))) (are_distinct (xs ++ ys)) are in
    ap (λ z. list_any (bytes_eq z) ys) (sym (same_Some x name at))
    ∙ (or_parts (list_any (bytes_eq x) xs) (list_any (bytes_eq x) ys) (sym (list_any-append (bytes_eq x) xs ys) ∙ not-true (list_any (bytes_eq x) (xs ++ ys)) both.0)).1
distinct_apart (x ∷ xs) ys are (suc k) name at =
    distinct_apart xs ys (and_parts (not (list_any (bytes_eq x) (xs ++ ys))) (are_distinct (xs ++ ys)) are).1 k name at

distinct_more : (xs : List (List ℕ)) (name : List ℕ) → are_distinct xs ≡ true → list_any (bytes_eq name) xs ≡ false → are_distinct (xs ++ name ∷ []) ≡ true
distinct_more [] name are new = refl
distinct_more (x ∷ xs) name are new =
    let both = and_parts (not (list_any (bytes_eq x) xs)) (are_distinct xs) are in
    let apart = or_parts (bytes_eq name x) (list_any (bytes_eq name) xs) new in
    and_from (not (list_any (bytes_eq x) (xs ++ name ∷ []))) (are_distinct (xs ++ name ∷ []))
    (not_from_false (list_any (bytes_eq x) (xs ++ name ∷ []))
    (list_any-append (bytes_eq x) xs (name ∷ [])
    ∙ rw (not-true (list_any (bytes_eq x) xs) both.0, same_names x name, apart.0) refl))
    (distinct_more xs name both.1 apart.1)

-- the level of a variable
level_from : (around : List Variable) (name : List ℕ) (i : ℕ) →
    position_from (λ v. bytes_eq v.name name) i around ≡ position_from (λ n. bytes_eq n name) i (map (λ (v : Variable). v.name) around)
level_from [] name i = refl
level_from (v ∷ vs) name i = ap (cond (bytes_eq v.name name) (Some i)) (level_from vs name (i + 1))

no_level : (names : List (List ℕ)) (name : List ℕ) (i : ℕ) → list_any (bytes_eq name) names ≡ false → position_from (λ n. bytes_eq n name) i names ≡ None
no_level [] name i none = refl
no_level (n ∷ ns) name i none =
    let both = or_parts (bytes_eq name n) (list_any (bytes_eq name) ns) none in
    cond-false (bytes_eq n name) (Some i) (position_from (λ n. bytes_eq n name) (i + 1) ns) (same_names n name ∙ both.0) ∙ no_level ns name (i + 1) both.1

some_level : (names : List (List ℕ)) (name : List ℕ) (i k : ℕ) → are_distinct names ≡ true → slice_get names k ≡ Some name →
    position_from (λ n. bytes_eq n name) i names ≡ Some (i + k)
some_level [] name i k are at = absurd (none-some name at)
some_level (n ∷ ns) name i zero are at =
    cond-true (bytes_eq n name) (Some i) (position_from (λ n. bytes_eq n name) (i + 1) ns) ((bytes_eq-Decides n name).1 (same_Some n name at))
    ∙ (let e : i ≡ i + 0 = omega arith in ap Some e)
some_level (n ∷ ns) name i (suc k) are at =
    let both = and_parts (not (list_any (bytes_eq n) ns)) (are_distinct ns) are in
    let other : bytes_eq n name ≡ false = other_name (bytes_eq n name) refl in
    cond-false (bytes_eq n name) (Some i) (position_from (λ n. bytes_eq n name) (i + 1) ns) other
    ∙ some_level ns name (i + 1) k both.1 at
    ∙ (let e : (i + 1) + k ≡ i + suc k = omega arith in ap Some e)
  where
    other_name : (b : Bool) → bytes_eq n name ≡ b → bytes_eq n name ≡ false
    other_name false is = is
    other_name true is =
        absurd (false≢true (sym (not-true (list_any (bytes_eq n) ns) (and_parts (not (list_any (bytes_eq n) ns)) (are_distinct ns) are).0)
        ∙ any_from_some (bytes_eq n) ns k name at is))

module _ {parts : Parts} {tree : SpecTree} {names : List (List ℕ)} {around : List Variable} {vs : List ℕ} (fits : Fits parts tree names around vs) where
  pub level_is : (name : List ℕ) (k : ℕ) → slice_get names k ≡ Some name → level_in around name ≡ Some k
  level_is name k at =
      position_from-zero (λ (v : Variable). bytes_eq v.name name) around ∙ level_from around name 0 ∙ ap (position_from (λ n. bytes_eq n name) 0) fits.named
      ∙ some_level names name 0 k (distinct_behind (declared_names parts) names fits.distinct) at
      ∙ (let e : 0 + k ≡ k = omega arith in ap Some e)

  pub no_variable : (name : List ℕ) (k : ℕ) → slice_get (declared_names parts) k ≡ Some name → level_in around name ≡ None
  no_variable name k at =
      position_from-zero (λ (v : Variable). bytes_eq v.name name) around ∙ level_from around name 0 ∙ ap (position_from (λ n. bytes_eq n name) 0) fits.named
      ∙ no_level names name 0 (distinct_apart (declared_names parts) names fits.distinct k name at)

  pub sense_is : {name : List ℕ} {m : Meaning} → IsMeant parts tree name m → sense_of tree around name ≡ sense_in (item_count tree) None (Some m)
  sense_is {name} {m} is = rw (no_variable name is.place is.declared, is.means) refl

  -- one variable more
  pub fits_more : (v : Variable) (d : ℕ) → is_new v.name (declared_names parts ++ names) ≡ true → Fits parts tree (names ++ v.name ∷ []) (around ++ v ∷ []) (vs ++ d ∷ [])
  fits_more v d new = record {
    has_bool = fits.has_bool;
    meant = fits.meant;
    named = map-append (λ (v : Variable). v.name) around (v ∷ []) ∙ ap (λ ns. ns ++ v.name ∷ []) fits.named;
    distinct = ap are_distinct (sym (append_assoc (declared_names parts) names (v.name ∷ [])))
        ∙ distinct_more (declared_names parts ++ names) v.name fits.distinct (not-true (list_any (bytes_eq v.name) (declared_names parts ++ names)) new);
    as_many = omega (arith, fits.as_many, length_push vs d, length_push names v.name);
  }
