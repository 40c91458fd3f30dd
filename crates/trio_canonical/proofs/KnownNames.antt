-- Items and words of a specification are names, and each has one place among the others.
use Rattle.std.proofs.Common.{◌≡◌, ℕ, zero, suc, ◌+◌, Bool, true, false, not, ◌||◌, cond, nat_lt, None, ap₂, List, [], ◌∷◌, ◌++◌, map, drop, Some, slice_get, option_map, refl, sym, ap, subst, ◌∙◌, arith}
use Rattle.std.specs.List.{list_all, list_any, flat_map, position, position_from, position_or_len}
use Rattle.std.specs.Str.{bytes_eq}
use Rattle.std.proofs.lemmas.Bool.{false≢true, and_parts, and_from, cond-true, cond-false, false_from_ne_true, not-true}
use Rattle.std.proofs.lemmas.Iterator.Adapters.{position_from-zero}
use Rattle.std.proofs.lemmas.List.{length-map}
use Rattle.std.proofs.lemmas.List.Folds.{list_any-append}
use Rattle.std.proofs.lemmas.Option.{none-some, same_Some, slice_get-map}
use Rattle.std.proofs.lemmas.Slice.Eq.{bytes_eq-Decides}
use Rattle.trio_base.specs.Names.{is_name}
use Rattle.trio_types.specs.declared.spec.Axiom.{Axiom}
use Rattle.trio_types.specs.declared.spec.DomainKind.{DomainKind}
use Rattle.trio_types.specs.declared.spec.DomainKind.TheVariants as kind
use Rattle.trio_types.specs.declared.spec.Domain.{Domain}
use Rattle.trio_types.specs.declared.spec.Item.{Item}
use Rattle.trio_types.specs.Parts.{Parts, world_of_parts, claims_of}
use Rattle.trio_types.specs.Names.{words_of, names_of_domain, declared_names, are_distinct, variables_of}
use Rattle.trio_types.specs.WellFormed.{has_bool}
use Rattle.trio_types.proofs.Lists.{each_of, any_from_some, all_left, all_right, all_flat}
use Rattle.trio_types.proofs.Specs.{Formed}
use Rattle.history_table.specs.Rows.{item_named}

-- ---- parts of distinct names

not_either : (a b : Bool) → not (a || b) ≡ true → not a ≡ true
not_either true b none = none
not_either false b none = refl

distinct_left : (xs ys : List (List ℕ)) → are_distinct (xs ++ ys) ≡ true → are_distinct xs ≡ true
distinct_left [] ys are = refl
distinct_left (x ∷ xs) ys are =
    let both = and_parts (not (list_any (bytes_eq x) (xs ++ ys))) (are_distinct (xs ++ ys)) are in
    and_from (not (list_any (bytes_eq x) xs)) (are_distinct xs)
    (not_either (list_any (bytes_eq x) xs) (list_any (bytes_eq x) ys) (ap not (sym (list_any-append (bytes_eq x) xs ys)) ∙ both.0))
    (distinct_left xs ys both.1)

distinct_right : (xs ys : List (List ℕ)) → are_distinct (xs ++ ys) ≡ true → are_distinct ys ≡ true
distinct_right [] ys are = are
distinct_right (x ∷ xs) ys are = distinct_right xs ys (and_parts (not (list_any (bytes_eq x) (xs ++ ys))) (are_distinct (xs ++ ys)) are).1

distinct_flat : {X : Type 0} (f : X → List (List ℕ)) (xs : List X) → are_distinct (flat_map f xs) ≡ true → (k : ℕ) (x : X) → slice_get xs k ≡ Some x →
    are_distinct (f x) ≡ true
distinct_flat f [] are k x at = absurd (none-some x at)
distinct_flat f (y ∷ ys) are zero x at = ap (λ z. are_distinct (f z)) (sym (same_Some y x at)) ∙ distinct_left (f y) (flat_map f ys) are
distinct_flat f (y ∷ ys) are (suc k) x at = distinct_flat f ys (distinct_right (f y) (flat_map f ys) are) k x at

-- ---- the place of a name

place_from : (n : ℕ) (names : List (List ℕ)) → are_distinct names ≡ true → (k : ℕ) (name : List ℕ) → slice_get names k ≡ Some name →
    position_from (λ other. bytes_eq other name) n names ≡ Some (n + k)
place_from n [] are k name at = absurd (none-some name at)
place_from n (x ∷ names) are zero name at =
    let here : n ≡ n + 0 = omega arith in
    cond-true (bytes_eq x name) (Some n) (position_from (λ other. bytes_eq other name) (n + 1) names) ((bytes_eq-Decides x name).1 (same_Some x name at)) ∙ ap Some here
place_from n (x ∷ names) are (suc k) name at =
    let both = and_parts (not (list_any (bytes_eq x) names)) (are_distinct names) are in
    let other : bytes_eq x name ≡ false = false_from_ne_true (bytes_eq x name)
    (λ yes. false≢true (sym (not-true (list_any (bytes_eq x) names) both.0) ∙ any_from_some (bytes_eq x) names k name at yes)) in
    let on : n + 1 + k ≡ n + suc k = omega arith in
    cond-false (bytes_eq x name) (Some n) (position_from (λ other. bytes_eq other name) (n + 1) names) other ∙ place_from (n + 1) names both.1 k name at ∙ ap Some on

pub place_of_name : (names : List (List ℕ)) → are_distinct names ≡ true → (k : ℕ) (name : List ℕ) → slice_get names k ≡ Some name →
    position (λ other. bytes_eq other name) names ≡ Some k
place_of_name names are k name at =
    let same : 0 + k ≡ k = omega arith in
    position_from-zero (λ other. bytes_eq other name) names ∙ place_from 0 names are k name at ∙ ap Some same

-- ---- items

-- what is looked for in a list, and in the list of what its elements have
position-map : {A B : Type 0} (f : A → B) (p : B → Bool) (xs : List A) → position p (map f xs) ≡ position (λ x. p (f x)) xs
position-map {A} {B} f p xs = ap₂ (λ k l. cond (nat_lt k l) (Some k) None) (go xs) (length-map xs f)
  where
    go : (ys : List A) → position_or_len p (map f ys) ≡ position_or_len (λ x. p (f x)) ys
    go [] = refl
    go (y ∷ ys) = ap (λ k. cond (not (p (f y))) (1 + k) 0) (go ys)

domain_names : Parts → List (List ℕ)
domain_names p = flat_map names_of_domain (drop 1 p.domains)

item_names : Parts → List (List ℕ)
item_names p = map (λ item. item.name) p.items

claim_names : Parts → List (List ℕ)
claim_names p = map (λ a. a.name) (claims_of p)

front_distinct : (p : Parts) → Formed p → are_distinct (domain_names p ++ item_names p) ≡ true
unfolding domain_names item_names claim_names
front_distinct p f = distinct_left (domain_names p ++ item_names p) (claim_names p) f.distinct

front_named : (p : Parts) → Formed p → list_all is_name (domain_names p ++ item_names p) ≡ true
unfolding domain_names item_names claim_names
front_named p f =
    all_left is_name (domain_names p ++ item_names p) (claim_names p)
    (all_left is_name (declared_names p) (flat_map (λ a. variables_of a.formula) (claims_of p)) f.names)

-- an item is found by its name
pub item_found : (p : Parts) → Formed p → (i : ℕ) (item : Item) → slice_get p.items i ≡ Some item → item_named (world_of_parts p) item.name ≡ Some i
unfolding domain_names item_names
item_found p f i item at =
    sym (position-map (λ (it : Item). it.name) (λ name. bytes_eq name item.name) p.items)
    ∙ place_of_name (item_names p) (distinct_right (domain_names p) (item_names p) (front_distinct p f)) i item.name
    (slice_get-map (λ (it : Item). it.name) p.items i ∙ ap (option_map (λ (it : Item). it.name)) at)

pub item_is_named : (p : Parts) → Formed p → (i : ℕ) (item : Item) → slice_get p.items i ≡ Some item → is_name item.name ≡ true
unfolding domain_names item_names
item_is_named p f i item at =
    each_of is_name (item_names p) (all_right is_name (domain_names p) (item_names p) (front_named p f)) i item.name
    (slice_get-map (λ (it : Item). it.name) p.items i ∙ ap (option_map (λ (it : Item). it.name)) at)

-- ---- words

-- a domain with words is not the first
behind_first : (n : ℕ) (domains : List Domain) (items : List Item) (axioms goals : List Axiom) →
    has_bool (record { instants = n; domains = domains; items = items; axioms = axioms; goals = goals }) ≡ true →
    (d : ℕ) (domain : Domain) → slice_get domains d ≡ Some domain → (words : List (List ℕ)) → domain.kind ≡ kind.Words words →
    (k : ℕ) × (slice_get (drop 1 domains) k ≡ Some domain)
behind_first n [] items axioms goals first d domain at words is = absurd (none-some domain at)
behind_first n (x ∷ xs) items axioms goals first (suc k) domain at words is = (k, at)
behind_first n (x ∷ xs) items axioms goals first zero domain at words is =
    let kinds : x.kind ≡ kind.Words words = ap (λ (o : Domain). o.kind) (same_Some x domain at) ∙ is in
    let bad = subst (λ (k : DomainKind). has_bool (record {
      instants = n;
      domains = record { name = x.name; kind = k } ∷ xs;
      items = items;
      axioms = axioms;
      goals = goals;
    }) ≡ true) kinds first in
    absurd (false≢true (and_parts _ false bad).1)

pub record KnownWords (words : List (List ℕ)) : Type 0 where
  pub distinct : are_distinct words ≡ true
  pub names : list_all is_name words ≡ true

pub words_known : (p : Parts) → Formed p → (d : ℕ) (domain : Domain) → slice_get p.domains d ≡ Some domain → (words : List (List ℕ)) →
    domain.kind ≡ kind.Words words → KnownWords words
unfolding domain_names
words_known p f d domain at words is =
    let place = behind_first p.instants p.domains p.items p.axioms p.goals f.bool_first d domain at words is in
    let distinct = distinct_flat names_of_domain (drop 1 p.domains) (distinct_left (domain_names p) (item_names p) (front_distinct p f)) place.0 domain place.1 in
    let named = all_flat is_name names_of_domain (drop 1 p.domains) (all_left is_name (domain_names p) (item_names p) (front_named p f)) place.0 domain place.1 in
    record {
      distinct = ap (λ k. are_distinct (words_of k)) (sym is) ∙ (and_parts (not (list_any (bytes_eq domain.name) (words_of domain.kind))) (are_distinct (words_of domain.kind)) distinct).1;
      names = ap (λ k. list_all is_name (words_of k)) (sym is) ∙ (and_parts (is_name domain.name) (list_all is_name (words_of domain.kind)) named).1;
    }
