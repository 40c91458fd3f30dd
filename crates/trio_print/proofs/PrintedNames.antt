-- What is printed as a name in a well-formed specification is one.
use Rattle.std.proofs.Common.{◌≡◌, ℕ, zero, suc, ◌<◌, Bool, true, false, ◌&&◌, nat_eq, nat_lt, List, [], ◌∷◌, ◌++◌, map, drop, length, get_or, Option, None, Some, slice_get, codes, refl, sym, ap, ◌∙◌, arith, flat_map}
use Rattle.std.specs.List.{list_all}
use Rattle.std.specs.Option.{option_map}
use Rattle.std.specs.Str.{bytes_eq}
use Rattle.std.proofs.Math.Logic.{⊎_elim}
use Rattle.std.proofs.lemmas.Bool.{false≢true, and_parts, cond-true, cond-false, cases_Bool, ltb-true}
use Rattle.std.proofs.lemmas.Option.{none-some, slice_get-map, slice_get-get_or}
use Rattle.trio_base.specs.Names.{is_name}
use Rattle.trio_text.specs.declared.lexeme.Lexeme.{Lexeme}
use Rattle.trio_text.specs.declared.lexeme.Lexeme.TheVariants as lexeme
use Rattle.trio_text.specs.declared.token.Reserved.TheVariants as reserved
use Rattle.trio_syntax.specs.Words.{truth_word}
use Rattle.trio_types.specs.declared.spec.Axiom.{Axiom}
use Rattle.trio_types.specs.declared.spec.DomainKind.{DomainKind}
use Rattle.trio_types.specs.declared.spec.DomainKind.TheVariants as kind
use Rattle.trio_types.specs.declared.spec.Domain.{Domain}
use Rattle.trio_types.specs.declared.spec.Item.{Item}
use Rattle.trio_types.specs.World.{values_of}
use Rattle.trio_types.specs.Parts.{Parts, world_of_parts, claims_of}
use Rattle.trio_types.specs.Names.{words_of, names_of_domain, declared_names, variables_of}
use Rattle.trio_types.specs.Kinds.{number, word, has_kind, kind_if_constant, kind_of_constant}
use Rattle.trio_types.specs.WellFormed.{has_bool}
use Rattle.trio_types.proofs.Lists.{each_of, all_left, all_right, all_flat}
use Rattle.trio_types.proofs.Domains.{first_of as first_value, values_are, length-integers}
use Rattle.trio_types.proofs.Specs.{Formed}
use Rattle.trio_print.specs.Pieces.{token}
use Rattle.trio_print.specs.Canonical.{ref_pieces, constant, word_name, domain_name}
use Rattle.trio_print.proofs.Spaced.{is_lexeme}
use Rattle.trio_print.proofs.SpacedTexts.{starts_apart}

-- ---- the declared names and those of variables

all_declared : (p : Parts) → Formed p → list_all is_name (declared_names p) ≡ true
all_declared p f = all_left is_name (declared_names p) (flat_map (λ a. variables_of a.formula) (claims_of p)) f.names

pub variables_are_named : (p : Parts) → Formed p → (k : ℕ) (claim : Axiom) → slice_get (claims_of p) k ≡ Some claim → list_all is_name (variables_of claim.formula) ≡ true
variables_are_named p f k claim at =
    all_flat is_name (λ a. variables_of a.formula) (claims_of p)
    (all_right is_name (declared_names p) (flat_map (λ a. variables_of a.formula) (claims_of p)) f.names) k claim at

pub claim_is_named : (p : Parts) → Formed p → (k : ℕ) (claim : Axiom) → slice_get (claims_of p) k ≡ Some claim → is_name claim.name ≡ true
claim_is_named p f k claim at =
    let names : List (List ℕ) = map (λ (a : Axiom). a.name) (claims_of p) in
    each_of is_name names (all_right is_name (flat_map names_of_domain (drop 1 p.domains) ++ map (λ (item : Item). item.name) p.items) names (all_declared p f)) k claim.name
    (slice_get-map (λ (a : Axiom). a.name) (claims_of p) k ∙ ap (option_map (λ (a : Axiom). a.name)) at)

front_declared : (p : Parts) → Formed p → list_all is_name (flat_map names_of_domain (drop 1 p.domains) ++ map (λ item. item.name) p.items) ≡ true
front_declared p f =
    all_left is_name (flat_map names_of_domain (drop 1 p.domains) ++ map (λ item. item.name) p.items) (map (λ a. a.name) (claims_of p)) (all_declared p f)

pub item_is_named : (p : Parts) → Formed p → (k : ℕ) (item : Item) → slice_get p.items k ≡ Some item → is_name item.name ≡ true
item_is_named p f k item at =
    let names : List (List ℕ) = map (λ (it : Item). it.name) p.items in
    each_of is_name names (all_right is_name (flat_map names_of_domain (drop 1 p.domains)) names (front_declared p f)) k item.name
    (slice_get-map (λ (it : Item). it.name) p.items k ∙ ap (option_map (λ (it : Item). it.name)) at)

pub domain_is_named : (p : Parts) → Formed p → (k : ℕ) (domain : Domain) → slice_get (drop 1 p.domains) k ≡ Some domain →
    (is_name domain.name ≡ true) × (list_all is_name (words_of domain.kind) ≡ true)
domain_is_named p f k domain at =
    and_parts (is_name domain.name) (list_all is_name (words_of domain.kind))
    (all_flat is_name names_of_domain (drop 1 p.domains) (all_left is_name (flat_map names_of_domain (drop 1 p.domains)) (map (λ item. item.name) p.items) (front_declared p f)) k domain at)

-- ---- the domains behind the first

abbrev is_bool : DomainKind → Bool
is_bool kind.Bool = true
is_bool values = false

abbrev is_other : DomainKind → Bool
is_other kind.Bool = false
is_other values = true

pub other_domain : (p : Parts) → Formed p → (d : ℕ) (domain : Domain) → nat_eq d 0 ≡ false → slice_get p.domains d ≡ Some domain →
    (k : ℕ) × (slice_get (drop 1 p.domains) k ≡ Some domain) × (domain.kind ≡ kind.Bool → ⊥)
other_domain p f d domain other at = among p.domains d f.bool_first other at
  where
    among : (ds : List Domain) (d : ℕ) → has_bool (record { instants = p.instants; domains = ds; items = p.items; axioms = p.axioms; goals = p.goals }) ≡ true →
        nat_eq d 0 ≡ false → slice_get ds d ≡ Some domain → (k : ℕ) × (slice_get (drop 1 ds) k ≡ Some domain) × (domain.kind ≡ kind.Bool → ⊥)
    among [] d holds other at = absurd (none-some domain at)
    among (x ∷ xs) zero holds other at = absurd (false≢true (sym other))
    among (x ∷ xs) (suc k) holds other at =
        let named = and_parts (bytes_eq x.name (codes "bool")) (is_bool x.kind && list_all (λ (o : Domain). is_other o.kind) xs) holds in
        let others = and_parts (is_bool x.kind) (list_all (λ (o : Domain). is_other o.kind) xs) named.1 in
        (k, at, λ is. false≢true (ap is_other (sym is) ∙ each_of (λ (o : Domain). is_other o.kind) xs others.1 k domain at))

-- ---- what is printed of a domain and of a constant

pub ref_token : (p : Parts) → Formed p → (d : ℕ) (domain : Domain) → slice_get p.domains d ≡ Some domain →
    (x : Lexeme) × (ref_pieces p d ≡ token x ∷ []) × (is_lexeme x ≡ true)
ref_token p f d domain at =
    ⊎_elim (λ zero_. (lexeme.Word reserved.Bool, cond-true (nat_eq d 0) _ _ zero_, refl))
    (λ other.
    let place = other_domain p f d domain other at in (
      lexeme.Name domain.name,
      cond-false (nat_eq d 0) _ _ other ∙ ap (λ o. token (lexeme.Name (domain_name o)) ∷ []) at,
      (domain_is_named p f place.0 domain place.1).0,
    ))
    (cases_Bool (nat_eq d 0))

below_size : (d : ℕ) (b : Bool) → has_kind (kind_if_constant b (word d)) ≡ true → b ≡ true
below_size d true has = refl
below_size d false has = has

word_is_named : (p : Parts) → Formed p → (d v : ℕ) → nat_eq d 0 ≡ false → has_kind (kind_of_constant (world_of_parts p) d v) ≡ true →
    is_name (word_name (slice_get p.domains d) v) ≡ true
word_is_named p f d v other has = at_domain (slice_get p.domains d) refl
  where
    no_range : (b : Bool) → has_kind (kind_if_constant b number) ≡ true → ⊥
    no_range b h = false≢true h

    at_kind : (domain : Domain) (k : DomainKind) → slice_get p.domains d ≡ Some domain → domain.kind ≡ k → is_name (word_name (Some domain) v) ≡ true
    at_kind domain kind.Bool at is = absurd ((other_domain p f d domain other at).2 is)
    at_kind domain (kind.Range low high) at is = absurd (no_range (nat_lt v (length (values_of (kind.Range low high)))) (rw (at, is) at has))
    at_kind domain (kind.Words words) at is =
        let below : nat_lt v (length (values_of (kind.Words words))) ≡ true = below_size d (nat_lt v (length (values_of (kind.Words words)))) (rw (at, is) at has) in
        let whole : length (values_of (kind.Words words)) ≡ length words = ap length (values_are (kind.Words words)) ∙ length-integers (first_value (kind.Words words)) (length words) in
        let inside : v < length words = omega (arith, ltb-true v (length (values_of (kind.Words words))) below, whole) in
        let place = other_domain p f d domain other at in
        let named : list_all is_name words ≡ true = ap (λ k. list_all is_name (words_of k)) (sym is) ∙ (domain_is_named p f place.0 domain place.1).1 in
        rw is (each_of is_name words named v (get_or words v []) (slice_get-get_or words v [] inside))

    at_domain : (o : Option Domain) → slice_get p.domains d ≡ o → is_name (word_name o v) ≡ true
    at_domain None is = absurd (false≢true (rw is at has))
    at_domain (Some domain) is = at_kind domain domain.kind is refl

pub constant_token : (p : Parts) → Formed p → (d v : ℕ) → has_kind (kind_of_constant (world_of_parts p) d v) ≡ true →
    (x : Lexeme) × (constant p d v ≡ token x ∷ []) × (is_lexeme x ≡ true) × (starts_apart (Some (token x)) ≡ true)
constant_token p f d v has =
    ⊎_elim (λ zero_. (lexeme.Word (truth_word (nat_eq v 1)), cond-true (nat_eq d 0) _ _ zero_, refl, refl))
    (λ other. (lexeme.Name (word_name (slice_get p.domains d) v), cond-false (nat_eq d 0) _ _ other, word_is_named p f d v other has, refl))
    (cases_Bool (nat_eq d 0))
