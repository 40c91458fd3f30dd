-- What is well formed, in words and back.
use Rattle.std.proofs.Common.{◌≡◌, ◌↔◌, ℕ, zero, suc, ◌<◌, ◌≤◌, true, nat_le, List, [], ◌∷◌, ◌++◌, drop, length, Option, None, Some, slice_get, Contains, ℤ, pos, neg_ℤ, inl, inr, refl, sym, ap, ◌∙◌, subst, arith}
use Rattle.std.specs.Prelude.{codes}
use Rattle.std.specs.List.{list_all, flat_map}
use Rattle.std.proofs.Math.Logic.{⊎_elim}
use Rattle.std.proofs.lemmas.Bool.{and_parts, and_from, ltb-true, leb-true, lt-ltb, le-leb, false≢true}
use Rattle.std.proofs.lemmas.Option.{none-some, same_Some}
use Rattle.std.proofs.lemmas.Slice.Eq.{bytes_eq-Decides}
use Rattle.trio_base.specs.Names.{is_name}
use Rattle.trio_base.specs.declared.limits.TheConstants.{MOST_INSTANTS, MOST_VALUES, MOST_ARGUMENTS, GREATEST_NUMBER}
use Rattle.trio_types.specs.declared.spec.DomainKind.{DomainKind}
use Rattle.trio_types.specs.declared.spec.DomainKind.TheVariants as kind
use Rattle.trio_types.specs.declared.spec.Domain.{Domain}
use Rattle.trio_types.specs.declared.spec.Item.{Item}
use Rattle.trio_types.specs.declared.spec.Axiom.{Axiom}
use Rattle.trio_types.specs.World.{values_of}
use Rattle.trio_types.specs.Parts.{Parts, claims_of}
use Rattle.trio_types.specs.Names.{words_of, names_of_domain, declared_names, variables_of, variables_are_new}
use Rattle.trio_types.specs.Shape.{is_shaped, numbers_of}
use Rattle.trio_types.specs.Kinds.{is_right, uses_of}
use Rattle.trio_types.specs.Limits.{count_of, limit_of, counted}
use Rattle.trio_types.specs.WellFormed.{is_bool, is_other, bool_stands_first, is_written, ends_are_written, values_fit, instant_fits}
use Rattle.trio_types.specs.Laws.{IsBoolFirst, IsWritten, IsSpecification, IsWordOf, IsDomainName, DeclaredLaw, FormedLaw}
use Rattle.trio_types.proofs.Lists.{each_of, all_from_each, distinct_places}
use Rattle.trio_types.proofs.Integers.{Decides-int_le}
use Rattle.trio_types.proofs.Contained.{place_of, contains_at, each_contained, all_contained, cons_law, append_law, flat_law, map_law, none_contained, distinct_from_places}
use Rattle.trio_types.proofs.Specs.{Formed, formed_of, well_formed_from, some_instant, few_instants, within_limit}

-- domain 0
bool_kind : (k : DomainKind) → is_bool k ≡ true → k ≡ kind.Bool
bool_kind kind.Bool is = refl
bool_kind (kind.Range low high) is = absurd (false≢true is)
bool_kind (kind.Words words) is = absurd (false≢true is)

other_kind : (k : DomainKind) → (k ≡ kind.Bool → ⊥) → is_other k ≡ true
other_kind kind.Bool other = absurd (other refl)
other_kind (kind.Range low high) other = refl
other_kind (kind.Words words) other = refl

only_first : (first : Domain) (others : List Domain) → list_all (λ d. is_other d.kind) others ≡ true →
    (d : ℕ) (domain : Domain) → slice_get (first ∷ others) d ≡ Some domain → domain.kind ≡ kind.Bool → d ≡ 0
only_first first others all zero domain at is = refl
only_first first others all (suc d) domain at is = absurd (false≢true (sym (ap is_other is) ∙ each_of (λ d. is_other d.kind) others all d domain at))

bool_first : (ds : List Domain) → bool_stands_first ds ≡ true → IsBoolFirst ds
bool_first [] is = absurd (false≢true is)
bool_first (first ∷ others) is =
    let own = and_parts _ _ is in
    let rest = and_parts _ _ own.1 in
    record {
      first = first;
      stands = refl;
      named = (bytes_eq-Decides first.name (codes "bool")).0 own.0;
      of_bool = bool_kind first.kind rest.0;
      alone = only_first first others rest.1;
    }

first_bool : (ds : List Domain) → IsBoolFirst ds → bool_stands_first ds ≡ true
first_bool [] is = absurd (none-some is.first is.stands)
first_bool (d ∷ ds) is =
    let same : d ≡ is.first = same_Some d is.first is.stands in
    and_from _ _ ((bytes_eq-Decides d.name (codes "bool")).1 (ap (λ e. e.name) same ∙ is.named))
    (and_from _ _ (ap (λ e. is_bool e.kind) same ∙ ap is_bool is.of_bool)
    (all_from_each (λ e. is_other e.kind) ds (λ k e at. other_kind e.kind (λ of_bool. let none : suc k ≡ 0 = is.alone (suc k) e at of_bool in omega arith))))

-- the values of domains
written : (z : ℤ) → (is_written z ≡ true) ↔ IsWritten z
written z = (
  λ h. let ends = and_parts _ _ h in ((Decides-int_le (neg_ℤ (pos 1000000)) z).0 ends.0, (Decides-int_le z (pos 1000000)).0 ends.1),
  λ is. and_from _ _ ((Decides-int_le (neg_ℤ (pos 1000000)) z).1 is.0) ((Decides-int_le z (pos 1000000)).1 is.1),
)

ends_in_words : (k : DomainKind) → ends_are_written k ≡ true → (low high : ℤ) → k ≡ kind.Range low high → IsWritten low × IsWritten high
ends_in_words k are low high is =
    let ends = and_parts _ _ (sym (ap ends_are_written is) ∙ are) in ((written low).0 ends.0, (written high).0 ends.1)

ends_from_words : (k : DomainKind) → ((low high : ℤ) → k ≡ kind.Range low high → IsWritten low × IsWritten high) → ends_are_written k ≡ true
ends_from_words kind.Bool are = refl
ends_from_words (kind.Range low high) are = let ends = are low high refl in and_from _ _ ((written low).1 ends.0) ((written high).1 ends.1)
ends_from_words (kind.Words words) are = refl

fit_from_words : (k : DomainKind) → ((low high : ℤ) → k ≡ kind.Range low high → IsWritten low × IsWritten high) →
    0 < length (values_of k) → length (values_of k) ≤ 64 → values_fit k ≡ true
fit_from_words k ends more less =
    and_from _ _ (ends_from_words k ends) (and_from _ _ (lt-ltb 0 (length (values_of k)) more) (le-leb (length (values_of k)) MOST_VALUES less))

-- instants
instant_from_words : (n : ℕ) (o : Option ℕ) → ((k : ℕ) → o ≡ Some k → k < n) → instant_fits n o ≡ true
instant_from_words n None inside = refl
instant_from_words n (Some k) inside = lt-ltb k n (inside k refl)

-- the variables' names, and all names
abbrev variable_names : Parts → List (List ℕ)
variable_names p = flat_map (λ a. variables_of a.formula) (claims_of p)

abbrev all_names : Parts → List (List ℕ)
all_names p = declared_names p ++ variable_names p

pub in_words : (p : Parts) → Formed p → IsSpecification p
in_words p f =
    let claim = λ (a : Axiom). (append_law p.axioms p.goals a).1 in
    record {
      some_instant = some_instant p f;
      few_instants = few_instants p f;
      bool_first = bool_first p.domains f.bool_first;
      ends = λ domain low high has is. ends_in_words domain.kind (and_parts _ _ (each_contained (λ d. values_fit d.kind) p.domains f.domains domain has)).0 low high is;
      values = λ domain has.
          let number = and_parts _ _ (and_parts _ _ (each_contained (λ d. values_fit d.kind) p.domains f.domains domain has)).1 in
          (ltb-true 0 (length (values_of domain.kind)) number.0, leb-true (length (values_of domain.kind)) MOST_VALUES number.1);
      arguments = λ item has. leb-true (length item.args) MOST_ARGUMENTS (each_contained (λ i. nat_le (length i.args) MOST_ARGUMENTS) p.items f.items item has);
      names = λ name has. each_contained is_name (all_names p) f.names name ((append_law (declared_names p) (variable_names p) name).1 (inl has));
      variables = λ a name is has.
          each_contained is_name (all_names p) f.names name
          ((append_law (declared_names p) (variable_names p) name).1 (inr ((flat_law (λ a. variables_of a.formula) (claims_of p) name).1 (a, claim a is, has))));
      distinct = distinct_places (declared_names p) f.distinct;
      new_variables = λ a is. each_contained (λ a. variables_are_new a.formula (declared_names p)) (claims_of p) f.variables a (claim a is);
      kinds = each_contained is_right (uses_of p) f.kinds;
      shaped = λ a is. each_contained (λ a. is_shaped a.formula) (claims_of p) f.many a (claim a is);
      numbers = λ a n is has.
          leb-true n GREATEST_NUMBER (each_contained (λ n. nat_le n GREATEST_NUMBER) (flat_map (λ a. numbers_of a.formula) (claims_of p)) f.numbers n
          ((flat_law (λ a. numbers_of a.formula) (claims_of p) n).1 (a, claim a is, has)));
      inside = λ a k is at.
          ltb-true k p.instants (sym (ap (instant_fits p.instants) at) ∙ each_contained (λ a. instant_fits p.instants a.at) (claims_of p) f.at a (claim a is));
      limits = within_limit p f;
    }

from_words : (p : Parts) → IsSpecification p → Formed p
from_words p w =
    let claim = λ (a : Axiom). (append_law p.axioms p.goals a).0 in
    record {
      instants = and_from _ _ (lt-ltb 0 p.instants w.some_instant) (le-leb p.instants MOST_INSTANTS w.few_instants);
      bool_first = first_bool p.domains w.bool_first;
      domains = all_contained (λ d. values_fit d.kind) p.domains
          (λ d has. fit_from_words d.kind (λ low high is. w.ends d low high has is) (w.values d has).0 (w.values d has).1);
      items = all_contained (λ i. nat_le (length i.args) MOST_ARGUMENTS) p.items (λ i has. le-leb (length i.args) MOST_ARGUMENTS (w.arguments i has));
      names = all_contained is_name (all_names p) (λ name has.
          ⊎_elim (λ declared. w.names name declared)
          (λ is. let r = (flat_law (λ a. variables_of a.formula) (claims_of p) name).0 is in w.variables r.0 name (claim r.0 r.1) r.2)
          ((append_law (declared_names p) (variable_names p) name).0 has));
      distinct = distinct_from_places (declared_names p) w.distinct;
      variables = all_contained (λ a. variables_are_new a.formula (declared_names p)) (claims_of p) (λ a has. w.new_variables a (claim a has));
      kinds = all_contained is_right (uses_of p) w.kinds;
      many = all_contained (λ a. is_shaped a.formula) (claims_of p) (λ a has. w.shaped a (claim a has));
      numbers = all_contained (λ n. nat_le n GREATEST_NUMBER) (flat_map (λ a. numbers_of a.formula) (claims_of p)) (λ n has.
          let r = (flat_law (λ a. numbers_of a.formula) (claims_of p) n).0 has in le-leb n GREATEST_NUMBER (w.numbers r.0 n (claim r.0 r.1) r.2));
      at = all_contained (λ a. instant_fits p.instants a.at) (claims_of p)
          (λ a has. instant_from_words p.instants a.at (λ k at. w.inside a k (claim a has) at));
      limits = all_from_each (λ which. nat_le (count_of which p) (limit_of which)) counted (λ k which at. le-leb (count_of which p) (limit_of which) (w.limits which));
    }

pub formed_law : FormedLaw
formed_law p = (λ is. in_words p (formed_of p is), λ w. well_formed_from p (from_words p w))

-- declared names
behind_first : (ds : List Domain) (domain : Domain) → Contains (drop 1 ds) domain → (d : ℕ) × (slice_get ds d ≡ Some domain) × (0 < d)
behind_first [] domain has = absurd (none_contained domain has)
behind_first (first ∷ ds) domain has = let place = place_of ds domain has in (suc place.0, place.1, omega arith)

first_aside : (ds : List Domain) (d : ℕ) (domain : Domain) → slice_get ds d ≡ Some domain → 0 < d → Contains (drop 1 ds) domain
first_aside [] d domain at behind = absurd (none-some domain at)
first_aside (first ∷ ds) zero domain at behind = absurd (omega arith)
first_aside (first ∷ ds) (suc d) domain at behind = contains_at ds d domain at

word_of : (k : DomainKind) (name : List ℕ) → Contains (words_of k) name → IsWordOf k name
word_of kind.Bool name has = absurd (none_contained name has)
word_of (kind.Range low high) name has = absurd (none_contained name has)
word_of (kind.Words words) name has = (words, refl, has)

word_from : (k : DomainKind) (name : List ℕ) → IsWordOf k name → Contains (words_of k) name
word_from k name is = subst (λ words. Contains words name) (sym (ap words_of is.1)) is.2

domain_name_law : (p : Parts) (name : List ℕ) → Contains (flat_map names_of_domain (drop 1 p.domains)) name ↔ IsDomainName p name
domain_name_law p name = (
  λ has.
      let r = (flat_law names_of_domain (drop 1 p.domains) name).0 has in
      let place = behind_first p.domains r.0 r.1 in
      record {
        number = place.0;
        domain = r.0;
        stands = place.1;
        not_first = place.2;
        is = ⊎_elim (λ own. inl own) (λ word. inr (word_of r.0.kind name word)) ((cons_law r.0.name (words_of r.0.kind) name).0 r.2);
      },
  λ w. (flat_law names_of_domain (drop 1 p.domains) name).1 (
    w.domain,
    first_aside p.domains w.number w.domain w.stands w.not_first,
    (cons_law w.domain.name (words_of w.domain.kind) name).1 (⊎_elim (λ own. inl own) (λ word. inr (word_from w.domain.kind name word)) w.is),
  ),
)

pub declared_law : DeclaredLaw
declared_law p name =
    let items = map_law (λ (i : Item). i.name) p.items name in
    let claims = map_law (λ (a : Axiom). a.name) (claims_of p) name in
    let whole = append_law _ _ name in
    let statements = append_law _ _ name in (
      λ has. ⊎_elim
          (λ statement. ⊎_elim (λ domain. inl ((domain_name_law p name).0 domain)) (λ item. inr (inl (items.0 item))) (statements.0 statement))
          (λ claim. let r = claims.0 claim in inr (inr (r.0, (append_law p.axioms p.goals r.0).0 r.1, r.2)))
          (whole.0 has),
      λ is. ⊎_elim
          (λ domain. whole.1 (inl (statements.1 (inl ((domain_name_law p name).1 domain)))))
          (λ others. ⊎_elim (λ item. whole.1 (inl (statements.1 (inr (items.1 item)))))
          (λ claim. whole.1 (inr (claims.1 (claim.0, (append_law p.axioms p.goals claim.0).1 claim.1, claim.2)))) others)
          is,
    )
