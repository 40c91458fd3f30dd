-- What is known of every specification, since it is well formed.
use Rattle.std.proofs.Common.{subst, ◌≢◌, ◌≡◌, ℕ, ◌+◌, ◌<◌, ◌≤◌, true, nat_le, [], ◌∷◌, ◌++◌, length, Option, None, Some, slice_get, ℤ, pos, negsuc, ◌+ℤ◌, ◌-ℤ◌, ◌≤ℤ◌, refl, sym, ap, ◌∙◌, arith}
use Rattle.std.specs.List.{list_all, flat_map}
use Rattle.std.specs.Option.{option_map}
use Rattle.std.proofs.lemmas.Bool.{and_parts, and_from, ltb-true, leb-true, false≢true}
use Rattle.std.proofs.lemmas.Int.{ints}
use Rattle.std.proofs.lemmas.Option.{slice_get-map, same_Some}
use Rattle.trio_types.specs.declared.spec.DomainKind.{DomainKind}
use Rattle.trio_types.specs.declared.spec.DomainKind.TheVariants as kind
use Rattle.trio_types.specs.declared.spec.Domain.{Domain}
use Rattle.trio_types.specs.declared.spec.Item.{Item}
use Rattle.trio_types.specs.declared.spec.Spec.{Spec}
use Rattle.trio_types.specs.declared.spec.Which.{Which}
use Rattle.trio_types.specs.declared.spec.Which.TheVariants as which
use Rattle.trio_base.specs.declared.limits.TheConstants.{MOST_INSTANTS, MOST_VALUES, MOST_ARGUMENTS}
use Rattle.trio_types.specs.World.{World, at_least_zero, values_of, values_in, size_of}
use Rattle.trio_types.specs.Values.{index_of}
use Rattle.trio_types.specs.Parts.{Parts, world_of_parts, claims_of}
use Rattle.trio_types.specs.Kinds.{of_domain, has_kind, kind_in, is_right, item_uses, uses}
use Rattle.trio_types.specs.Limits.{count_of, limit_of, counted}
use Rattle.trio_types.specs.WellFormed.{has_instants, has_bool, values_fit, domains_fit, items_fit, names_are_names, names_are_distinct, variables_are_distinct, kinds_are_right, parts_are_many, numbers_are_small, instants_fit, limits_are_met, is_well_formed}
use Rattle.trio_types.specs.Verdict.{parts_of}
use Rattle.trio_types.specs.declared.spec.Declarations.{Declarations}
use Rattle.trio_types.specs.Declarations.{declared_parts}
use Rattle.trio_types.proofs.Lists.{each_of, all_left, all_flat, get_left, get_right, get_within}
use Rattle.trio_types.proofs.Integers.{Decides-int_le}
use Rattle.trio_types.proofs.Domains.{count_of_values, values_are, length-integers, first_of, size_at, value_of_index, index_of_value, no_index}

-- the conditions, each by its name
pub record Formed (p : Parts) : Type 0 where
  pub instants : has_instants p ≡ true
  pub bool_first : has_bool p ≡ true
  pub domains : domains_fit p ≡ true
  pub items : items_fit p ≡ true
  pub names : names_are_names p ≡ true
  pub distinct : names_are_distinct p ≡ true
  pub variables : variables_are_distinct p ≡ true
  pub kinds : kinds_are_right p ≡ true
  pub many : parts_are_many p ≡ true
  pub numbers : numbers_are_small p ≡ true
  pub at : instants_fit p ≡ true
  pub limits : limits_are_met p ≡ true

pub formed_of : (p : Parts) → is_well_formed p ≡ true → Formed p
unfolding is_well_formed
formed_of p is =
    let c1 = and_parts _ _ is in
    let c2 = and_parts _ _ c1.1 in
    let c3 = and_parts _ _ c2.1 in
    let c4 = and_parts _ _ c3.1 in
    let c5 = and_parts _ _ c4.1 in
    let c6 = and_parts _ _ c5.1 in
    let c7 = and_parts _ _ c6.1 in
    let c8 = and_parts _ _ c7.1 in
    let c9 = and_parts _ _ c8.1 in
    let c10 = and_parts _ _ c9.1 in
    let c11 = and_parts _ _ c10.1 in
    let c12 = and_parts _ _ c11.1 in
    record {
      instants = c1.0;
      bool_first = c2.0;
      domains = c3.0;
      items = c4.0;
      names = c5.0;
      distinct = c6.0;
      variables = c7.0;
      kinds = c8.0;
      many = c9.0;
      numbers = c10.0;
      at = c11.0;
      limits = c12.0;
    }

-- and each of them makes a specification well formed
pub well_formed_from : (p : Parts) → Formed p → is_well_formed p ≡ true
unfolding is_well_formed
well_formed_from p f =
    and_from _ _ f.instants (and_from _ _ f.bool_first (and_from _ _ f.domains (and_from _ _ f.items (and_from _ _ f.names (and_from _ _ f.distinct
    (and_from _ _ f.variables (and_from _ _ f.kinds (and_from _ _ f.many (and_from _ _ f.numbers (and_from _ _ f.at (and_from _ _ f.limits refl)))))))))))

pub formed : (spec : Spec) → Formed (parts_of spec)
formed spec = formed_of (parts_of spec) spec.well_formed

pub declared_formed : (declared : Declarations) → Formed (declared_parts declared)
declared_formed declared = formed_of (declared_parts declared) declared.formed

pub some_instant : (p : Parts) → Formed p → 0 < p.instants
some_instant p f = ltb-true 0 p.instants (and_parts _ _ f.instants).0

pub few_instants : (p : Parts) → Formed p → p.instants ≤ 256
few_instants p f = leb-true p.instants MOST_INSTANTS (and_parts _ _ f.instants).1

-- each count is within its limit
pub within_limit : (p : Parts) → Formed p → (w : Which) → count_of w p ≤ limit_of w
within_limit p f w = leb-true (count_of w p) (limit_of w) (listed w (λ k at. each_of (λ w. nat_le (count_of w p) (limit_of w)) counted f.limits k w at))
  where
    listed : (w : Which) → ((k : ℕ) → slice_get counted k ≡ Some w → nat_le (count_of w p) (limit_of w) ≡ true) → nat_le (count_of w p) (limit_of w) ≡ true
    listed which.Items each = each 0 refl
    listed which.Cells each = each 1 refl
    listed which.Sizes each = each 2 refl
    listed which.Bound each = each 3 refl
    listed which.Instances each = each 4 refl
    listed which.Nest each = each 5 refl

-- a domain has 1 to 64 values
pub domain_fits : (p : Parts) → Formed p → (d : ℕ) (domain : Domain) → slice_get p.domains d ≡ Some domain → values_fit domain.kind ≡ true
domain_fits p f d domain at = each_of (λ domain. values_fit domain.kind) p.domains f.domains d domain at

values_number : (k : DomainKind) → values_fit k ≡ true → (0 < count_of_values k) × (count_of_values k ≤ 64)
values_number k fit =
    let whole : length (values_of k) ≡ count_of_values k = ap length (values_are k) ∙ length-integers (first_of k) (count_of_values k) in
    let more : 0 < length (values_of k) = ltb-true 0 (length (values_of k)) (and_parts _ _ (and_parts _ _ fit).1).0 in
    let less : length (values_of k) ≤ MOST_VALUES = leb-true (length (values_of k)) MOST_VALUES (and_parts _ _ (and_parts _ _ fit).1).1 in
    (omega arith, omega arith)

pub some_value : (p : Parts) → Formed p → (d : ℕ) (domain : Domain) → slice_get p.domains d ≡ Some domain →
    (0 < count_of_values domain.kind) × (count_of_values domain.kind ≤ 64)
some_value p f d domain at = values_number domain.kind (domain_fits p f d domain at)

-- a range goes up, and not past a million
pub record RangeFits (low high : ℤ) : Type 0 where
  pub not_far_back : negsuc 999999 ≤ℤ low
  pub not_far_on : high ≤ℤ pos 1000000
  pub number : (high +ℤ pos 1) -ℤ low ≡ pos (at_least_zero ((high +ℤ pos 1) -ℤ low))
  pub some : 0 < at_least_zero ((high +ℤ pos 1) -ℤ low)
  pub few : at_least_zero ((high +ℤ pos 1) -ℤ low) ≤ 64

positive : (z : ℤ) → 0 < at_least_zero z → z ≡ pos (at_least_zero z)
positive (pos n) some = refl
positive (negsuc n) some = absurd (omega arith)

range_values : (low high : ℤ) → values_fit (kind.Range low high) ≡ true → RangeFits low high
range_values low high fit =
    let ends = and_parts _ _ (and_parts _ _ fit).0 in
    let lower = and_parts _ _ ends.0 in
    let upper = and_parts _ _ ends.1 in
    let sizes = values_number (kind.Range low high) fit in
    record {
      not_far_back = (Decides-int_le (negsuc 999999) low).0 lower.0;
      not_far_on = (Decides-int_le high (pos 1000000)).0 upper.1;
      number = positive ((high +ℤ pos 1) -ℤ low) sizes.0;
      some = sizes.0;
      few = sizes.1;
    }

pub range_fits : (p : Parts) → Formed p → (d : ℕ) (domain : Domain) → slice_get p.domains d ≡ Some domain →
    (low high : ℤ) → domain.kind ≡ kind.Range low high → RangeFits low high
range_fits p f d domain at low high is = range_values low high (sym (ap values_fit is) ∙ domain_fits p f d domain at)

-- a domain that has a kind is one
pub inside_from_kind : (w : World) (d : ℕ) → has_kind (kind_in w d) ≡ true → (domain : Domain) × (slice_get w.domains d ≡ Some domain)
inside_from_kind w d has = there (slice_get w.domains d) refl has
  where
    there : (o : Option Domain) → slice_get w.domains d ≡ o → has_kind (kind_in w d) ≡ true → (domain : Domain) × (slice_get w.domains d ≡ Some domain)
    there None is has = absurd (false≢true (rw is at has))
    there (Some domain) is has = (domain, is)

-- the domains that an item names are there
item_uses_right : (p : Parts) → Formed p → (k : ℕ) (item : Item) → slice_get p.items k ≡ Some item → list_all is_right (item_uses (world_of_parts p) item) ≡ true
item_uses_right p f k item at =
    all_flat is_right (item_uses (world_of_parts p)) p.items (all_left is_right (flat_map (item_uses (world_of_parts p)) p.items) (flat_map (λ a. uses (world_of_parts p) a.formula []) (claims_of p)) f.kinds) k item at

named : (p : Parts) → Formed p → (k : ℕ) (item : Item) → slice_get p.items k ≡ Some item → (j d : ℕ) → slice_get (item.args ++ item.value ∷ []) j ≡ Some d →
    (domain : Domain) × (slice_get p.domains d ≡ Some domain)
named p f k item at j d is =
    inside_from_kind (world_of_parts p) d
    (each_of is_right (item_uses (world_of_parts p) item) (item_uses_right p f k item at) j (of_domain (kind_in (world_of_parts p) d))
    (slice_get-map (λ d. of_domain (kind_in (world_of_parts p) d)) (item.args ++ item.value ∷ []) j ∙ ap (option_map (λ d. of_domain (kind_in (world_of_parts p) d))) is))

pub argument_domain : (p : Parts) → Formed p → (k : ℕ) (item : Item) → slice_get p.items k ≡ Some item → (j d : ℕ) → slice_get item.args j ≡ Some d →
    (domain : Domain) × (slice_get p.domains d ≡ Some domain)
argument_domain p f k item at j d is = named p f k item at j d (get_left item.args (item.value ∷ []) j d is)

pub value_domain : (p : Parts) → Formed p → (k : ℕ) (item : Item) → slice_get p.items k ≡ Some item → (domain : Domain) × (slice_get p.domains item.value ≡ Some domain)
value_domain p f k item at = named p f k item at (length item.args + 0) item.value (get_right item.args (item.value ∷ []) 0)

pub few_arguments : (p : Parts) → Formed p → (k : ℕ) (item : Item) → slice_get p.items k ≡ Some item → length item.args ≤ 4
few_arguments p f k item at = leb-true (length item.args) MOST_ARGUMENTS (each_of (λ item. nat_le (length item.args) MOST_ARGUMENTS) p.items f.items k item at)

-- the first value of a domain, and where it lies
pub first_at_zero : (p : Parts) → Formed p → (d : ℕ) (domain : Domain) → slice_get p.domains d ≡ Some domain → slice_get (values_in p.domains d) 0 ≡ Some (first_of domain.kind)
first_at_zero p f d domain at =
    let same : first_of domain.kind +ℤ pos 0 ≡ first_of domain.kind = omega (arith, ints) in
    value_of_index p.domains d domain 0 at (some_value p f d domain at).0 ∙ ap Some same

pub record FirstFits (z : ℤ) : Type 0 where
  pub not_far_back : negsuc 999999 ≤ℤ z
  pub not_far_on : z ≤ℤ pos 1000000

first_is_near : (k : DomainKind) → values_fit k ≡ true → FirstFits (first_of k)
first_is_near kind.Bool fit = record { not_far_back = omega (arith, ints); not_far_on = omega (arith, ints) }
first_is_near (kind.Range low high) fit =
    let r = range_values low high fit in
    record { not_far_back = r.not_far_back; not_far_on = omega (arith, ints, r.not_far_on, r.number, r.some) }
first_is_near (kind.Words words) fit = record { not_far_back = omega (arith, ints); not_far_on = omega (arith, ints) }

pub first_fits : (p : Parts) → Formed p → (d : ℕ) (domain : Domain) → slice_get p.domains d ≡ Some domain → (z : ℤ) → slice_get (values_in p.domains d) 0 ≡ Some z →
    FirstFits z
first_fits p f d domain at z first =
    let P : ℤ → Type 0 = λ z. FirstFits z in
    subst P (same_Some (first_of domain.kind) z (sym (first_at_zero p f d domain at) ∙ first)) (first_is_near domain.kind (domain_fits p f d domain at))

-- the value of an index, from the first on
pub value_from_first : (p : Parts) → Formed p → (d : ℕ) → d < length p.domains → (v : ℕ) → v < size_of p.domains d → (z : ℤ) → slice_get (values_in p.domains d) 0 ≡ Some z →
    slice_get (values_in p.domains d) v ≡ Some (z +ℤ pos v)
value_from_first p f d inside v below z first =
    let domain = get_within p.domains d inside in
    let same = same_Some (first_of domain.0.kind) z (sym (first_at_zero p f d domain.0 domain.1) ∙ first) in
    value_of_index p.domains d domain.0 v domain.1 (omega (arith, below, size_at p.domains d domain.0 domain.1)) ∙ ap (λ z. Some (z +ℤ pos v)) same

pub index_from_first : (p : Parts) → Formed p → (d : ℕ) → d < length p.domains → (v : ℕ) (x : ℤ) → v < size_of p.domains d → (z : ℤ) → slice_get (values_in p.domains d) 0 ≡ Some z → x ≡ z +ℤ pos v →
    index_of (values_in p.domains d) x ≡ Some v
index_from_first p f d inside v x below z first is =
    let domain = get_within p.domains d inside in
    let same = same_Some (first_of domain.0.kind) z (sym (first_at_zero p f d domain.0 domain.1) ∙ first) in
    index_of_value p.domains d domain.0 v x domain.1 (omega (arith, below, size_at p.domains d domain.0 domain.1)) (is ∙ ap (λ z. z +ℤ pos v) (sym same))

pub no_index_from_first : (p : Parts) → Formed p → (d : ℕ) → d < length p.domains → (x z : ℤ) → slice_get (values_in p.domains d) 0 ≡ Some z →
    ((v : ℕ) → v < size_of p.domains d → x ≢ z +ℤ pos v) → index_of (values_in p.domains d) x ≡ None
no_index_from_first p f d inside x z first other =
    let domain = get_within p.domains d inside in
    let same = same_Some (first_of domain.0.kind) z (sym (first_at_zero p f d domain.0 domain.1) ∙ first) in
    no_index p.domains d domain.0 x domain.1
    (λ v below is. other v (omega (arith, below, size_at p.domains d domain.0 domain.1)) (is ∙ ap (λ z. z +ℤ pos v) same))
