-- What holds of the axioms and the goals, from what holds of the claims of a tree; the limits and the instants.
use Rattle.std.proofs.Common.{◌≡◌, ℕ, Bool, true, false, cond, if◌then◌else◌, nat_lt, nat_le, List, [], ◌∷◌, ◌++◌, map, filter, find, Option, None, Some, refl, ◌∙◌}
use Rattle.std.specs.List.{list_all, flat_map}
use Rattle.std.specs.Option.{option_map}
use Rattle.std.proofs.lemmas.Bool.{and_parts, and_from, ltb-false, le-leb}
use Rattle.std.proofs.lemmas.List.Folds.{list_all-append, list_all-map}
use Rattle.trio_types.specs.declared.spec.DomainKind.TheVariants as kind
use Rattle.trio_types.specs.declared.spec.Domain.{Domain}
use Rattle.trio_types.specs.declared.spec.Axiom.{Axiom}
use Rattle.trio_types.specs.declared.spec.Which.{Which}
use Rattle.trio_types.specs.Parts.{Parts}
use Rattle.trio_types.specs.Limits.{count_of, limit_of, counted}
use Rattle.trio_types.specs.WellFormed.{has_bool, instants_fit, limits_are_met}
use Rattle.trio_limits.specs.Given.{given_count}
use Rattle.trio_limits.specs.Limits.{count_fault}
use Rattle.trio_syntax.specs.declared.tree.Written.{Written}
use Rattle.trio_syntax.specs.declared.tree.ClaimTree.{ClaimTree}
use Rattle.trio_syntax.specs.declared.tree.ValuesTree.{ValuesTree}
use Rattle.trio_syntax.specs.declared.tree.ValuesTree.TheVariants as values
use Rattle.trio_syntax.specs.declared.tree.DomainTree.{DomainTree}
use Rattle.trio_syntax.specs.declared.tree.SpecTree.{SpecTree}
use Rattle.trio_scope.specs.Places.{least, unless}
use Rattle.trio_scope.specs.Names.{domains_in}
use Rattle.trio_reader.specs.Erasure.{is_wanted, axiom_from, claims_from, values_kind, domain_from, parts_of_tree}
use Rattle.trio_reader.specs.Ranges.{if_large, at_places, out_of_range}
use Rattle.trio_reader.proofs.FormedPhases.{append_empty, unless_empty, none_mapped}
use Rattle.trio_reader.proofs.FormedDomains.{in_range}

-- what passes, whatever else is left out
one_more : {X : Type 0} (p : X → Bool) (b : Bool) (x : X) (xs : List X) → p x ≡ true → list_all p xs ≡ true → list_all p (if b then x ∷ xs else xs) ≡ true
one_more p true x xs here rest = and_from (p x) (list_all p xs) here rest
one_more p false x xs here rest = rest

filter_kept : {X : Type 0} (p test : X → Bool) (xs : List X) → list_all p xs ≡ true → list_all p (filter test xs) ≡ true
filter_kept p test [] all = refl
filter_kept p test (x ∷ xs) all =
    let both = and_parts (p x) (list_all p xs) all in one_more p (test x) x (filter test xs) both.0 (filter_kept p test xs both.1)

-- what holds of each claim holds of each axiom and goal
pub claims_pass : (tree : SpecTree) (q : Axiom → Bool) (claims : List ClaimTree) → list_all (λ c. q (axiom_from tree c)) claims ≡ true →
    list_all q (claims_from tree false claims ++ claims_from tree true claims) ≡ true
claims_pass tree q claims all =
    list_all-append q (claims_from tree false claims) (claims_from tree true claims)
    ∙ and_from (list_all q (claims_from tree false claims)) (list_all q (claims_from tree true claims)) (some_of false) (some_of true)
  where
    some_of : (goals : Bool) → list_all q (claims_from tree goals claims) ≡ true
    some_of goals =
        list_all-map q (axiom_from tree) (filter (is_wanted goals) claims) ∙ filter_kept (λ c. q (axiom_from tree c)) (is_wanted goals) claims all

-- the instants that axioms and goals name
within : ℕ → Option ℕ → Bool
within instants k = elim k as (λ x. Bool) [ None ↦ true | Some n ↦ nat_lt n instants ]

at_fits : (instants : ℕ) (at : Option Written) → at_places instants at ≡ [] → within instants (option_map (λ k. k.number) at) ≡ true
unfolding within
at_fits instants None none = refl
at_fits instants (Some k) none =
    unless_empty (nat_lt k.number instants) k.place (append_empty (if_large k) (unless (nat_lt k.number instants) k.place) none).1

each_at : (tree : SpecTree) (claims : List ClaimTree) → flat_map (λ c. at_places tree.instants.number c.at) claims ≡ [] →
    list_all (λ c. within tree.instants.number (option_map (λ k. k.number) c.at)) claims ≡ true
each_at tree [] none = refl
each_at tree (c ∷ cs) none =
    let both = append_empty (at_places tree.instants.number c.at) (flat_map (λ c. at_places tree.instants.number c.at) cs) none in
    and_from (within tree.instants.number (option_map (λ k. k.number) c.at))
    (list_all (λ c. within tree.instants.number (option_map (λ k. k.number) c.at)) cs) (at_fits tree.instants.number c.at both.0) (each_at tree cs both.1)

pub instants_fit_from_range : (tree : SpecTree) → least (out_of_range tree) ≡ None → instants_fit (parts_of_tree tree) ≡ true
unfolding parts_of_tree within
instants_fit_from_range tree none =
    claims_pass tree (λ (a : Axiom). within tree.instants.number a.at) tree.claims (each_at tree tree.claims (in_range tree none).at)

-- domain 0 is `bool`, and no other is
no_other : (domains : List DomainTree) →
    list_all (λ (d : Domain). elim d.kind as (λ x. Bool) [ kind.Bool ↦ false | kind.Range low high ↦ true | kind.Words words ↦ true ]) (map domain_from domains) ≡ true
no_other [] = refl
no_other (d ∷ ds) = and_from _ _ (other d.values) (no_other ds)
  where
    other : (v : ValuesTree) → (elim (values_kind v) as (λ x. Bool) [ kind.Bool ↦ false | kind.Range low high ↦ true | kind.Words words ↦ true ]) ≡ true
    other (values.Range low high) = refl
    other (values.Words words) = refl

pub has_bool_of_tree : (tree : SpecTree) → has_bool (parts_of_tree tree) ≡ true
unfolding parts_of_tree
has_bool_of_tree tree = no_other (domains_in tree.declarations)

-- the counts
none_found : (b : Bool) (w : Which) (r : Option Which) → cond b (Some w) r ≡ None → (b ≡ false) × (r ≡ None)
none_found true w r is = cc
none_found false w r is = (refl, is)

none_above : (parts : Parts) (ws : List Which) → find (λ w. nat_lt (limit_of w) (count_of w parts)) ws ≡ None →
    list_all (λ w. nat_le (count_of w parts) (limit_of w)) ws ≡ true
none_above parts [] none = refl
none_above parts (w ∷ ws) none =
    let both = none_found (nat_lt (limit_of w) (count_of w parts)) w (find (λ w. nat_lt (limit_of w) (count_of w parts)) ws) none in
    and_from (nat_le (count_of w parts) (limit_of w)) (list_all (λ w. nat_le (count_of w parts) (limit_of w)) ws)
    (le-leb (count_of w parts) (limit_of w) (ltb-false (limit_of w) (count_of w parts) both.0)) (none_above parts ws both.1)

pub limits_are_met_from_counts : (parts : Parts) → count_fault parts ≡ None → limits_are_met parts ≡ true
unfolding count_fault
limits_are_met_from_counts parts none =
    none_above parts counted
    (none_mapped (λ w. (w, given_count (count_of w parts))) (find (λ w. nat_lt (limit_of w) (count_of w parts)) counted) none)
