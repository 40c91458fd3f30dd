-- Where the domains, the items and the instants fit, nothing of a tree is out of range.
use Rattle.std.proofs.Common.{◌≡◌, ℕ, zero, suc, ◌<◌, ◌≤◌, ℤ, pos, negsuc, neg_ℤ, ◌+ℤ◌, ◌-ℤ◌, ◌≤ℤ◌, Bool, true, false, ◌&&◌, if◌then◌else◌, nat_lt, nat_le, List, [], ◌∷◌, ◌++◌, map, length, take, Option, None, Some, refl, ap, arith}
use Rattle.std.specs.Prelude.{int_le}
use Rattle.std.specs.List.{list_all, flat_map}
use Rattle.std.specs.Option.{option_map}
use Rattle.std.proofs.lemmas.Bool.{and_parts, and_from, ltb-true, leb-true, le-leb}
use Rattle.std.proofs.lemmas.Int.{ints}
use Rattle.std.proofs.lemmas.List.{length-map, drop_all}
use Rattle.trio_base.specs.declared.limits.TheConstants.{MOST_INSTANTS, MOST_VALUES, MOST_ARGUMENTS, GREATEST_NUMBER}
use Rattle.trio_types.specs.declared.spec.Domain.{Domain}
use Rattle.trio_types.specs.declared.spec.Item.{Item}
use Rattle.trio_types.specs.declared.spec.Axiom.{Axiom}
use Rattle.trio_types.specs.World.{integers, at_least_zero}
use Rattle.trio_types.specs.WellFormed.{is_written, values_fit, instant_fits}
use Rattle.trio_types.proofs.Integers.{Decides-int_le}
use Rattle.trio_types.proofs.Domains.{length-integers}
use Rattle.trio_types.proofs.Specs.{Formed}
use Rattle.trio_syntax.specs.declared.tree.Mention.{Mention}
use Rattle.trio_syntax.specs.declared.tree.Written.{Written}
use Rattle.trio_syntax.specs.declared.tree.IntTree.{IntTree}
use Rattle.trio_syntax.specs.declared.tree.ValuesTree.{ValuesTree}
use Rattle.trio_syntax.specs.declared.tree.ValuesTree.TheVariants as values
use Rattle.trio_syntax.specs.declared.tree.DeclarationTree.{DeclarationTree}
use Rattle.trio_syntax.specs.declared.tree.DeclarationTree.TheVariants as statement
use Rattle.trio_syntax.specs.declared.tree.SpecTree.{SpecTree}
use Rattle.trio_scope.specs.Places.{unless}
use Rattle.trio_scope.specs.Names.{domains_in, items_in}
use Rattle.trio_scope.specs.Gather.{places_in_claims}
use Rattle.trio_reader.specs.Erasure.{integer_of, values_kind, domain_from, domain_of, item_from, parts_of_tree}
use Rattle.trio_reader.specs.Ranges.{if_large, instants_places, has_values, fifth_place, arguments_places, values_places, statement_places, at_places, range_finding, out_of_range}
use Rattle.trio_canonical.proofs.SoundPhases.{both_empty, passes, all_empty, claims_each}
use Rattle.trio_canonical.proofs.SoundNumbers.{no_number_large}

-- a number that may be written, with a sign or without
small_number : (minus : Bool) (n : ℕ) → is_written (if minus then neg_ℤ (pos n) else pos n) ≡ true → n ≤ 1000000
small_number true zero is = omega arith
small_number true (suc n) is =
    let both = and_parts (int_le (negsuc 999999) (negsuc n)) (int_le (negsuc n) (pos 1000000)) is in
    let from : negsuc 999999 ≤ℤ negsuc n = (Decides-int_le (negsuc 999999) (negsuc n)).0 both.0 in omega (arith, ints)
small_number false n is =
    let both = and_parts (int_le (negsuc 999999) (pos n)) (int_le (pos n) (pos 1000000)) is in
    let to : pos n ≤ℤ pos 1000000 = (Decides-int_le (pos n) (pos 1000000)).0 both.1 in omega (arith, ints)

not_large : (n : IntTree) → is_written (integer_of n) ≡ true → if_large n.number ≡ []
not_large n is =
    passes (nat_le n.number.number GREATEST_NUMBER) n.number.place
    (le-leb n.number.number GREATEST_NUMBER (small_number n.minus n.number.number is))

-- 1 to 64 values
above_zero : (z : ℤ) → 0 < at_least_zero z → z ≡ pos (at_least_zero z)
above_zero (pos n) some = refl
above_zero (negsuc n) some = absurd (omega arith)

abbrev few : ℤ → ℕ → Bool
few low n = nat_lt 0 (length (integers low n)) && nat_le (length (integers low n)) MOST_VALUES

has_few : (low : ℤ) (n : ℕ) → few low n ≡ true → (0 < n) × (n ≤ 64)
has_few low n is =
    let both = and_parts (nat_lt 0 (length (integers low n))) (nat_le (length (integers low n)) MOST_VALUES) is in
    let some : 0 < length (integers low n) = ltb-true 0 (length (integers low n)) both.0 in
    let most : length (integers low n) ≤ 64 = leb-true (length (integers low n)) MOST_VALUES both.1 in
    (omega (arith, length-integers low n), omega (arith, length-integers low n))

has_range : (low high : ℤ) → few low (at_least_zero ((high +ℤ pos 1) -ℤ low)) ≡ true → has_values low high ≡ true
has_range low high is =
    let both = has_few low (at_least_zero ((high +ℤ pos 1) -ℤ low)) is in
    let count = above_zero ((high +ℤ pos 1) -ℤ low) both.0 in
    let up : low ≤ℤ high = omega (arith, ints, count, both.0) in
    let near : (high +ℤ pos 1) ≤ℤ (low +ℤ pos 64) = omega (arith, ints, count, both.1) in
    and_from (int_le low high) (int_le (high +ℤ pos 1) (low +ℤ pos MOST_VALUES)) ((Decides-int_le low high).1 up)
    ((Decides-int_le (high +ℤ pos 1) (low +ℤ pos 64)).1 near)

values_clean : (v : ValuesTree) → values_fit (values_kind v) ≡ true → values_places v ≡ []
values_clean (values.Range low high) fit =
    let l : ℤ = integer_of low in
    let h : ℤ = integer_of high in
    let both = and_parts (is_written l && is_written h) (few l (at_least_zero ((h +ℤ pos 1) -ℤ l))) fit in
    let ends = and_parts (is_written l) (is_written h) both.0 in
    let last : List ℕ = unless (has_values l h) high.number.place in
    both_empty (if_large low.number) (if_large high.number ++ last) (not_large low ends.0)
    (both_empty (if_large high.number) last (not_large high ends.1) (passes (has_values l h) high.number.place (has_range l h both.1)))
values_clean (values.Words words) fit =
    let same : length (map (λ (w : Mention). w.name) words) ≡ length words = length-map words (λ (w : Mention). w.name) in
    let most = (has_few (pos 0) (length (map (λ (w : Mention). w.name) words)) fit).1 in
    ap (λ ws. map (λ (w : Mention). w.place) (take 1 ws)) (drop_all 64 words (omega (arith, same, most)))

-- statements
statements_clean : (tree : SpecTree) (statements : List DeclarationTree) →
    list_all (λ (domain : Domain). values_fit domain.kind) (map domain_from (domains_in statements)) ≡ true →
    list_all (λ (item : Item). nat_le (length item.args) MOST_ARGUMENTS) (map (item_from tree) (items_in statements)) ≡ true →
    flat_map statement_places statements ≡ []
statements_clean tree [] domains items = refl
statements_clean tree (statement.Domain d ∷ rest) domains items =
    let both = and_parts (values_fit (values_kind d.values)) (list_all (λ (domain : Domain). values_fit domain.kind) (map domain_from (domains_in rest))) domains in
    both_empty (values_places d.values) (flat_map statement_places rest) (values_clean d.values both.0) (statements_clean tree rest both.1 items)
statements_clean tree (statement.Item i ∷ rest) domains items =
    let both = and_parts (nat_le (length (map (domain_of tree) i.args)) MOST_ARGUMENTS)
    (list_all (λ (item : Item). nat_le (length item.args) MOST_ARGUMENTS) (map (item_from tree) (items_in rest))) items in
    let most : length (map (domain_of tree) i.args) ≤ 4 = leb-true (length (map (domain_of tree) i.args)) MOST_ARGUMENTS both.0 in
    both_empty (arguments_places i) (flat_map statement_places rest)
    (ap (fifth_place i.name.place) (drop_all 4 i.args (omega (arith, length-map i.args (domain_of tree)))))
    (statements_clean tree rest domains both.1)

-- the instants that axioms and goals name
at_clean : (instants : ℕ) (at : Option Written) → instants ≤ 256 → instant_fits instants (option_map (λ k. k.number) at) ≡ true → at_places instants at ≡ []
at_clean instants None most fits = refl
at_clean instants (Some k) most fits =
    let below : k.number < instants = ltb-true k.number instants fits in
    both_empty (if_large k) (unless (nat_lt k.number instants) k.place)
    (passes (nat_le k.number GREATEST_NUMBER) k.place (le-leb k.number GREATEST_NUMBER (omega arith))) (passes (nat_lt k.number instants) k.place fits)

-- nothing is out of range
pub nothing_out_of_range : (tree : SpecTree) → Formed (parts_of_tree tree) → out_of_range tree ≡ []
unfolding out_of_range parts_of_tree
nothing_out_of_range tree f =
    both_empty (instants_places tree.instants) _
    (passes (nat_lt 0 tree.instants.number && nat_le tree.instants.number MOST_INSTANTS) tree.instants.place f.instants)
    (both_empty (flat_map statement_places tree.declarations) _
    (statements_clean tree tree.declarations (and_parts _ (list_all (λ (domain : Domain). values_fit domain.kind) (map domain_from (domains_in tree.declarations))) f.domains).1 f.items)
    (both_empty (flat_map (λ c. at_places tree.instants.number c.at) tree.claims) (places_in_claims range_finding tree)
    (all_empty (λ c. at_places tree.instants.number c.at) (λ c. instant_fits tree.instants.number (option_map (λ k. k.number) c.at))
    (λ c is. at_clean tree.instants.number c.at most is) tree.claims
    (claims_each tree (λ (a : Axiom). instant_fits tree.instants.number a.at) tree.claims f.at))
    (no_number_large tree f.numbers)))
  where
    most : tree.instants.number ≤ 256
    most =
        leb-true tree.instants.number MOST_INSTANTS
        (and_parts (nat_lt 0 tree.instants.number) (nat_le tree.instants.number MOST_INSTANTS) f.instants).1
