-- Where nothing is out of range, the domains and the items fit, and the instants do.
use Rattle.std.proofs.Common.{◌≡◌, ℕ, zero, suc, ◌<◌, ◌≤◌, ℤ, pos, negsuc, neg_ℤ, ◌+ℤ◌, ◌-ℤ◌, ◌≤ℤ◌, Bool, true, false, ◌&&◌, if◌then◌else◌, nat_lt, nat_le, List, [], ◌∷◌, map, length, take, drop, None, refl, ap, ◌∙◌, arith}
use Rattle.std.specs.Prelude.{int_le}
use Rattle.std.specs.List.{list_all, flat_map}
use Rattle.std.proofs.lemmas.Bool.{and_parts, and_from, leb-true, lt-ltb, le-leb}
use Rattle.std.proofs.lemmas.Int.{ints}
use Rattle.std.proofs.lemmas.List.{length-map}
use Rattle.trio_base.specs.declared.limits.TheConstants.{MOST_INSTANTS, MOST_VALUES, MOST_ARGUMENTS, GREATEST_NUMBER}
use Rattle.trio_types.specs.declared.spec.DomainKind.TheVariants as kind
use Rattle.trio_types.specs.declared.spec.Domain.{Domain}
use Rattle.trio_types.specs.declared.spec.Item.{Item}
use Rattle.trio_types.specs.World.{integers, at_least_zero}
use Rattle.trio_types.specs.WellFormed.{has_instants, is_written, values_fit, domains_fit, items_fit}
use Rattle.trio_types.proofs.Integers.{Decides-int_le}
use Rattle.trio_types.proofs.Domains.{length-integers}
use Rattle.trio_syntax.specs.declared.tree.Mention.{Mention}
use Rattle.trio_syntax.specs.declared.tree.RefTree.{RefTree}
use Rattle.trio_syntax.specs.declared.tree.IntTree.{IntTree}
use Rattle.trio_syntax.specs.declared.tree.ValuesTree.{ValuesTree}
use Rattle.trio_syntax.specs.declared.tree.ValuesTree.TheVariants as values
use Rattle.trio_syntax.specs.declared.tree.DeclarationTree.{DeclarationTree}
use Rattle.trio_syntax.specs.declared.tree.DeclarationTree.TheVariants as statement
use Rattle.trio_syntax.specs.declared.tree.SpecTree.{SpecTree}
use Rattle.trio_syntax.specs.Shape.{mentions_a_name, values_are_formed, declaration_is_formed, claim_is_formed, is_formed}
use Rattle.trio_scope.specs.Places.{least, unless}
use Rattle.trio_scope.specs.Names.{domains_in, items_in}
use Rattle.trio_scope.specs.Gather.{places_in_claims}
use Rattle.trio_reader.specs.Erasure.{integer_of, values_kind, domain_from, domain_of, item_from, parts_of_tree}
use Rattle.trio_reader.specs.Ranges.{if_large, instants_places, has_values, fifth_place, arguments_places, values_places, statement_places, at_places, range_finding, out_of_range}
use Rattle.trio_reader.proofs.FormedPhases.{append_empty, unless_empty, least_none}

-- nothing is out of range, list by list
pub record InRange (tree : SpecTree) : Type 0 where
  pub instants : instants_places tree.instants ≡ []
  pub statements : flat_map statement_places tree.declarations ≡ []
  pub at : flat_map (λ c. at_places tree.instants.number c.at) tree.claims ≡ []
  pub numbers : places_in_claims range_finding tree ≡ []

pub in_range : (tree : SpecTree) → least (out_of_range tree) ≡ None → InRange tree
unfolding out_of_range
in_range tree none =
    let a = append_empty (instants_places tree.instants) _ (least_none (out_of_range tree) none) in
    let b = append_empty (flat_map statement_places tree.declarations) _ a.1 in
    let c = append_empty (flat_map (λ c. at_places tree.instants.number c.at) tree.claims) (places_in_claims range_finding tree) b.1 in
    record { instants = a.0; statements = b.0; at = c.0; numbers = c.1 }

-- a number that may be written, with a sign or without
written_from : (low : ℤ) → negsuc 999999 ≤ℤ low → low ≤ℤ pos 1000000 → is_written low ≡ true
written_from low from to =
    and_from (int_le (negsuc 999999) low) (int_le low (pos 1000000))
    ((Decides-int_le (negsuc 999999) low).1 from) ((Decides-int_le low (pos 1000000)).1 to)

signed_number : (minus : Bool) (n : ℕ) → n ≤ 1000000 → is_written (if minus then neg_ℤ (pos n) else pos n) ≡ true
signed_number true zero small = written_from (pos 0) (omega (arith, ints)) (omega (arith, ints))
signed_number true (suc n) small = written_from (negsuc n) (omega (arith, ints)) (omega (arith, ints))
signed_number false n small = written_from (pos n) (omega (arith, ints)) (omega (arith, ints))

written : (n : IntTree) → if_large n.number ≡ [] → is_written (integer_of n) ≡ true
written n none =
    signed_number n.minus n.number.number
    (leb-true n.number.number GREATEST_NUMBER (unless_empty (nat_le n.number.number GREATEST_NUMBER) n.number.place none))

-- 1 to 64 values
few : (low : ℤ) (n : ℕ) → 0 < n → n ≤ 64 →
    (nat_lt 0 (length (integers low n)) && nat_le (length (integers low n)) MOST_VALUES) ≡ true
few low n some most =
    ap (λ l. nat_lt 0 l && nat_le l MOST_VALUES) (length-integers low n)
    ∙ and_from (nat_lt 0 n) (nat_le n MOST_VALUES) (lt-ltb 0 n some) (le-leb n MOST_VALUES most)

not_negative : (z : ℤ) → pos 0 ≤ℤ z → z ≡ pos (at_least_zero z)
not_negative (pos n) from = refl
not_negative (negsuc n) from = absurd (omega (arith, ints))

range_fits : (low high : ℤ) → is_written low ≡ true → is_written high ≡ true → has_values low high ≡ true → values_fit (kind.Range low high) ≡ true
range_fits low high lower upper has =
    let both = and_parts (int_le low high) (int_le (high +ℤ pos 1) (low +ℤ pos MOST_VALUES)) has in
    let up : low ≤ℤ high = (Decides-int_le low high).0 both.0 in
    let near : (high +ℤ pos 1) ≤ℤ (low +ℤ pos 64) = (Decides-int_le (high +ℤ pos 1) (low +ℤ pos 64)).0 both.1 in
    let from : pos 0 ≤ℤ ((high +ℤ pos 1) -ℤ low) = omega (arith, ints, up) in
    let is = not_negative ((high +ℤ pos 1) -ℤ low) from in
    and_from (is_written low && is_written high) _ (and_from (is_written low) (is_written high) lower upper)
    (few low (at_least_zero ((high +ℤ pos 1) -ℤ low)) (omega (arith, ints, is, up)) (omega (arith, ints, is, near)))

no_further : (n : ℕ) (words : List Mention) → map (λ (w : Mention). w.place) (take 1 (drop n words)) ≡ [] → length words ≤ n
no_further zero [] none = omega arith
no_further zero (w ∷ ws) none = cc
no_further (suc n) [] none = omega arith
no_further (suc n) (w ∷ ws) none = let below : length ws ≤ n = no_further n ws none in omega arith

some_word : (words : List Mention) → values_are_formed (values.Words words) ≡ true → 0 < length words
some_word [] formed = cc
some_word (w ∷ ws) formed = omega arith

values_in_range : (v : ValuesTree) → values_are_formed v ≡ true → values_places v ≡ [] → values_fit (values_kind v) ≡ true
values_in_range (values.Range low high) formed none =
    let a = append_empty (if_large low.number) _ none in
    let b = append_empty (if_large high.number) (unless (has_values (integer_of low) (integer_of high)) high.number.place) a.1 in
    range_fits (integer_of low) (integer_of high) (written low a.0) (written high b.0)
    (unless_empty (has_values (integer_of low) (integer_of high)) high.number.place b.1)
values_in_range (values.Words words) formed none =
    let same : length (map (λ (w : Mention). w.name) words) ≡ length words = length-map words (λ (w : Mention). w.name) in
    let some : 0 < length words = some_word words formed in
    let most : length words ≤ 64 = no_further 64 words none in
    few (pos 0) (length (map (λ (w : Mention). w.name) words)) (omega arith) (omega arith)

each_domain : (statements : List DeclarationTree) → list_all declaration_is_formed statements ≡ true → flat_map statement_places statements ≡ [] →
    list_all (λ (domain : Domain). values_fit domain.kind) (map domain_from (domains_in statements)) ≡ true
each_domain [] formed none = refl
each_domain (statement.Domain d ∷ rest) formed none =
    let f = and_parts (declaration_is_formed (statement.Domain d)) (list_all declaration_is_formed rest) formed in
    let g = and_parts (mentions_a_name d.name) (values_are_formed d.values) f.0 in
    let n = append_empty (values_places d.values) (flat_map statement_places rest) none in
    and_from (values_fit (values_kind d.values)) (list_all (λ (domain : Domain). values_fit domain.kind) (map domain_from (domains_in rest)))
    (values_in_range d.values g.1 n.0) (each_domain rest f.1 n.1)
each_domain (statement.Item i ∷ rest) formed none =
    each_domain rest (and_parts (declaration_is_formed (statement.Item i)) (list_all declaration_is_formed rest) formed).1
    (append_empty (arguments_places i) (flat_map statement_places rest) none).1

bool_fits : values_fit kind.Bool ≡ true
bool_fits = few (pos 0) 2 (omega arith) (omega arith)

pub domains_fit_from_range : (tree : SpecTree) → is_formed tree ≡ true → least (out_of_range tree) ≡ None → domains_fit (parts_of_tree tree) ≡ true
unfolding parts_of_tree
domains_fit_from_range tree formed none =
    and_from (values_fit kind.Bool) (list_all (λ (domain : Domain). values_fit domain.kind) (map domain_from (domains_in tree.declarations))) bool_fits
    (each_domain tree.declarations
    (and_parts (list_all declaration_is_formed tree.declarations) (list_all claim_is_formed tree.claims) formed).0 (in_range tree none).statements)

no_fifth : (n name : ℕ) (args : List RefTree) → fifth_place name (drop n args) ≡ [] → length args ≤ n
no_fifth zero name [] none = omega arith
no_fifth zero name (r ∷ rs) none = cc
no_fifth (suc n) name [] none = omega arith
no_fifth (suc n) name (r ∷ rs) none = let below : length rs ≤ n = no_fifth n name rs none in omega arith

each_item : (tree : SpecTree) (statements : List DeclarationTree) → flat_map statement_places statements ≡ [] →
    list_all (λ (item : Item). nat_le (length item.args) MOST_ARGUMENTS) (map (item_from tree) (items_in statements)) ≡ true
each_item tree [] none = refl
each_item tree (statement.Domain d ∷ rest) none = each_item tree rest (append_empty (values_places d.values) (flat_map statement_places rest) none).1
each_item tree (statement.Item i ∷ rest) none =
    let n = append_empty (arguments_places i) (flat_map statement_places rest) none in
    let same : length (map (domain_of tree) i.args) ≡ length i.args = length-map i.args (domain_of tree) in
    let below : length i.args ≤ 4 = no_fifth 4 i.name.place i.args n.0 in
    and_from (nat_le (length (map (domain_of tree) i.args)) MOST_ARGUMENTS)
    (list_all (λ (item : Item). nat_le (length item.args) MOST_ARGUMENTS) (map (item_from tree) (items_in rest)))
    (le-leb (length (map (domain_of tree) i.args)) MOST_ARGUMENTS (omega arith)) (each_item tree rest n.1)

pub items_fit_from_range : (tree : SpecTree) → is_formed tree ≡ true → least (out_of_range tree) ≡ None → items_fit (parts_of_tree tree) ≡ true
unfolding parts_of_tree
items_fit_from_range tree formed none = each_item tree tree.declarations (in_range tree none).statements

pub has_instants_from_range : (tree : SpecTree) → least (out_of_range tree) ≡ None → has_instants (parts_of_tree tree) ≡ true
unfolding parts_of_tree
has_instants_from_range tree none =
    unless_empty (nat_lt 0 tree.instants.number && nat_le tree.instants.number MOST_INSTANTS) tree.instants.place (in_range tree none).instants
