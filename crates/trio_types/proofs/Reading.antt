-- The reads of terms: the indexes of arguments, the cell and its value.
use Rattle.std.proofs.Common.{◌≡◌, ℕ, zero, suc, ◌+◌, ◌<◌, ◌≤◌, ℤ, pos, ◌+ℤ◌, nat_abs, Bool, true, false, nat_lt, List, [], ◌∷◌, ◌++◌, map, length, take, drop, get_or, set, Option, None, Some, slice_get, refl, sym, ap, ◌∙◌, arith}
use Rattle.std.specs.Option.{option_map, option_and_then}
use Rattle.std.proofs.Math.Logic.{⊎_elim}
use Rattle.std.proofs.lemmas.Bool.{false≢true, ltb-true, lt-ltb, and_from, cases_Bool}
use Rattle.std.proofs.lemmas.Int.{ints}
use Rattle.std.proofs.lemmas.List.{drop_more, drop_all, append-nil}
use Rattle.std.proofs.lemmas.Option.{none-some, same_Some, slice_get-map, slice_get_within, get_or_from_slice_get}
use Rattle.trio_types.specs.declared.spec.DomainKind.{DomainKind}
use Rattle.trio_types.specs.declared.spec.DomainKind.TheVariants as domain_kind
use Rattle.trio_types.specs.declared.spec.Domain.{Domain}
use Rattle.trio_types.specs.declared.spec.Item.{Item}
use Rattle.trio_types.specs.declared.formula.Term.{Term}
use Rattle.trio_types.specs.declared.formula.Term.TheVariants as term
use Rattle.trio_types.specs.World.{World, values_in, size_of}
use Rattle.trio_types.specs.Values.{value, index_of, indexes, cell_of_item}
use Rattle.trio_types.specs.Cells.{Cell, the_cell, cells_of, are_indexes, number_at, cell_values, IsTable}
use Rattle.trio_types.specs.Kinds.{Kind, no_kind, number, truth_value, word, has_kind, kind_in, kind_if_constant, kind_of_constant}
use Rattle.trio_types.specs.Bounds.{greatest, domain_bound}
use Rattle.trio_types.proofs.Domains.{first_of, size_at, value_of_index, index_below}
use Rattle.trio_types.proofs.CellNumbers.{one_more, values_from_item}
use Rattle.trio_types.proofs.CellOrder.{entry_is_value}
use Rattle.trio_types.proofs.ValueAt.{value-Read}

-- the greatest of some numbers is no less than each
pub greatest_above : (ns : List ℕ) (k n : ℕ) → slice_get ns k ≡ Some n → n ≤ greatest ns
greatest_above [] k n at = absurd (none-some n at)
greatest_above (m ∷ ns) zero n at = omega (arith, same_Some m n at)
greatest_above (m ∷ ns) (suc k) n at = omega (arith, greatest_above ns k n at)

pub domain_above : (w : World) (d m : ℕ) (z : ℤ) → slice_get (values_in w.domains d) m ≡ Some z → nat_abs z ≤ domain_bound w d
domain_above w d m z at = greatest_above (map nat_abs (values_in w.domains d)) m (nat_abs z) (slice_get-map nat_abs (values_in w.domains d) m ∙ ap (option_map nat_abs) at)

-- constants
not_below : (b : Bool) (k : Kind) → b ≡ false → has_kind (kind_if_constant b k) ≡ false
not_below b no_kind fails = refl
not_below b number fails = refl
not_below b truth_value fails = rw fails refl
not_below b (word d) fails = rw fails refl

pub constant_below : (w : World) (d v : ℕ) → has_kind (kind_of_constant w d v) ≡ true → v < size_of w.domains d
constant_below w d v has =
    ⊎_elim (λ yes. ltb-true v (size_of w.domains d) yes)
    (λ no. absurd (false≢true (sym (not_below (nat_lt v (size_of w.domains d)) (kind_in w d) no) ∙ has))) (cases_Bool (nat_lt v (size_of w.domains d)))

pub constant_value : (w : World) (d v : ℕ) → has_kind (kind_of_constant w d v) ≡ true → slice_get (values_in w.domains d) v ≡ Some (pos v)
constant_value w d v has = at_domain (slice_get w.domains d) refl
  where
    index_is : (domain : Domain) → slice_get w.domains d ≡ Some domain → first_of domain.kind ≡ pos 0 → slice_get (values_in w.domains d) v ≡ Some (pos v)
    index_is domain at first =
        let same : first_of domain.kind +ℤ pos v ≡ pos v = omega (arith, ints, first) in
        value_of_index w.domains d domain v at (omega (arith, constant_below w d v has, size_at w.domains d domain at)) ∙ ap Some same

    no_range : (b : Bool) → has_kind (kind_if_constant b number) ≡ true → ⊥
    no_range b h = false≢true h

    at_kind : (domain : Domain) (k : DomainKind) → slice_get w.domains d ≡ Some domain → domain.kind ≡ k → slice_get (values_in w.domains d) v ≡ Some (pos v)
    at_kind domain domain_kind.Bool at is = index_is domain at (ap first_of is)
    at_kind domain (domain_kind.Words words) at is = index_is domain at (ap first_of is)
    at_kind domain (domain_kind.Range low high) at is = absurd (no_range (nat_lt v (size_of w.domains d)) (rw (at, is) at has))

    at_domain : (o : Option Domain) → slice_get w.domains d ≡ o → slice_get (values_in w.domains d) v ≡ Some (pos v)
    at_domain None is = absurd (false≢true (rw is at has))
    at_domain (Some domain) is = at_kind domain domain.kind is refl

pub map_id : {X : Type 0} (o : Option X) → option_map (λ x. x) o ≡ o
map_id None = refl
map_id (Some x) = refl

-- the indexes of arguments, one after another
pub index_more : (domains : List Domain) (ds : List ℕ) (zs : List (Option ℤ)) (k : ℕ) (idx : List ℕ) (z : ℤ) (v : ℕ) → k < length ds → k < length idx →
    slice_get zs k ≡ Some (Some z) → index_of (values_in domains (get_or ds k 0)) z ≡ Some v →
    indexes domains ds zs ≡ option_map (λ vs. take k idx ++ vs) (indexes domains (drop k ds) (drop k zs)) →
    indexes domains ds zs ≡ option_map (λ vs. take (k + 1) (set idx k v) ++ vs) (indexes domains (drop (k + 1) ds) (drop (k + 1) zs))
index_more domains ds zs k idx z v inside room at is told =
    let d = drop_more ds k 0 inside in
    let y = drop_more zs k (Some z) (slice_get_within zs k (Some z) at) ∙ ap (λ o. o ∷ drop (k + 1) zs) (get_or_from_slice_get zs k (Some z) (Some z) at) in
    told
    ∙ ap (option_map (λ vs. take k idx ++ vs))
    (ap (λ l. indexes domains l (drop k zs)) d ∙ ap (indexes domains (get_or ds k 0 ∷ drop (k + 1) ds)) y
    ∙ ap (option_and_then (λ v. option_map (λ vs. v ∷ vs) (indexes domains (drop (k + 1) ds) (drop (k + 1) zs)))) is)
    ∙ one_more idx k v (indexes domains (drop (k + 1) ds) (drop (k + 1) zs)) room

-- an argument without a value, or without an index
pub no_value_at : (domains : List Domain) (ds : List ℕ) (zs : List (Option ℤ)) (k : ℕ) → k < length ds → slice_get zs k ≡ Some None → indexes domains ds zs ≡ None
no_value_at domains [] zs k inside at = absurd (omega arith)
no_value_at domains (d ∷ ds) [] k inside at = refl
no_value_at domains (d ∷ ds) (None ∷ zs) k inside at = refl
no_value_at domains (d ∷ ds) (Some y ∷ zs) zero inside at = absurd (none-some y (sym (same_Some (Some y) None at)))
no_value_at domains (d ∷ ds) (Some y ∷ zs) (suc k) inside at = rw (no_value_at domains ds zs k (omega arith) at) (nothing (index_of (values_in domains d) y))
  where
    nothing : (o : Option ℕ) → option_and_then (λ v. option_map (λ vs. v ∷ vs) None) o ≡ None
    nothing None = refl
    nothing (Some v) = refl

pub no_index_at : (domains : List Domain) (ds : List ℕ) (zs : List (Option ℤ)) (k : ℕ) (z : ℤ) → k < length ds → slice_get zs k ≡ Some (Some z) →
    index_of (values_in domains (get_or ds k 0)) z ≡ None → indexes domains ds zs ≡ None
no_index_at domains [] zs k z inside at none = absurd (omega arith)
no_index_at domains (d ∷ ds) [] k z inside at none = refl
no_index_at domains (d ∷ ds) (None ∷ zs) k z inside at none = refl
no_index_at domains (d ∷ ds) (Some y ∷ zs) zero z inside at none =
    ap (option_and_then (λ v. option_map (λ vs. v ∷ vs) (indexes domains ds zs))) (ap (index_of (values_in domains d)) (same_Some y z (same_Some (Some y) (Some z) at)) ∙ none)
no_index_at domains (d ∷ ds) (Some y ∷ zs) (suc k) z inside at none = rw (no_index_at domains ds zs k z (omega arith) at none) (nothing (index_of (values_in domains d) y))
  where
    nothing : (o : Option ℕ) → option_and_then (λ v. option_map (λ vs. v ∷ vs) None) o ≡ None
    nothing None = refl
    nothing (Some v) = refl

-- all indexes are found
pub all_indexes : (domains : List Domain) (ds : List ℕ) (zs : List (Option ℤ)) (k : ℕ) (idx : List ℕ) → length ds ≤ k → length zs ≤ k →
    indexes domains ds zs ≡ option_map (λ vs. take k idx ++ vs) (indexes domains (drop k ds) (drop k zs)) → indexes domains ds zs ≡ Some (take k idx)
all_indexes domains ds zs k idx past too told =
    told ∙ ap (option_map (λ vs. take k idx ++ vs)) (ap (λ l. indexes domains l (drop k zs)) (drop_all k ds past) ∙ ap (indexes domains []) (drop_all k zs too))
    ∙ ap Some (append-nil (take k idx))

-- and they are those of values
pub indexes_fit : (domains : List Domain) (ds : List ℕ) (zs : List (Option ℤ)) (vs : List ℕ) → ((k : ℕ) (d : ℕ) → slice_get ds k ≡ Some d → d < length domains) → indexes domains ds zs ≡ Some vs → are_indexes domains ds vs ≡ true
indexes_fit domains [] [] vs there is = ap (are_indexes domains []) (sym (same_Some [] vs is))
indexes_fit domains [] (z ∷ zs) vs there is = absurd (none-some vs is)
indexes_fit domains (d ∷ ds) [] vs there is = absurd (none-some vs is)
indexes_fit domains (d ∷ ds) (None ∷ zs) vs there is = absurd (none-some vs is)
indexes_fit domains (d ∷ ds) (Some z ∷ zs) vs there is =
    first (index_of (values_in domains d) z) (indexes domains ds zs) refl refl is (λ us more. indexes_fit domains ds zs us (λ k d is. there (suc k) d is) more)
  where
    first : (o : Option ℕ) (r : Option (List ℕ)) → index_of (values_in domains d) z ≡ o → indexes domains ds zs ≡ r →
        option_and_then (λ v. option_map (λ us. v ∷ us) (indexes domains ds zs)) (index_of (values_in domains d) z) ≡ Some vs →
        ((us : List ℕ) → indexes domains ds zs ≡ Some us → are_indexes domains ds us ≡ true) → are_indexes domains (d ∷ ds) vs ≡ true
    first None r at more h rest = absurd (none-some vs (rw at at h))
    first (Some v) None at more h rest = absurd (none-some vs (rw (at, more) at h))
    first (Some v) (Some us) at more h rest =
        let same = same_Some (v ∷ us) vs (rw (at, more) at h) in
        ap (are_indexes domains (d ∷ ds)) (sym same)
        ∙ and_from (nat_lt v (size_of domains d)) (are_indexes domains ds us) (lt-ltb v (size_of domains d) (index_below (values_in domains d) z v at))
        (rest us more)

pub value-of_cell : (w : World) (t : List ℕ) (n v : ℕ) (c : Cell) (item : Item) (z : ℤ) → slice_get w.items c.item ≡ Some item → IsTable w t → slice_get (cells_of w) n ≡ Some c → slice_get t n ≡ Some v →
    slice_get (values_in w.domains item.value) v ≡ Some z → number_at w t c ≡ Some z
value-of_cell w t n v c item z at table place entry is =
    ap (option_and_then (λ index. slice_get (cell_values w c) index)) (entry_is_value w t n c table place ∙ entry) ∙ ap (λ zs. slice_get zs v) (values_from_item w c item at) ∙ is

pub read_is : (w : World) (n : ℕ) (args : List Term) (e : List ℤ) (t : List ℕ) (i : ℕ) (item : Item) (o : Option (List ℕ)) → slice_get w.items n ≡ Some item →
    indexes w.domains item.args (map (λ a. value w a e t i) args) ≡ o → value w (term.Read n args) e t i ≡ option_and_then (number_at w t) (option_map (λ vs. the_cell n vs i) o)
read_is w n args e t i item o at is =
    value-Read w n args e t i
    ∙ ap (λ o. option_and_then (number_at w t) (cell_of_item w n o (map (λ a. value w a e t i) args) i)) at
    ∙ ap (λ o. option_and_then (number_at w t) (option_map (λ vs. the_cell n vs i) o)) is
