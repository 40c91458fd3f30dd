-- The loop that finds the indexes of the arguments of a read.
use Rattle.std.proofs.Common.{◌≡◌, ℕ, ◌+◌, ◌<◌, ◌≤◌, ℤ, nat_abs, true, List, ◌++◌, map, length, take, drop, get_or, set, Option, None, Some, slice_get, to_z, of_z, w64, sym, ap, ◌∙◌, arith}
use Rattle.std.specs.Option.{option_map}
use Rattle.std.proofs.lemmas.List.{length-set}
use Rattle.std.proofs.lemmas.Option.{slice_get-map, slice_get-get_or, slice_get_within}
use Rattle.trio_types.specs.declared.spec.Domain.{Domain}
use Rattle.trio_types.specs.declared.spec.Item.{Item}
use Rattle.trio_types.specs.World.{values_in}
use Rattle.trio_types.specs.Values.{index_of, indexes}
use Rattle.trio_types.specs.Cells.{are_indexes}
use Rattle.trio_types.specs.Parts.{Parts}
use Rattle.trio_types.proofs.Specs.{Formed, value_domain, few_arguments, argument_domain}
use Rattle.trio_types.proofs.CellNumbers.{args_named, size_inside}
use Rattle.trio_types.proofs.Bounded.{passed}
use Rattle.trio_types.proofs.Reading.{all_indexes, index_more, indexes_fit, map_id, no_index_at}

-- an element at its place
pub element_at : {X : Type 0} (xs : List X) (k : ℕ) (x : X) → k < length xs → x ≡ get_or xs k x → slice_get xs k ≡ Some x
element_at xs k x inside is = slice_get-get_or xs k x inside ∙ ap Some (sym is)

pub mapped_at : {X Y : Type 0} (f : X → Y) (xs : List X) (k : ℕ) (x : X) (y : Y) → k < length xs → x ≡ get_or xs k x → f x ≡ y → slice_get (map f xs) k ≡ Some y
mapped_at f xs k x y inside at is = slice_get-map f xs k ∙ ap (option_map f) (element_at xs k x inside at) ∙ ap Some is

-- the argument domains of an item, as many as there are arguments
pub record ArgumentsOf (domains : List Domain) (item : Item) (n : ℕ) (ds : List ℕ) : Type 0 where
  pub are : ds ≡ item.args
  pub long : length ds ≡ n
  pub few : n ≤ 4
  pub inside : (k : ℕ) → k < n → get_or ds k 0 < length domains
  pub named : (k d : ℕ) → slice_get ds k ≡ Some d → d < length domains
  pub value_inside : item.value < length domains

pub arguments_of : (p : Parts) → Formed p → (m n : ℕ) (item : Item) (ds : List ℕ) → slice_get p.items m ≡ Some item → length item.args ≡ n → ds ≡ item.args → ArgumentsOf p.domains item n ds
arguments_of p f m n item ds at long are =
    let value = value_domain p f m item at in
    record {
      are = are;
      long = ap length are ∙ long;
      few = omega (arith, few_arguments p f m item at);
      inside = λ k below. omega (arith, ap (λ l. get_or l k 0) are, size_inside p.domains item.args k (args_named p f m item at) (omega arith));
      named = λ k d is. let domain = argument_domain p f m item at k d (ap (λ l. slice_get l k) (sym are) ∙ is) in slice_get_within p.domains d domain.0 domain.1;
      value_inside = slice_get_within p.domains item.value value.0 value.1;
    }

-- the indexes of the first arguments, and those of the arguments that are left
pub record Indexed (domains : List Domain) (ds : List ℕ) (zs : List (Option ℤ)) (k : ℕ) (found : List ℕ) : Type 0 where
  pub told : indexes domains ds zs ≡ option_map (λ vs. take k found ++ vs) (indexes domains (drop k ds) (drop k zs))
  pub four : length found ≡ 4

pub none_indexed : (domains : List Domain) (ds : List ℕ) (zs : List (Option ℤ)) (found : List ℕ) → length found ≡ 4 → Indexed domains ds zs 0 found
none_indexed domains ds zs found four = record { told = sym (map_id (indexes domains ds zs)); four = four }

pub more_indexed : {domains : List Domain} {ds : List ℕ} {zs : List (Option ℤ)} {k : ℕ} {found : List ℕ} → Indexed domains ds zs k found → (z : ℤ) (v : ℕ) → k < length ds → length ds ≤ 4 →
    slice_get zs k ≡ Some (Some z) → index_of (values_in domains (get_or ds k 0)) z ≡ Some v → Indexed domains ds zs (k + 1) (set found k v)
more_indexed {domains = domains} {ds = ds} {zs = zs} {k = k} {found = found} so_far z v inside few at is = record {
  told = index_more domains ds zs k found z v inside (omega (arith, so_far.four)) at is so_far.told;
  four = length-set found k v ∙ so_far.four;
}

-- all are found
pub record AllIndexed (domains : List Domain) (item : Item) (zs : List (Option ℤ)) (vs : List ℕ) : Type 0 where
  pub found : indexes domains item.args zs ≡ Some vs
  pub fit : are_indexes domains item.args vs ≡ true

pub all_indexed : {domains : List Domain} {item : Item} {n : ℕ} {ds : List ℕ} {zs : List (Option ℤ)} {k : ℕ} {vs : List ℕ} → ArgumentsOf domains item n ds → Indexed domains ds zs k vs → length zs ≡ n → n ≤ k → k ≤ n →
    AllIndexed domains item zs (take n vs)
all_indexed {domains = domains} {item = item} {n = n} {ds = ds} {zs = zs} {k = k} {vs = vs} args so_far many past not_past =
    let end : k ≡ n = omega arith in
    let found = ap (λ l. indexes domains l zs) (sym args.are) ∙ all_indexes domains ds zs k vs (omega (arith, args.long)) (omega (arith, many)) so_far.told ∙ ap (λ n. Some (take n vs)) end in
    record {
      found = found;
      fit = indexes_fit domains item.args zs (take n vs) (λ k d is. args.named k d (ap (λ l. slice_get l k) args.are ∙ is)) found;
    }

-- the index of a value that is passed on
pub index_passed : (domains given : List Domain) (d : ℕ) (z : ℤ) (o : Option ℕ) → given ≡ domains → nat_abs z ≤ 1000000000000 → o ≡ index_of (values_in given d) (to_z w64 (of_z w64 z)) →
    index_of (values_in domains d) z ≡ o
index_passed domains given d z o same small is = ap (index_of (values_in domains d)) (passed z small) ∙ ap (λ g. index_of (values_in g d) (to_z w64 (of_z w64 z))) (sym same) ∙ sym is

pub no_index : {domains : List Domain} {item : Item} {n : ℕ} {ds : List ℕ} → ArgumentsOf domains item n ds → (zs : List (Option ℤ)) (k : ℕ) (z : ℤ) → k < n → slice_get zs k ≡ Some (Some z) →
    index_of (values_in domains (get_or ds k 0)) z ≡ None → indexes domains item.args zs ≡ None
no_index {domains = domains} {ds = ds} args zs k z inside at none =
    ap (λ l. indexes domains l zs) (sym args.are) ∙ no_index_at domains ds zs k z (omega (arith, args.long)) at none
