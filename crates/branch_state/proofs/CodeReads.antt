-- What the code reads of cells, given values and lists in a row.
use Rattle.std.proofs.Common.{◌≡◌, ℕ, zero, suc, ◌+◌, ◌<◌, ◌≤◌, nat_lt, List, [], ◌∷◌, ◌++◌, map, take, length, Option, None, Some, slice_get, zip, refl, sym, ap, ◌∙◌, arith}
use Rattle.std.specs.List.{flat_map, range_with_len}
use Rattle.std.specs.Option.{option_map}
use Rattle.std.proofs.lemmas.Bool.{ltb-true}
use Rattle.std.proofs.lemmas.List.{take_more, append_assoc, append-nil}
use Rattle.std.proofs.lemmas.Grind.{flat_map-append}
use Rattle.std.proofs.lemmas.List.FromFn.{map-range_with_len_more}
use Rattle.std.proofs.lemmas.Option.{none-some, same_Some, slice_get_within, get_or_from_slice_get}
use Rattle.trio_types.specs.declared.spec.Spec.{Spec}
use Rattle.trio_types.specs.World.{World, instants_of}
use Rattle.trio_types.specs.Cells.{Cell, IsTable, cells_of, cell_size}
use Rattle.trio_types.specs.Verdict.{parts_of, world_of}
use Rattle.trio_types.proofs.Lists.{each_of, get_within, map_some}
use Rattle.trio_types.proofs.Specs.{formed, value_domain}
use Rattle.trio_types.proofs.CellNumbers.{some_size, small_size, few_cells, cell_count_is, cell_item, size_from_item}
use Rattle.trio_core.proofs.Looks.{zip_at}
use Rattle.history_table.specs.Fitting.{is_below}
use Rattle.branch_state.specs.Posed.{Posed, IsPosed, world_of_problem}
use Rattle.branch_state.specs.Branches.{full_set, single_set, root_set, root_sets, root_want, wants_of_root}
use Rattle.branch_state.specs.declared.branch.Want.{Want}
use Rattle.trio_core.specs.declared.nodes.Root.{Root}
use Rattle.trio_types.specs.Verdict.{instants_asked}
use Rattle.branch_state.proofs.SetsFit.{root_sets_fit}

-- one more element of a list
pub take_next : {X : Type 0} (xs : List X) (n : ℕ) (x : X) → slice_get xs n ≡ Some x → take (n + 1) xs ≡ take n xs ++ x ∷ []
take_next xs n x at = take_more xs n x (slice_get_within xs n x at) ∙ ap (λ y. take n xs ++ y ∷ []) (get_or_from_slice_get xs n x x at)

-- the sizes of cells
pub record SizeFits (size : ℕ) : Type 0 where
  pub some : 0 < size
  pub few : size ≤ 64

size_fits : (spec : Spec) (n : ℕ) (c : Cell) → slice_get (cells_of (world_of spec)) n ≡ Some c → SizeFits (cell_size (world_of spec) c)
size_fits spec n c at =
    let item = cell_item (world_of spec) n c at in
    let domain = value_domain (parts_of spec) (formed spec) c.item item.0 item.1 in
    let inside = slice_get_within spec.domains item.0.value domain.0 domain.1 in
    let is = size_from_item (world_of spec) c item.0 item.1 in
    record {
      some = omega (arith, is, some_size (parts_of spec) (formed spec) item.0.value inside);
      few = omega (arith, is, small_size (parts_of spec) (formed spec) item.0.value inside);
    }

set_at : (w : World) (cells : List Cell) (given : List (Option ℕ)) (n : ℕ) (c : Cell) (g : Option ℕ) → slice_get cells n ≡ Some c → slice_get given n ≡ Some g →
    slice_get (map (λ q. root_set (cell_size w q.0) q.1) (zip cells given)) n ≡ Some (root_set (cell_size w c) g)
set_at w [] given n c g ct gt = absurd (none-some c ct)
set_at w (d ∷ cs) [] n c g ct gt = absurd (none-some g gt)
set_at w (d ∷ cs) (h ∷ gs) zero c g ct gt = rw (same_Some d c ct, same_Some h g gt) refl
set_at w (d ∷ cs) (h ∷ gs) (suc n) c g ct gt = set_at w cs gs n c g ct gt

pub record GivenSet (p : Posed) (n v : ℕ) : Type 0 where
  pub small : v < 64
  pub is : slice_get (root_sets p) n ≡ Some (single_set v)

-- the set of a cell whose value is given
pub given_set : (p : Posed) → IsPosed p → (n v : ℕ) → slice_get p.given n ≡ Some (Some v) → GivenSet p n v
unfolding root_sets
given_set p posed n v at =
    let w = world_of_problem p in
    let cell = get_within (cells_of w) n (omega (arith, slice_get_within p.given n (Some v) at, posed.fits.whole)) in
    let below = each_of (λ q. is_below q.1 (cell_size w q.0)) (zip (cells_of w) p.given) posed.fits.within n (cell.0, Some v) (zip_at (cells_of w) p.given n cell.0 (Some v) cell.1 at) in
    record {
      small = omega (arith, ltb-true v (cell_size w cell.0) below, (size_fits p.spec n cell.0 cell.1).few);
      is = set_at w (cells_of w) p.given n cell.0 (Some v) cell.1 at;
    }

pub record OpenSet (p : Posed) (n size : ℕ) : Type 0 where
  pub fits : SizeFits size
  pub is : slice_get (root_sets p) n ≡ Some (full_set size)

-- and of one whose value is not
pub open_set : (p : Posed) → IsPosed p → (n size : ℕ) → slice_get p.given n ≡ Some None → option_map (cell_size (world_of_problem p)) (slice_get (cells_of (world_of_problem p)) n) ≡ Some size →
    OpenSet p n size
unfolding root_sets
open_set p posed n size at sized =
    let w = world_of_problem p in
    let cell = map_some (cell_size w) (slice_get (cells_of w) n) size sized in
    record {
      fits = rw (← cell.2) (size_fits p.spec n cell.0 cell.1);
      is = set_at w (cells_of w) p.given n cell.0 None cell.1 at ∙ ap (λ s. Some (full_set s)) cell.2;
    }

-- there are few cells, and a set for each
cells_few : (spec : Spec) → length (cells_of (world_of spec)) ≤ 1024
cells_few spec = omega (arith, cell_count_is (world_of spec), few_cells (parts_of spec) (formed spec))

pub few_given : (p : Posed) → IsPosed p → length p.given ≤ 1024
few_given p posed = omega (arith, posed.fits.whole, cells_few p.spec)

pub few_indexes : (spec : Spec) (table : List ℕ) → IsTable (world_of spec) table → length table ≤ 1024
few_indexes spec table fits = omega (arith, fits.whole, cells_few spec)

pub sets_whole : (p : Posed) → IsPosed p → length (root_sets p) ≡ length p.given
sets_whole p posed = (root_sets_fit p posed).are_sets.whole ∙ sym posed.fits.whole

-- an index of a table is small
pub index_small : (spec : Spec) (table : List ℕ) (n v : ℕ) → IsTable (world_of spec) table → slice_get table n ≡ Some v → v < 64
index_small spec table n v fits at =
    let w = world_of spec in
    let cell = get_within (cells_of w) n (omega (arith, slice_get_within table n v at, fits.whole)) in
    let below = each_of (λ q. nat_lt q.1 (cell_size w q.0)) (zip (cells_of w) table) fits.within n (cell.0, v) (zip_at (cells_of w) table n cell.0 v cell.1 at) in
    omega (arith, ltb-true v (cell_size w cell.0) below, (size_fits spec n cell.0 cell.1).few)

-- one more list in a row
pub flat_next : {X Y : Type 0} (f : X → List Y) (xs : List X) (n : ℕ) (x : X) → slice_get xs n ≡ Some x → flat_map f (take (n + 1) xs) ≡ flat_map f (take n xs) ++ f x
flat_next f xs n x at =
    ap (flat_map f) (take_next xs n x at) ∙ flat_map-append f (take n xs) (x ∷ []) ∙ ap (λ ys. flat_map f (take n xs) ++ ys) (append-nil (f x))

-- the wants of a root that asks at every instant
pub wants_always : (w : World) (root : Root) (n : ℕ) → root.at ≡ None → n ≡ w.instants → map (root_want root) (range_with_len 0 n) ≡ wants_of_root w root
unfolding instants_of
wants_always w root n always whole =
    ap (λ m. map (root_want root) (range_with_len 0 m)) whole ∙ ap (λ at. map (root_want root) (instants_asked w at)) (sym always)

pub one_more_want : (root : Root) (n : ℕ) (before made : List Want) (want : Want) → before ≡ made ++ map (root_want root) (range_with_len 0 n) → want ≡ root_want root n →
    before ++ want ∷ [] ≡ made ++ map (root_want root) (range_with_len 0 (n + 1))
one_more_want root n before made want is one =
    let e : 0 + n ≡ n = omega arith in
    rw (is, one) (append_assoc made (map (root_want root) (range_with_len 0 n)) (root_want root n ∷ []))
    ∙ ap (λ ws. made ++ ws) (sym (map-range_with_len_more (root_want root) 0 n n e))
