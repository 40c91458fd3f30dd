-- Sets of all indexes and of one: they fit their cells, and lie within the root's.
use Rattle.std.proofs.Common.{◌≡◌, ℕ, ◌-◌, ◌^◌, ◌<◌, Bool, true, nat_lt, List, [], ◌∷◌, map, length, Option, None, Some, zip, refl, sym, ap, ◌∙◌, arith}
use Rattle.std.specs.Int.{bit_at}
use Rattle.std.specs.List.{list_all, range_with_len}
use Rattle.std.proofs.Math.Logic.{⊎_elim}
use Rattle.std.proofs.Math.Pow.{pow-lt, ones_lt}
use Rattle.std.proofs.lemmas.Bool.{and_parts, and_from, ltb-true, lt-ltb, eqb-true, eq-eqb, cases_eq}
use Rattle.std.proofs.lemmas.Nat.{pow_pos}
use Rattle.std.proofs.lemmas.Nat.Bits.{bit_at_ones, bit_at-pow_same, bit_at-pow_other}
use Rattle.std.proofs.lemmas.Option.{slice_get_within}
use Rattle.trio_types.specs.declared.spec.Spec.{Spec}
use Rattle.trio_types.specs.World.{World}
use Rattle.trio_types.specs.Cells.{Cell, cells_of, cell_size}
use Rattle.trio_types.specs.Verdict.{parts_of, world_of}
use Rattle.trio_types.proofs.Lists.{all_from_each}
use Rattle.trio_types.proofs.Specs.{formed, value_domain}
use Rattle.trio_types.proofs.CellNumbers.{some_size, cell_item, size_from_item}
use Rattle.trio_core.specs.Sets.{set_has, is_set, is_within, Shrink}
use Rattle.history_table.specs.Fitting.{is_below, is_given, extends}
use Rattle.branch_state.specs.Posed.{Posed, IsPosed, world_of_problem}
use Rattle.branch_state.specs.Branches.{full_set, single_set, root_set, root_sets, lies_in}
use Rattle.branch_state.proofs.Contained.{all_filtered}

has_full : (size v : ℕ) → v < size → set_has (full_set size) v ≡ true
has_full size v below = eq-eqb (bit_at (2 ^ size - 1) v) 1 (bit_at_ones size v below)

pub has_single : (v : ℕ) → set_has (single_set v) v ≡ true
has_single v = eq-eqb (bit_at (2 ^ v) v) 1 (bit_at-pow_same v)

pub only_single : (v u : ℕ) → set_has (single_set v) u ≡ true → u ≡ v
only_single v u has =
    ⊎_elim (λ same. same)
    (λ other. let is : bit_at (2 ^ v) u ≡ 1 = eqb-true (bit_at (2 ^ v) u) 1 has in absurd (omega (arith, is, bit_at-pow_other v u other))) (cases_eq u v)

full_is_set : (size : ℕ) → 0 < size → is_set size (full_set size) ≡ true
full_is_set size some =
    let more : 1 < 2 ^ size = pow-lt {i = 0} {j = size} some in
    and_from (nat_lt 0 (2 ^ size - 1)) (nat_lt (2 ^ size - 1) (2 ^ size)) (lt-ltb 0 (2 ^ size - 1) (omega (arith, more))) (lt-ltb (2 ^ size - 1) (2 ^ size) (ones_lt size))

pub single_is_set : (size v : ℕ) → v < size → is_set size (single_set v) ≡ true
single_is_set size v below =
    and_from (nat_lt 0 (2 ^ v)) (nat_lt (2 ^ v) (2 ^ size)) (lt-ltb 0 (2 ^ v) (pow_pos v)) (lt-ltb (2 ^ v) (2 ^ size) (pow-lt {i = v} {j = size} below))

root_is_set : (size : ℕ) (g : Option ℕ) → 0 < size → is_below g size ≡ true → is_set size (root_set size g) ≡ true
root_is_set size None some below = full_is_set size some
root_is_set size (Some v) some below = single_is_set size v (ltb-true v size below)

-- what is given, or any value where nothing is, is in the root's set
root_has : (size : ℕ) (g : Option ℕ) (v : ℕ) → v < size → is_given g v ≡ true → set_has (root_set size g) v ≡ true
root_has size None v below is = has_full size v below
root_has size (Some k) v below is = ap (λ u. set_has (single_set k) u) (sym (eqb-true k v is)) ∙ has_single k

within_itself : (size set : ℕ) → is_within size set set ≡ true
within_itself size set = all_filtered (set_has set) (set_has set) (λ v has. has) (range_with_len 0 size)

single_within : (size set v : ℕ) → set_has set v ≡ true → is_within size (single_set v) set ≡ true
single_within size set v has =
    all_filtered (set_has set) (set_has (single_set v)) (λ u in_single. ap (set_has set) (only_single v u in_single) ∙ has) (range_with_len 0 size)

-- every cell has a value
abbrev have_values : World → List Cell → Bool
have_values w cells = list_all (λ c. nat_lt 0 (cell_size w c)) cells

cells_have_values : (spec : Spec) → have_values (world_of spec) (cells_of (world_of spec)) ≡ true
cells_have_values spec =
    all_from_each (λ c. nat_lt 0 (cell_size (world_of spec) c)) (cells_of (world_of spec))
    (λ n c at.
    let item = cell_item (world_of spec) n c at in
    let domain = value_domain (parts_of spec) (formed spec) c.item item.0 item.1 in
    let some = some_size (parts_of spec) (formed spec) item.0.value (slice_get_within spec.domains item.0.value domain.0 domain.1) in
    lt-ltb 0 (cell_size (world_of spec) c) (omega (arith, some, size_from_item (world_of spec) c item.0 item.1)))

-- the root's sets of cells in a row
abbrev sets_of : World → List Cell → List (Option ℕ) → List ℕ
sets_of w cells given = map (λ q. root_set (cell_size w q.0) q.1) (zip cells given)

abbrev known_below : World → List Cell → List (Option ℕ) → Bool
known_below w cells given = list_all (λ q. is_below q.1 (cell_size w q.0)) (zip cells given)

abbrev are_below : World → List Cell → List ℕ → Bool
are_below w cells table = list_all (λ q. nat_lt q.1 (cell_size w q.0)) (zip cells table)

sets_length : (w : World) (cells : List Cell) (given : List (Option ℕ)) → length given ≡ length cells → length (sets_of w cells given) ≡ length cells
sets_length w [] given whole = refl
sets_length w (c ∷ cs) [] whole = absurd (omega (arith, whole))
sets_length w (c ∷ cs) (g ∷ gs) whole = omega (arith, sets_length w cs gs (omega (arith, whole)))

sets_fit : (w : World) (cells : List Cell) (given : List (Option ℕ)) → have_values w cells ≡ true → known_below w cells given ≡ true →
    list_all (λ q. is_set (cell_size w q.0) q.1) (zip cells (sets_of w cells given)) ≡ true
sets_fit w [] given some below = refl
sets_fit w (c ∷ cs) [] some below = refl
sets_fit w (c ∷ cs) (g ∷ gs) some below =
    let more = and_parts (nat_lt 0 (cell_size w c)) (have_values w cs) some in
    let under = and_parts (is_below g (cell_size w c)) (known_below w cs gs) below in
    and_from (is_set (cell_size w c) (root_set (cell_size w c) g)) _ (root_is_set (cell_size w c) g (ltb-true 0 (cell_size w c) more.0) under.0) (sets_fit w cs gs more.1 under.1)

sets_within : (w : World) (cells : List Cell) (sets : List ℕ) → list_all (λ q. is_within (cell_size w q.0) q.1.1 q.1.0) (zip cells (zip sets sets)) ≡ true
sets_within w [] sets = refl
sets_within w (c ∷ cs) [] = refl
sets_within w (c ∷ cs) (s ∷ ss) =
    and_from (is_within (cell_size w c) s s) (list_all (λ q. is_within (cell_size w q.0) q.1.1 q.1.0) (zip cs (zip ss ss))) (within_itself (cell_size w c) s) (sets_within w cs ss)

-- the root's sets fit the problem
pub root_sets_fit : (p : Posed) → IsPosed p → Shrink (world_of_problem p) (root_sets p) (root_sets p)
unfolding root_sets
root_sets_fit p posed =
    let w = world_of_problem p in
    record {
      are_sets = record { whole = sets_length w (cells_of w) p.given posed.fits.whole; each = sets_fit w (cells_of w) p.given (cells_have_values p.spec) posed.fits.within };
      as_many = refl;
      inside = sets_within w (cells_of w) (sets_of w (cells_of w) p.given);
    }

-- a table that extends what is given lies in them
lies_in_sets : (w : World) (cells : List Cell) (given : List (Option ℕ)) (table : List ℕ) → are_below w cells table ≡ true → extends given table ≡ true →
    lies_in (sets_of w cells given) table ≡ true
lies_in_sets w [] given table below extended = refl
lies_in_sets w (c ∷ cs) [] table below extended = refl
lies_in_sets w (c ∷ cs) (g ∷ gs) [] below extended = refl
lies_in_sets w (c ∷ cs) (g ∷ gs) (v ∷ vs) below extended =
    let under = and_parts (nat_lt v (cell_size w c)) (are_below w cs vs) below in
    let agrees = and_parts (is_given g v) (extends gs vs) extended in
    and_from (set_has (root_set (cell_size w c) g) v) (lies_in (sets_of w cs gs) vs)
    (root_has (cell_size w c) g v (ltb-true v (cell_size w c) under.0) agrees.0) (lies_in_sets w cs gs vs under.1 agrees.1)

pub lies_in_root : (p : Posed) (table : List ℕ) → are_below (world_of_problem p) (cells_of (world_of_problem p)) table ≡ true → extends p.given table ≡ true →
    lies_in (root_sets p) table ≡ true
unfolding root_sets
lies_in_root p table below extended = lies_in_sets (world_of_problem p) (cells_of (world_of_problem p)) p.given table below extended

-- single sets
pub singles_length : (table : List ℕ) → length (map single_set table) ≡ length table
singles_length [] = refl
singles_length (v ∷ vs) = omega (arith, singles_length vs)

pub singles_fit : (w : World) (cells : List Cell) (table : List ℕ) → are_below w cells table ≡ true → list_all (λ q. is_set (cell_size w q.0) q.1) (zip cells (map single_set table)) ≡ true
singles_fit w [] table below = refl
singles_fit w (c ∷ cs) [] below = refl
singles_fit w (c ∷ cs) (v ∷ vs) below =
    let under = and_parts (nat_lt v (cell_size w c)) (are_below w cs vs) below in
    and_from (is_set (cell_size w c) (single_set v)) (list_all (λ q. is_set (cell_size w q.0) q.1) (zip cs (map single_set vs)))
    (single_is_set (cell_size w c) v (ltb-true v (cell_size w c) under.0)) (singles_fit w cs vs under.1)

singles_within : (w : World) (cells : List Cell) (sets table : List ℕ) → lies_in sets table ≡ true →
    list_all (λ q. is_within (cell_size w q.0) q.1.1 q.1.0) (zip cells (zip sets (map single_set table))) ≡ true
singles_within w [] sets table lies = refl
singles_within w (c ∷ cs) [] table lies = refl
singles_within w (c ∷ cs) (s ∷ ss) [] lies = refl
singles_within w (c ∷ cs) (s ∷ ss) (v ∷ vs) lies =
    let both = and_parts (set_has s v) (lies_in ss vs) lies in
    and_from (is_within (cell_size w c) (single_set v) s) (list_all (λ q. is_within (cell_size w q.0) q.1.1 q.1.0) (zip cs (zip ss (map single_set vs))))
    (single_within (cell_size w c) s v both.0) (singles_within w cs ss vs both.1)

pub singles_shrink : (p : Posed) → IsPosed p → (table : List ℕ) → length table ≡ length (cells_of (world_of_problem p)) →
    are_below (world_of_problem p) (cells_of (world_of_problem p)) table ≡ true → extends p.given table ≡ true → Shrink (world_of_problem p) (root_sets p) (map single_set table)
singles_shrink p posed table whole below extended =
    let w = world_of_problem p in
    record {
      are_sets = record { whole = omega (arith, singles_length table, whole); each = singles_fit w (cells_of w) table below };
      as_many = omega (arith, singles_length table, whole, (root_sets_fit p posed).are_sets.whole);
      inside = singles_within w (cells_of w) (root_sets p) table (lies_in_root p table below extended);
    }

pub lies_in_singles : (table : List ℕ) → lies_in (map single_set table) table ≡ true
lies_in_singles [] = refl
lies_in_singles (v ∷ vs) = and_from (set_has (single_set v) v) (lies_in (map single_set vs) vs) (has_single v) (lies_in_singles vs)

pub only_in_singles : (table other : List ℕ) → length other ≡ length table → lies_in (map single_set table) other ≡ true → other ≡ table
only_in_singles [] [] same lies = refl
only_in_singles [] (u ∷ us) same lies = absurd (omega (arith, same))
only_in_singles (v ∷ vs) [] same lies = absurd (omega (arith, same))
only_in_singles (v ∷ vs) (u ∷ us) same lies =
    let both = and_parts (set_has (single_set v) u) (lies_in (map single_set vs) us) lies in
    rw (only_single v u both.0, only_in_singles vs us (omega (arith, same)) both.1) refl
