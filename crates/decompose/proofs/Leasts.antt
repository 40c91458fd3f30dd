-- The least member of a set, and the cells with several values.
use Rattle.std.proofs.Common.{◌≡◌, ℕ, zero, suc, ◌+◌, ◌<◌, ◌≤◌, ◌^◌, Bool, true, false, nat_lt, List, [], ◌∷◌, Option, None, Some, map, length, filter, zip, slice_get, slice_index_or, find, not, refl, sym, ap, ◌∙◌, arith}
use Rattle.std.specs.Int.{bit_at}
use Rattle.std.specs.List.{range_with_len}
use Rattle.std.specs.Option.{is_some, option_map}
use Rattle.std.proofs.Math.Logic.{⊎_elim}
use Rattle.std.proofs.lemmas.Bool.{and_parts, cond-true, cond-false, cases_lt, ltb-true, lt-ltb, eq-eqb, false_from_ne_true, eqb-true, false≢true}
use Rattle.std.proofs.lemmas.List.{length-map}
use Rattle.std.proofs.lemmas.Nat.Bits.{bit_at_above}
use Rattle.std.proofs.lemmas.Option.{slice_get_within, slice_get-map, get_or_from_slice_get}
use Rattle.trio_types.specs.World.{World}
use Rattle.trio_types.specs.Cells.{Cell, cells_of, cell_size}
use Rattle.trio_core.specs.Sets.{set_has, members, is_set, AreSets}
use Rattle.trio_types.proofs.Lists.{get_within}
use Rattle.trio_types.proofs.CellNumbers.{cell_count_is, few_cells, cell_item, size_from_item, small_size}
use Rattle.trio_types.proofs.Specs.{value_domain}
use Rattle.trio_types.specs.Parts.{declarations_of}
use Rattle.trio_core.specs.declared.nodes.Core.{Core}
use Rattle.trio_core.specs.Stands.{world_of_core}
use Rattle.trio_core.specs.Fits.{IsSole}
use Rattle.trio_core.proofs.NodesFit.{core_formed}
use Rattle.trio_core.proofs.Looks.{zip_at}
use Rattle.trio_core.proofs.Sole.{set_of_cell, member_in}
use Rattle.decompose.specs.Reads.{members_of, members_at, is_undecided}
use Rattle.decompose.specs.Rule.{least_member, least_table, least_of_cell}
use Rattle.branch_state.specs.Branches.{single_set}
use Rattle.decompose.proofs.Bits.{bit_below}

-- the first number of a row that passes
first_passing : (p : ℕ → Bool) (a n v : ℕ) → a ≤ v → v < a + n → p v ≡ true → ((u : ℕ) → a ≤ u → u < v → p u ≡ false) → slice_get (filter p (range_with_len a n)) 0 ≡ Some v
first_passing p a zero v from to here before = absurd (omega arith)
first_passing p a (suc n) v from to here before =
    ⊎_elim
    (λ less.
    ap (λ us. slice_get us 0) (cond-false (p a) (a ∷ filter p (range_with_len (a + 1) n)) (filter p (range_with_len (a + 1) n)) (before a (omega arith) less))
    ∙ first_passing p (a + 1) n v (omega arith) (omega arith) here (λ u start end. before u (omega arith) end))
    (λ more.
    let e : a ≡ v = omega (arith, from, more) in
    ap (λ us. slice_get us 0) (cond-true (p a) (a ∷ filter p (range_with_len (a + 1) n)) (filter p (range_with_len (a + 1) n)) (ap p e ∙ here)) ∙ ap Some e)
    (cases_lt a v)

-- the least member of a set is its lowest bit
pub least_is : (set low : ℕ) → bit_at set low ≡ 1 → ((u : ℕ) → u < low → bit_at set u ≡ 0) → (size : ℕ) → is_set size set ≡ true → slice_get (members size set) 0 ≡ Some low
least_is set low one zeros size is =
    let below : low < size =
    ⊎_elim (λ less. less)
    (λ more. absurd (omega (arith, one, bit_at_above set size low (ltb-true set (2 ^ size) (and_parts (nat_lt 0 set) (nat_lt set (2 ^ size)) is).1) (omega (arith, more)))))
    (cases_lt low size) in
    first_passing (set_has set) 0 size low (omega arith) (omega (arith, below)) (eq-eqb (bit_at set low) 1 one)
    (λ u start end. false_from_ne_true (set_has set u) (λ has. absurd (omega (arith, zeros u end, eqb-true (bit_at set u) 1 has))))

-- the members of the set of a cell
pub members_are : (w : World) (sets : List ℕ) (n set : ℕ) (c : Cell) → slice_get (cells_of w) n ≡ Some c → slice_get sets n ≡ Some set → members_at w sets n ≡ members (cell_size w c) set
unfolding members_at
members_are w sets n set c cell_at set_at = ap (members_of w) (zip_at (cells_of w) sets n c set cell_at set_at)

-- whether a cell has several values
pub undecided_by : (w : World) (sets : List ℕ) (n set : ℕ) (c : Cell) → slice_get (cells_of w) n ≡ Some c → slice_get sets n ≡ Some set → (o : Option ℕ) → IsSole (members (cell_size w c) set) o → (b : Bool) →
    is_some o ≡ not b → b ≡ is_undecided w sets n
undecided_by w sets n set c cell_at set_at None sole true is = sym (lt-ltb 1 (length (members_at w sets n)) (omega (arith, sole, ap length (members_are w sets n set c cell_at set_at))))
undecided_by w sets n set c cell_at set_at None sole false is = absurd (false≢true is)
undecided_by w sets n set c cell_at set_at (Some u) sole true is = absurd (false≢true (sym is))
undecided_by w sets n set c cell_at set_at (Some u) sole false is = sym (ap (λ ms. nat_lt 1 (length ms)) (members_are w sets n set c cell_at set_at ∙ sole))

-- the cell of a set
pub cell_of_set : (w : World) (sets : List ℕ) (n set : ℕ) → AreSets w sets → slice_get sets n ≡ Some set → (c : Cell) × (slice_get (cells_of w) n ≡ Some c) × (is_set (cell_size w c) set ≡ true)
cell_of_set w sets n set are set_at =
    let c = get_within (cells_of w) n (omega (arith, are.whole, slice_get_within sets n set set_at)) in
    (c.0, c.1, set_of_cell w sets n set c.0 are c.1 set_at)

pub set_positive : (w : World) (sets : List ℕ) (n set : ℕ) → AreSets w sets → slice_get sets n ≡ Some set → 0 < set
set_positive w sets n set are set_at =
    let c = cell_of_set w sets n set are set_at in
    ltb-true 0 set (and_parts (nat_lt 0 set) (nat_lt set (2 ^ cell_size w c.0)) c.2).0

pub few_sets : (core : Core) (sets : List ℕ) → AreSets (world_of_core core) sets → length sets ≤ 1024
few_sets core sets are = omega (arith, are.whole, cell_count_is (world_of_core core), few_cells (declarations_of (world_of_core core)) (core_formed core))

-- the first number of a row that passes, where one does
pub find_first : (p : ℕ → Bool) (a n v : ℕ) → a ≤ v → v < a + n → p v ≡ true → ((u : ℕ) → a ≤ u → u < v → p u ≡ false) → find p (range_with_len a n) ≡ Some v
find_first p a zero v from to here before = absurd (omega arith)
find_first p a (suc n) v from to here before =
    ⊎_elim
    (λ less. cond-false (p a) (Some a) (find p (range_with_len (a + 1) n)) (before a (omega arith) less)
    ∙ find_first p (a + 1) n v (omega arith) (omega arith) here (λ u start end. before u (omega arith) end))
    (λ more. let e : a ≡ v = omega (arith, from, more) in cond-true (p a) (Some a) (find p (range_with_len (a + 1) n)) (ap p e ∙ here) ∙ ap Some e)
    (cases_lt a v)

pub find_none : (p : ℕ → Bool) (a n : ℕ) → ((u : ℕ) → a ≤ u → u < a + n → p u ≡ false) → find p (range_with_len a n) ≡ None
find_none p a zero fails = refl
find_none p a (suc n) fails =
    cond-false (p a) (Some a) (find p (range_with_len (a + 1) n)) (fails a (omega arith) (omega arith))
    ∙ find_none p (a + 1) n (λ u from to. fails u (omega arith) (omega arith))

-- The least values of all sets.

cell_small : (core : Core) (n : ℕ) (c : Cell) → slice_get (cells_of (world_of_core core)) n ≡ Some c → cell_size (world_of_core core) c ≤ 64
cell_small core n c at =
    let w = world_of_core core in
    let p = declarations_of w in
    let item = cell_item w n c at in
    let domain = value_domain p (core_formed core) c.item item.0 item.1 in
    let inside = slice_get_within core.domains item.0.value domain.0 domain.1 in
    omega (arith, size_from_item w c item.0 item.1, small_size p (core_formed core) item.0.value inside)

least_at_in : (w : World) (cells : List Cell) (sets : List ℕ) (n set : ℕ) (c : Cell) → slice_get cells n ≡ Some c → slice_get sets n ≡ Some set →
    slice_get (map (λ q. least_member (cell_size w q.0) q.1) (zip cells sets)) n ≡ Some (least_member (cell_size w c) set)
least_at_in w cells sets n set c cell_at set_at =
    slice_get-map (λ q. least_member (cell_size w q.0) q.1) (zip cells sets) n ∙ ap (option_map (λ q. least_member (cell_size w q.0) q.1)) (zip_at cells sets n c set cell_at set_at)

pub least_at : (w : World) (sets : List ℕ) (n set low : ℕ) → AreSets w sets → slice_get sets n ≡ Some set → ((size : ℕ) → is_set size set ≡ true → slice_get (members size set) 0 ≡ Some low) →
    slice_get (least_table w sets) n ≡ Some low
least_at w sets n set low are set_at least_of =
    let c = cell_of_set w sets n set are set_at in
    least_at_in w (cells_of w) sets n set c.0 c.1 set_at ∙ ap Some (get_or_from_slice_get (members (cell_size w c.0) set) 0 low 0 (least_of (cell_size w c.0) c.2))

zip_long : (cells : List Cell) (sets : List ℕ) → length sets ≡ length cells → length (zip cells sets) ≡ length sets
zip_long [] [] same = refl
zip_long [] (s ∷ sets) same = absurd (omega (arith, same))
zip_long (c ∷ cells) [] same = absurd (omega (arith, same))
zip_long (c ∷ cells) (s ∷ sets) same = let e : length sets ≡ length cells = omega (arith, same) in ap suc (zip_long cells sets e)

pub least_long : (w : World) (sets : List ℕ) → AreSets w sets → length (least_table w sets) ≡ length sets
least_long w sets are = length-map (zip (cells_of w) sets) (λ q. least_member (cell_size w q.0) q.1) ∙ zip_long (cells_of w) sets are.whole

-- a member is small, and the set of it alone is no greater than the set
pub low_small : (core : Core) (sets : List ℕ) (n set low : ℕ) → AreSets (world_of_core core) sets → slice_get sets n ≡ Some set →
    ((size : ℕ) → is_set size set ≡ true → slice_get (members size set) 0 ≡ Some low) → (low < 64) × (2 ^ low ≤ set)
low_small core sets n set low are set_at least_of =
    let w = world_of_core core in
    let c = cell_of_set w sets n set are set_at in
    let inside = member_in (cell_size w c.0) set 0 low (least_of (cell_size w c.0) c.2) in
    (omega (arith, inside.1, cell_small core n c.0 c.1), bit_below set low (eqb-true (bit_at set low) 1 inside.0))

-- the least value of a cell, and its set
pub least_of_cell_is : (w : World) (sets : List ℕ) (n set low : ℕ) → AreSets w sets → slice_get sets n ≡ Some set → ((size : ℕ) → is_set size set ≡ true → slice_get (members size set) 0 ≡ Some low) →
    least_of_cell w sets n ≡ single_set low
least_of_cell_is w sets n set low are set_at least_of =
    let c = cell_of_set w sets n set are set_at in
    ap (λ ms. single_set (slice_index_or ms 0 0)) (members_are w sets n set c.0 c.1 set_at)
    ∙ ap single_set (get_or_from_slice_get (members (cell_size w c.0) set) 0 low 0 (least_of (cell_size w c.0) c.2))

pub left_out_is : (sets : List ℕ) (n set : ℕ) → slice_get sets n ≡ Some set → slice_index_or sets n 0 ≡ set
left_out_is sets n set at = get_or_from_slice_get sets n set 0 at
