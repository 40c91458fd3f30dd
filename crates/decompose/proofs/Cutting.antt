-- The two halves of a branch that is parted by the values of a cell.
use Rattle.std.proofs.Common.{◌≡◌, ℕ, zero, suc, ◌+◌, ◌-◌, ◌<◌, ◌≤◌, Bool, true, false, ◌&&◌, List, [], ◌∷◌, length, Option, None, Some, slice_get, slice_set, slice_index_or, zip, refl, sym, ap, ◌∙◌, subst, arith}
use Rattle.std.specs.List.{list_all, sum_by}
use Rattle.std.proofs.lemmas.Bool.{and_parts, and_from, ltb-true}
use Rattle.std.proofs.lemmas.List.Sums.{sum_by-cons}
use Rattle.std.proofs.lemmas.Option.{none-some, same_Some, slice_get_within, get_or_from_slice_get}
use Rattle.trio_types.specs.World.{World}
use Rattle.trio_types.specs.Cells.{Cell, cells_of, cell_size}
use Rattle.trio_types.proofs.Lists.{each_of, all_from_each}
use Rattle.trio_core.specs.Sets.{set_has, members, is_set, is_within, Shrink}
use Rattle.trio_core.specs.Stands.{world_of_core}
use Rattle.trio_core.proofs.Looks.{zip_at, member_at}
use Rattle.trio_core.proofs.Sole.{member_in}
use Rattle.trio_core.proofs.Standing.{same_world}
use Rattle.trio_lists.proofs.Filters.{one_if}
use Rattle.branch_state.specs.declared.branch.Want.{Want}
use Rattle.branch_state.specs.Posed.{Posed, IsPosed, world_of_problem}
use Rattle.branch_state.specs.Branches.{branch, single_set, lies_in, want_holds, root_sets, Fits}
use Rattle.branch_state.specs.Weight.{sets_weight}
use Rattle.branch_state.proofs.Represented.{reps_split}
use Rattle.branch_state.proofs.SetsFit.{only_single, single_is_set}
use Rattle.decompose.specs.Reads.{members_of, members_at, is_undecided}
use Rattle.decompose.specs.Rule.{cut_cell}
use Rattle.decompose.specs.Law.{AreHalves, KeepsLaw}
use Rattle.decompose.proofs.Bits.{has_split, left_has, without}

-- lists in which one entry is another
length_with : (sets : List ℕ) (n s : ℕ) → length (slice_set sets n s) ≡ length sets
length_with [] n s = refl
length_with (x ∷ sets) zero s = refl
length_with (x ∷ sets) (suc n) s = omega (arith, length_with sets n s)

all_with : {X : Type 0} (f : X × ℕ → Bool) (cells : List X) (sets : List ℕ) (n : ℕ) (c : X) (s : ℕ) → slice_get cells n ≡ Some c → f (c, s) ≡ true →
    list_all f (zip cells sets) ≡ true → list_all f (zip cells (slice_set sets n s)) ≡ true
all_with f [] sets n c s at here all = refl
all_with f (d ∷ cells) [] n c s at here all = refl
all_with f (d ∷ cells) (x ∷ sets) zero c s at here all =
    and_from (f (d, s)) (list_all f (zip cells sets)) (ap (λ e. f (e, s)) (same_Some d c at) ∙ here) (and_parts (f (d, x)) (list_all f (zip cells sets)) all).1
all_with f (d ∷ cells) (x ∷ sets) (suc n) c s at here all =
    let both = and_parts (f (d, x)) (list_all f (zip cells sets)) all in
    and_from (f (d, x)) (list_all f (zip cells (slice_set sets n s))) both.0 (all_with f cells sets n c s at here both.1)

-- of the sets that another list is to lie within
all_within : (f : Cell × (ℕ × ℕ) → Bool) (cells : List Cell) (roots sets : List ℕ) (n : ℕ) (c : Cell) (s x : ℕ) → slice_get cells n ≡ Some c → slice_get sets n ≡ Some x →
    ((r : ℕ) → f (c, (r, x)) ≡ true → f (c, (r, s)) ≡ true) →
    list_all f (zip cells (zip roots sets)) ≡ true → list_all f (zip cells (zip roots (slice_set sets n s))) ≡ true
all_within f [] roots sets n c s x at old here all = refl
all_within f (d ∷ cells) [] sets n c s x at old here all = refl
all_within f (d ∷ cells) (r ∷ roots) [] n c s x at old here all = refl
all_within f (d ∷ cells) (r ∷ roots) (y ∷ sets) zero c s x at old here all =
    let both = and_parts (f (d, (r, y))) (list_all f (zip cells (zip roots sets))) all in
    and_from (f (d, (r, s))) (list_all f (zip cells (zip roots sets)))
    (ap (λ e. f (e, (r, s))) (same_Some d c at) ∙ here r (sym (ap (λ e. f (e, (r, x))) (same_Some d c at)) ∙ ap (λ z. f (d, (r, z))) (sym (same_Some y x old)) ∙ both.0)) both.1
all_within f (d ∷ cells) (r ∷ roots) (y ∷ sets) (suc n) c s x at old here all =
    let both = and_parts (f (d, (r, y))) (list_all f (zip cells (zip roots sets))) all in
    and_from (f (d, (r, y))) (list_all f (zip cells (zip roots (slice_set sets n s)))) both.0 (all_within f cells roots sets n c s x at old here both.1)

sum_with : {X : Type 0} (h : X × ℕ → ℕ) (cells : List X) (sets : List ℕ) (n : ℕ) (c : X) (s x : ℕ) → slice_get cells n ≡ Some c → slice_get sets n ≡ Some x →
    sum_by h (zip cells (slice_set sets n s)) + h (c, x) ≡ sum_by h (zip cells sets) + h (c, s)
sum_with h [] sets n c s x at old = absurd (none-some c at)
sum_with h (d ∷ cells) [] n c s x at old = absurd (none-some x old)
sum_with h (d ∷ cells) (y ∷ sets) zero c s x at old =
    omega (arith, sum_by-cons h (d, s) (zip cells sets), sum_by-cons h (d, y) (zip cells sets), ap (λ e. h (e, s)) (same_Some d c at), ap (λ e. h (e, y)) (same_Some d c at), ap (λ z. h (c, z)) (same_Some y x old))
sum_with h (d ∷ cells) (y ∷ sets) (suc n) c s x at old =
    omega (arith, sum_by-cons h (d, y) (zip cells (slice_set sets n s)), sum_by-cons h (d, y) (zip cells sets), sum_with h cells sets n c s x at old)

-- 0 and 1 for what two conditions say together
pub both_left : (a b c r : Bool) → one_if a ≡ one_if b + one_if c → one_if (a && r) ≡ one_if (b && r) + one_if (c && r)
both_left true true true r adds = absurd (omega (arith, adds))
both_left true true false r adds = omega arith
both_left true false true r adds = omega arith
both_left true false false r adds = absurd (omega (arith, adds))
both_left false true c r adds = absurd (omega (arith, adds))
both_left false false true r adds = absurd (omega (arith, adds))
both_left false false false r adds = omega arith

both_right : (a b c d : Bool) → one_if b ≡ one_if c + one_if d → one_if (a && b) ≡ one_if (a && c) + one_if (a && d)
both_right true b c d adds = adds
both_right false b c d adds = refl

lies_split : (sets table : List ℕ) (n s x y : ℕ) → slice_get sets n ≡ Some s → n < length table →
    ((u : ℕ) → one_if (set_has s u) ≡ one_if (set_has x u) + one_if (set_has y u)) →
    one_if (lies_in sets table) ≡ one_if (lies_in (slice_set sets n x) table) + one_if (lies_in (slice_set sets n y) table)
lies_split [] table n s x y at inside adds = absurd (none-some s at)
lies_split (z ∷ sets) [] n s x y at inside adds = absurd (omega (arith, inside))
lies_split (z ∷ sets) (u ∷ table) zero s x y at inside adds =
    both_left (set_has z u) (set_has x u) (set_has y u) (lies_in sets table) (ap (λ r. one_if (set_has r u)) (same_Some z s at) ∙ adds u)
lies_split (z ∷ sets) (u ∷ table) (suc n) s x y at inside adds =
    both_right (set_has z u) (lies_in sets table) (lies_in (slice_set sets n x) table) (lies_in (slice_set sets n y) table) (lies_split sets table n s x y at (omega (arith, inside)) adds)

-- a cell with several values: its set, and the least of them
pub record HasSeveral (w : World) (sets : List ℕ) (n : ℕ) : Type 0 where
  pub cell : Cell
  pub set : ℕ
  pub value : ℕ
  pub cell_at : slice_get (cells_of w) n ≡ Some cell
  pub set_at : slice_get sets n ≡ Some set
  pub first : slice_get (members (cell_size w cell) set) 0 ≡ Some value
  pub several : 2 ≤ length (members (cell_size w cell) set)
  pub set_is : slice_index_or sets n 0 ≡ set
  pub value_is : slice_index_or (members_at w sets n) 0 0 ≡ value

pub parts_of_zip : {X Y : Type 0} (xs : List X) (ys : List Y) (n : ℕ) (q : X × Y) → slice_get (zip xs ys) n ≡ Some q → (slice_get xs n ≡ Some q.0) × (slice_get ys n ≡ Some q.1)
parts_of_zip [] ys n q at = absurd (none-some q at)
parts_of_zip (x ∷ xs) [] n q at = absurd (none-some q at)
parts_of_zip (x ∷ xs) (y ∷ ys) zero q at = (ap (λ p. Some p.0) (same_Some (x, y) q at), ap (λ p. Some p.1) (same_Some (x, y) q at))
parts_of_zip (x ∷ xs) (y ∷ ys) (suc n) q at = parts_of_zip xs ys n q at

first_of : (xs : List ℕ) → 2 ≤ length xs → (x : ℕ) × (slice_get xs 0 ≡ Some x) × (slice_index_or xs 0 0 ≡ x)
first_of [] some = absurd (omega (arith, some))
first_of (x ∷ xs) some = (x, refl, refl)

pub several_of : (w : World) (sets : List ℕ) (n : ℕ) → is_undecided w sets n ≡ true → HasSeveral w sets n
unfolding members_at
several_of w sets n open_ = at (slice_get (zip (cells_of w) sets) n) refl
  where
    at : (o : Option (Cell × ℕ)) → slice_get (zip (cells_of w) sets) n ≡ o → HasSeveral w sets n
    at None is = absurd (omega (arith, ltb-true 1 (length (members_at w sets n)) open_, ap (λ o. length (members_of w o)) is))
    at (Some q) is =
        let parts = parts_of_zip (cells_of w) sets n q is in
        let more : 2 ≤ length (members (cell_size w q.0) q.1) = omega (arith, ltb-true 1 (length (members_at w sets n)) open_, ap (λ o. length (members_of w o)) is) in
        let first = first_of (members (cell_size w q.0) q.1) more in
        record {
          cell = q.0;
          set = q.1;
          value = first.0;
          cell_at = parts.0;
          set_at = parts.1;
          first = first.1;
          several = more;
          set_is = get_or_from_slice_get sets n q.1 0 parts.1;
          value_is = ap (λ o. slice_index_or (members_of w o) 0 0) is ∙ first.2;
        }

-- sets of which one is smaller
shrinks_with : (w : World) (roots sets : List ℕ) (n : ℕ) (c : Cell) (x s : ℕ) → Shrink w roots sets → slice_get (cells_of w) n ≡ Some c → slice_get sets n ≡ Some x →
    is_set (cell_size w c) s ≡ true → ((u : ℕ) → set_has s u ≡ true → set_has x u ≡ true) → Shrink w roots (slice_set sets n s)
shrinks_with w roots sets n c x s fits cell_at set_at is part = record {
  are_sets = record {
    whole = length_with sets n s ∙ fits.are_sets.whole;
    each = all_with (λ q. is_set (cell_size w q.0) q.1) (cells_of w) sets n c s cell_at is fits.are_sets.each;
  };
  as_many = fits.as_many ∙ sym (length_with sets n s);
  inside = all_within (λ q. is_within (cell_size w q.0) q.1.1 q.1.0) (cells_of w) roots sets n c s x cell_at set_at (λ r old. narrower r old) fits.inside;
}
  where
    narrower : (r : ℕ) → is_within (cell_size w c) x r ≡ true → is_within (cell_size w c) s r ≡ true
    narrower r old =
        let size = cell_size w c in
        all_from_each (set_has r) (members size s)
        (λ k v at.
        let inside = member_in size s k v at in
        let there = member_at size x v inside.1 (part v inside.0) in
        each_of (set_has r) (members size x) old there.0 v there.1)

sets_lighter : (w : World) (sets : List ℕ) (n : ℕ) (c : Cell) (x s : ℕ) → slice_get (cells_of w) n ≡ Some c → slice_get sets n ≡ Some x →
    2 ≤ length (members (cell_size w c) x) → length (members (cell_size w c) s) < length (members (cell_size w c) x) → sets_weight w (slice_set sets n s) < sets_weight w sets
unfolding sets_weight
sets_lighter w sets n c x s cell_at set_at several less =
    omega (arith, several, less, sum_with (λ q. length (members (cell_size w q.0) q.1) - 1) (cells_of w) sets n c s x cell_at set_at)

-- a branch parted by the values of a cell
pub cut_halves : (p : Posed) (sets : List ℕ) (wants : List Want) → Fits p (branch sets wants) → (n : ℕ) (s : HasSeveral (world_of_problem p) sets n) →
    AreHalves p (branch sets wants) (branch (slice_set sets n (single_set s.value)) wants) (branch (slice_set sets n (s.set - single_set s.value)) wants)
cut_halves p sets wants fits n s =
    let w = world_of_problem p in
    let size = cell_size w s.cell in
    let inside = member_in size s.set 0 s.value s.first in
    let is = each_of (λ q. is_set (cell_size w q.0) q.1) (zip (cells_of w) sets) fits.sets.are_sets.each n (s.cell, s.set) (zip_at (cells_of w) sets n s.cell s.set s.cell_at s.set_at) in
    let parted = without size s.set s.value is s.first s.several in
    record {
      both = reps_split p (branch sets wants) _ _ (λ table model.
          both_left (lies_in sets table) (lies_in (slice_set sets n (single_set s.value)) table) (lies_in (slice_set sets n (s.set - single_set s.value)) table) (list_all (want_holds p table) wants)
          (lies_split sets table n s.set (single_set s.value) (s.set - single_set s.value) s.set_at
          (omega (arith, slice_get_within (cells_of w) n s.cell s.cell_at, model.is_table.whole)) (λ u. has_split s.set s.value u inside.0)));
      left_fits = record {
        sets = shrinks_with w (root_sets p) sets n s.cell s.set (single_set s.value) fits.sets s.cell_at s.set_at (single_is_set size s.value inside.1)
            (λ u has. ap (set_has s.set) (only_single s.value u has) ∙ inside.0);
        wants = fits.wants;
      };
      right_fits = record {
        sets = shrinks_with w (root_sets p) sets n s.cell s.set (s.set - single_set s.value) fits.sets s.cell_at s.set_at parted.is_set_without (λ u has. left_has s.set s.value u inside.0 has);
        wants = fits.wants;
      };
      left_lighter = omega (arith, sets_lighter w sets n s.cell s.set (single_set s.value) s.cell_at s.set_at s.several (omega (arith, ap length parted.alone, s.several)));
      right_lighter = omega (arith, sets_lighter w sets n s.cell s.set (s.set - single_set s.value) s.cell_at s.set_at s.several (omega (arith, parted.others)));
    }

-- as the rule says it
pub cut_law : (p : Posed) → IsPosed p → (sets : List ℕ) (wants : List Want) → Fits p (branch sets wants) → (n : ℕ) → is_undecided (world_of_core p.core) sets n ≡ true →
    KeepsLaw p (branch sets wants) (cut_cell (world_of_core p.core) sets wants n)
cut_law p posed sets wants fits n open_ =
    let same = same_world p.core p.spec posed.stands in
    subst (λ w. KeepsLaw p (branch sets wants) (cut_cell w sets wants n)) (sym same)
    (in_spec (several_of (world_of_problem p) sets n (sym (ap (λ w. is_undecided w sets n) same) ∙ open_)))
  where
    in_spec : HasSeveral (world_of_problem p) sets n → KeepsLaw p (branch sets wants) (cut_cell (world_of_problem p) sets wants n)
    in_spec s =
        rw (s.value_is, s.set_is) (cut_halves p sets wants fits n s)
