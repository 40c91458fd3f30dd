-- Where each set has one member, one table lies in the sets.
use Rattle.std.proofs.Common.{◌≡◌, ℕ, zero, suc, ◌<◌, Bool, true, ◌==◌, nat_lt, List, [], ◌∷◌, map, length, Option, None, Some, slice_get, slice_index_or, zip, refl, sym, ap, ◌∙◌, arith}
use Rattle.std.specs.List.{list_all}
use Rattle.std.proofs.lemmas.Bool.{and_parts, and_from, eqb-true, eq-eqb, ltb-true, lt-ltb, false≢true}
use Rattle.std.proofs.lemmas.Option.{none-some, same_Some}
use Rattle.trio_types.specs.World.{World}
use Rattle.trio_types.specs.Cells.{Cell, cell_size}
use Rattle.trio_types.proofs.Lists.{each_of}
use Rattle.trio_core.specs.Sets.{set_has, members, is_within}
use Rattle.trio_core.proofs.Looks.{member_at}
use Rattle.trio_core.proofs.Sole.{member_in}
use Rattle.history_table.specs.Fitting.{is_given, extends}
use Rattle.branch_state.specs.Branches.{root_set, lies_in}
use Rattle.branch_state.proofs.SetsFit.{only_single}
use Rattle.decompose.specs.Rule.{least_member}

-- a set with one member
record Single (size set : ℕ) : Type 0 where
  has : set_has set (least_member size set) ≡ true
  below : least_member size set < size
  alone : (u : ℕ) → u < size → set_has set u ≡ true → u ≡ least_member size set
  given : (g : Option ℕ) → is_within size set (root_set size g) ≡ true → is_given g (least_member size set) ≡ true

single : (size set : ℕ) → (length (members size set) == 1) ≡ true → Single size set
single size set one = record {
  has = inside.0;
  below = inside.1;
  alone = λ u below has. let m = member_at size set u below has in just m.0 u (sym (ap (λ ms. slice_get ms m.0) whole) ∙ m.1);
  given = λ g within. known g (each_of (set_has (root_set size g)) (members size set) within 0 (least_member size set) first);
}
  where
    head_alone : (ms : List ℕ) → (length ms == 1) ≡ true → ms ≡ slice_index_or ms 0 0 ∷ []
    head_alone [] is = absurd (false≢true is)
    head_alone (v ∷ []) is = refl
    head_alone (v ∷ u ∷ ms) is = absurd (omega (arith, eqb-true (length (v ∷ u ∷ ms)) 1 is))

    whole : members size set ≡ least_member size set ∷ []
    whole = head_alone (members size set) one

    first : slice_get (members size set) 0 ≡ Some (least_member size set)
    first = ap (λ ms. slice_get ms 0) whole

    inside : (set_has set (least_member size set) ≡ true) × (least_member size set < size)
    inside = member_in size set 0 (least_member size set) first

    just : (j u : ℕ) → slice_get (least_member size set ∷ []) j ≡ Some u → u ≡ least_member size set
    just zero u at = sym (same_Some (least_member size set) u at)
    just (suc j) u at = absurd (none-some u at)

    known : (g : Option ℕ) → set_has (root_set size g) (least_member size set) ≡ true → is_given g (least_member size set) ≡ true
    known None has = refl
    known (Some k) has = eq-eqb k (least_member size set) (sym (only_single k (least_member size set) has))

-- the table of the only members
abbrev pub leasts : World → List Cell → List ℕ → List ℕ
leasts w cells sets = map (λ q. least_member (cell_size w q.0) q.1) (zip cells sets)

abbrev pub are_below : World → List Cell → List ℕ → Bool
are_below w cells table = list_all (λ q. nat_lt q.1 (cell_size w q.0)) (zip cells table)

pub record Only (w : World) (cells : List Cell) (given : List (Option ℕ)) (sets : List ℕ) : Type 0 where
  pub long : length (leasts w cells sets) ≡ length cells
  pub below : are_below w cells (leasts w cells sets) ≡ true
  pub lies : lies_in sets (leasts w cells sets) ≡ true
  pub extended : extends given (leasts w cells sets) ≡ true
  pub alone : (other : List ℕ) → length other ≡ length cells → are_below w cells other ≡ true → lies_in sets other ≡ true → other ≡ leasts w cells sets

pub only_table : (w : World) (cells : List Cell) (given : List (Option ℕ)) (sets : List ℕ) → length given ≡ length cells → length sets ≡ length cells →
    list_all (λ q. length (members (cell_size w q.0) q.1) == 1) (zip cells sets) ≡ true →
    list_all (λ q. is_within (cell_size w q.0) q.1.1 q.1.0) (zip cells (zip (map (λ q. root_set (cell_size w q.0) q.1) (zip cells given)) sets)) ≡ true → Only w cells given sets
only_table w [] [] [] gl sl one within = record { long = refl; below = refl; lies = refl; extended = refl; alone = λ other long below lies. empty other long }
  where
    empty : (other : List ℕ) → length other ≡ 0 → other ≡ []
    empty [] long = refl
    empty (u ∷ us) long = absurd (omega (arith, long))
only_table w [] [] (s ∷ sets) gl sl one within = absurd (omega (arith, sl))
only_table w [] (g ∷ given) sets gl sl one within = absurd (omega (arith, gl))
only_table w (c ∷ cells) [] sets gl sl one within = absurd (omega (arith, gl))
only_table w (c ∷ cells) (g ∷ given) [] gl sl one within = absurd (omega (arith, sl))
only_table w (c ∷ cells) (g ∷ given) (s ∷ sets) gl sl one within =
    let size = cell_size w c in
    let roots = map (λ q. root_set (cell_size w q.0) q.1) (zip cells given) in
    let ones = and_parts (length (members size s) == 1) (list_all (λ q. length (members (cell_size w q.0) q.1) == 1) (zip cells sets)) one in
    let withins = and_parts (is_within size s (root_set size g)) (list_all (λ q. is_within (cell_size w q.0) q.1.1 q.1.0) (zip cells (zip roots sets))) within in
    let here = single size s ones.0 in
    let rest = only_table w cells given sets (omega (arith, gl)) (omega (arith, sl)) ones.1 withins.1 in
    record {
      long = omega (arith, rest.long);
      below = and_from (nat_lt (least_member size s) size) (are_below w cells (leasts w cells sets)) (lt-ltb (least_member size s) size here.below) rest.below;
      lies = and_from (set_has s (least_member size s)) (lies_in sets (leasts w cells sets)) here.has rest.lies;
      extended = and_from (is_given g (least_member size s)) (extends given (leasts w cells sets)) (here.given g withins.0) rest.extended;
      alone = λ other long below lies. with_head here rest other long below lies;
    }
  where
    with_head : Single (cell_size w c) s → Only w cells given sets → (other : List ℕ) → length other ≡ suc (length cells) → are_below w (c ∷ cells) other ≡ true → lies_in (s ∷ sets) other ≡ true →
        other ≡ leasts w (c ∷ cells) (s ∷ sets)
    with_head here rest [] long below lies = absurd (omega (arith, long))
    with_head here rest (u ∷ us) long below lies =
        let small = and_parts (nat_lt u (cell_size w c)) (are_below w cells us) below in
        let both = and_parts (set_has s u) (lies_in sets us) lies in
        rw (here.alone u (ltb-true u (cell_size w c) small.0) both.0, rest.alone us (omega (arith, long)) small.1 both.1) refl
