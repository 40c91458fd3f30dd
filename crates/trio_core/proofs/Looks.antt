-- What sets say of cells: of a table that lies in them, of smaller sets, and where each has one member alone.
use Rattle.std.proofs.Common.{◌≡◌, ◌≢◌, ◌⊎◌, inl, inr, ℕ, zero, suc, ◌+◌, ◌/◌, ◌<◌, ◌^◌, ℤ, Bool, true, false, ◌&&◌, ◌==◌, nat_lt, List, [], ◌∷◌, Option, None, Some, map, length, filter, find, zip, slice_get, refl, sym, ap, ◌∙◌, arith}
use Rattle.std.specs.Int.{bit_at}
use Rattle.std.specs.List.{range_with_len, list_all}
use Rattle.std.specs.Option.{option_map}
use Rattle.std.specs.Str.{bytes_eq}
use Rattle.std.proofs.Math.Logic.{⊎_elim}
use Rattle.std.proofs.lemmas.Bool.{and_parts, cond-true, cond-false, cases_Bool, eqb-true, eqb-false, ltb-true, cases_lt, false≢true}
use Rattle.std.proofs.lemmas.List.{length-map}
use Rattle.std.proofs.lemmas.Nat.{mod_below}
use Rattle.std.proofs.lemmas.Nat.Bits.{same_from_bits_below, bit_at-zero}
use Rattle.std.proofs.lemmas.Option.{none-some, same_Some, slice_get-map}
use Rattle.trio_types.specs.World.{World}
use Rattle.trio_types.specs.Cells.{Cell, same_cell, cells_of, cell_values, cell_size, value_at, number_at}
use Rattle.trio_types.proofs.Lists.{each_of}
use Rattle.trio_core.specs.Sets.{set_has, members, is_set, is_within, LiesIn, Shrink, AreSingle}
use Rattle.trio_core.specs.Three.{known_of_option, known_of_members, known_at}
use Rattle.trio_core.proofs.Stays.{KnownStays, known_stays_same, stays_from_several, MoreKnown}
use Rattle.trio_core.proofs.Sure.{IsKnown}

-- the entry of a list at the first cell that passes
abbrev entry_of : (Cell → Bool) → List Cell → List ℕ → Option ℕ
entry_of p cells xs = option_map (λ q. q.1) (find (λ q. p q.0) (zip cells xs))

-- the entries of two lists at one cell
record Found (p : Cell → Bool) (cells : List Cell) (xs ys : List ℕ) : Type 0 where
  place : ℕ
  cell : Cell
  x : ℕ
  y : ℕ
  cell_at : slice_get cells place ≡ Some cell
  passes : p cell ≡ true
  x_at : slice_get xs place ≡ Some x
  y_at : slice_get ys place ≡ Some y
  x_is : entry_of p cells xs ≡ Some x
  y_is : entry_of p cells ys ≡ Some y

record Missing (p : Cell → Bool) (cells : List Cell) (xs ys : List ℕ) : Type 0 where
  x_is : entry_of p cells xs ≡ None
  y_is : entry_of p cells ys ≡ None

found_both : (p : Cell → Bool) (cells : List Cell) (xs ys : List ℕ) → length xs ≡ length cells → length ys ≡ length cells → Missing p cells xs ys ⊎ Found p cells xs ys
found_both p [] xs ys xl yl = inl (record { x_is = refl; y_is = refl })
found_both p (c ∷ cells) [] ys xl yl = absurd (omega arith)
found_both p (c ∷ cells) (x ∷ xs) [] xl yl = absurd (omega arith)
found_both p (c ∷ cells) (x ∷ xs) (y ∷ ys) xl yl =
    ⊎_elim
    (λ yes. inr (record {
      place = 0;
      cell = c;
      x = x;
      y = y;
      cell_at = refl;
      passes = yes;
      x_at = refl;
      y_at = refl;
      x_is = ap (option_map (λ q. q.1)) (cond-true (p c) (Some (c, x)) (find (λ q. p q.0) (zip cells xs)) yes);
      y_is = ap (option_map (λ q. q.1)) (cond-true (p c) (Some (c, y)) (find (λ q. p q.0) (zip cells ys)) yes);
    }))
    (λ no.
    let skip = λ (z : ℕ) (zs : List ℕ). ap (option_map (λ q. q.1)) (cond-false (p c) (Some (c, z)) (find (λ q. p q.0) (zip cells zs)) no) in
    ⊎_elim
    (λ (m : Missing p cells xs ys). inl (record { x_is = skip x xs ∙ m.x_is; y_is = skip y ys ∙ m.y_is }))
    (λ (f : Found p cells xs ys). inr (record {
      place = suc f.place;
      cell = f.cell;
      x = f.x;
      y = f.y;
      cell_at = f.cell_at;
      passes = f.passes;
      x_at = f.x_at;
      y_at = f.y_at;
      x_is = skip x xs ∙ f.x_is;
      y_is = skip y ys ∙ f.y_is;
    }))
    (found_both p cells xs ys (omega arith) (omega arith)))
    (cases_Bool (p c))

-- elements of lists side by side
pub zip_at : {X Y : Type 0} (xs : List X) (ys : List Y) (k : ℕ) (x : X) (y : Y) → slice_get xs k ≡ Some x → slice_get ys k ≡ Some y → slice_get (zip xs ys) k ≡ Some (x, y)
zip_at [] ys k x y xt yt = absurd (none-some x xt)
zip_at (u ∷ us) [] k x y xt yt = absurd (none-some y yt)
zip_at (u ∷ us) (v ∷ vs) zero x y xt yt = rw (same_Some u x xt, same_Some v y yt) refl
zip_at (u ∷ us) (v ∷ vs) (suc k) x y xt yt = zip_at us vs k x y xt yt

length-zip : {X Y : Type 0} (xs : List X) (ys : List Y) → length ys ≡ length xs → length (zip xs ys) ≡ length xs
length-zip [] ys same = refl
length-zip (x ∷ xs) [] same = absurd (omega arith)
length-zip (x ∷ xs) (y ∷ ys) same = ap suc (length-zip xs ys (omega arith))

-- cells of one item have the same values
pub same_values : (w : World) (a b : Cell) → same_cell a b ≡ true → cell_values w a ≡ cell_values w b
same_values w a b same =
    let e : a.item ≡ b.item = eqb-true a.item b.item (and_parts (a.item == b.item) (bytes_eq a.args b.args && a.instant == b.instant) same).0 in
    rw e refl

-- members
kept : (p : ℕ → Bool) (xs : List ℕ) (k x : ℕ) → slice_get xs k ≡ Some x → p x ≡ true → (j : ℕ) × (slice_get (filter p xs) j ≡ Some x)
kept p [] k x at passes = absurd (none-some x at)
kept p (y ∷ ys) zero x at passes =
    let e = same_Some y x at in
    (0, rw (cond-true (p y) (y ∷ filter p ys) (filter p ys) (rw e passes)) at)
kept p (y ∷ ys) (suc k) x at passes =
    let rest = kept p ys k x at passes in
    ⊎_elim
    (λ yes. (suc rest.0, rw (cond-true (p y) (y ∷ filter p ys) (filter p ys) yes) rest.1))
    (λ no. (rest.0, rw (cond-false (p y) (y ∷ filter p ys) (filter p ys) no) rest.1))
    (cases_Bool (p y))

at_range : (a n v : ℕ) → v < n → slice_get (range_with_len a n) v ≡ Some (a + v)
at_range a zero v below = absurd (omega arith)
at_range a (suc n) zero below = let e : a ≡ a + 0 = omega arith in ap Some e
at_range a (suc n) (suc v) below = let e : (a + 1) + v ≡ a + suc v = omega arith in at_range (a + 1) n v (omega arith) ∙ ap Some e

pub member_at : (size set v : ℕ) → v < size → set_has set v ≡ true → (j : ℕ) × (slice_get (members size set) j ≡ Some v)
member_at size set v below has =
    let e : 0 + v ≡ v = omega arith in
    kept (set_has set) (range_with_len 0 size) v v (at_range 0 size v below ∙ ap Some e) has

-- a set that is not empty has a member
pub some_member : (size set : ℕ) → is_set size set ≡ true → members size set ≢ []
some_member size set is none =
    let both = and_parts (nat_lt 0 set) (nat_lt set (2 ^ size)) is in
    let zero_set : set ≡ 0 = same_from_bits_below size set 0 (ltb-true set (2 ^ size) both.1) (omega (arith, ltb-true 0 set both.0, ltb-true set (2 ^ size) both.1)) (λ v below. no_bit v below (cases_Bool (set_has set v))) in
    omega (arith, zero_set, ltb-true 0 set both.0)
  where
    empty : (j v : ℕ) → slice_get (members size set) j ≡ Some v → ⊥
    empty j v at = none-some v (sym (ap (λ ms. slice_get ms j) none) ∙ at)

    no_bit : (v : ℕ) → v < size → (set_has set v ≡ true) ⊎ (set_has set v ≡ false) → bit_at set v ≡ bit_at 0 v
    no_bit v below (inl h) = let m = member_at size set v below h in absurd (empty m.0 v m.1)
    no_bit v below (inr h) =
        let two : bit_at set v < 2 = mod_below (set / 2 ^ v) 2 (omega arith) in
        let zero_bit : bit_at set v ≡ 0 = ⊎_elim (λ less. omega (arith, less)) (λ more. absurd (eqb-false (bit_at set v) 1 h (omega (arith, more, two)))) (cases_lt (bit_at set v) 1) in
        zero_bit ∙ sym (bit_at-zero v)

-- one member of a set, and the others
one_of : (values : List ℤ) (ms : List ℕ) (j v : ℕ) → slice_get ms j ≡ Some v → KnownStays (known_of_members values ms) (known_of_option (slice_get values v))
one_of values [] j v at = absurd (none-some v at)
one_of values (u ∷ []) zero v at = known_stays_same _ _ (rw (same_Some u v at) refl)
one_of values (u ∷ []) (suc j) v at = absurd (none-some v at)
one_of values (u ∷ x ∷ ms) j v at = stays_from_several _

fewer : (values : List ℤ) (q : ℕ → Bool) (ms : List ℕ) → filter q ms ≢ [] → KnownStays (known_of_members values ms) (known_of_members values (filter q ms))
fewer values q [] some = absurd (some refl)
fewer values q (u ∷ []) some =
    ⊎_elim
    (λ yes. known_stays_same _ _ (sym (ap (known_of_members values) (cond-true (q u) (u ∷ []) [] yes))))
    (λ no. absurd (some (cond-false (q u) (u ∷ []) [] no)))
    (cases_Bool (q u))
fewer values q (u ∷ x ∷ ms) some = stays_from_several _

filtered_twice : (p q : ℕ → Bool) (xs : List ℕ) → list_all p (filter q xs) ≡ true → filter q (filter p xs) ≡ filter q xs
filtered_twice p q [] all = refl
filtered_twice p q (x ∷ xs) all =
    ⊎_elim
    (λ yes.
    let both = and_parts (p x) (list_all p (filter q xs)) (sym (ap (list_all p) (cond-true (q x) (x ∷ filter q xs) (filter q xs) yes)) ∙ all) in
    ap (filter q) (cond-true (p x) (x ∷ filter p xs) (filter p xs) both.0)
    ∙ cond-true (q x) (x ∷ filter q (filter p xs)) (filter q (filter p xs)) yes
    ∙ ap (λ ys. x ∷ ys) (filtered_twice p q xs both.1)
    ∙ sym (cond-true (q x) (x ∷ filter q xs) (filter q xs) yes))
    (λ no.
    let rest = filtered_twice p q xs (sym (ap (list_all p) (cond-false (q x) (x ∷ filter q xs) (filter q xs) no)) ∙ all) in
    ⊎_elim
    (λ in_p. ap (filter q) (cond-true (p x) (x ∷ filter p xs) (filter p xs) in_p) ∙ cond-false (q x) (x ∷ filter q (filter p xs)) (filter q (filter p xs)) no
    ∙ rest ∙ sym (cond-false (q x) (x ∷ filter q xs) (filter q xs) no))
    (λ out. ap (filter q) (cond-false (p x) (x ∷ filter p xs) (filter p xs) out) ∙ rest ∙ sym (cond-false (q x) (x ∷ filter q xs) (filter q xs) no))
    (cases_Bool (p x)))
    (cases_Bool (q x))

smaller : (values : List ℤ) (size set less : ℕ) → is_set size less ≡ true → is_within size less set ≡ true →
    KnownStays (known_of_members values (members size set)) (known_of_members values (members size less))
smaller values size set less is inside =
    let twice = filtered_twice (set_has set) (set_has less) (range_with_len 0 size) inside in
    rw (← twice) (fewer values (set_has less) (members size set) (λ none. some_member size less is (sym twice ∙ none)))

-- a table that lies in the sets
pub lies_known : (w : World) (sets t : List ℕ) → LiesIn w sets t → MoreKnown (known_at w sets) (λ c. known_of_option (number_at w t c))
unfolding known_at value_at
lies_known w sets t lies = record { each = λ c. at c (found_both (λ d. same_cell d c) (cells_of w) sets t (lies.as_many ∙ lies.is_table.whole) lies.is_table.whole) }
  where
    at : (c : Cell) → Missing (λ d. same_cell d c) (cells_of w) sets t ⊎ Found (λ d. same_cell d c) (cells_of w) sets t → KnownStays (known_at w sets c) (known_of_option (number_at w t c))
    at c (inl m) = known_stays_same _ _ (rw (m.x_is, m.y_is) refl)
    at c (inr f) =
        let below : f.y < cell_size w f.cell = ltb-true f.y (cell_size w f.cell) (each_of (λ p. nat_lt p.1 (cell_size w p.0)) (zip (cells_of w) t) lies.is_table.within f.place (f.cell, f.y) (zip_at (cells_of w) t f.place f.cell f.y f.cell_at f.y_at)) in
        let has : set_has f.x f.y ≡ true = each_of (λ p. set_has p.0 p.1) (zip sets t) lies.inside f.place (f.x, f.y) (zip_at sets t f.place f.x f.y f.x_at f.y_at) in
        let size : cell_size w f.cell ≡ cell_size w c = ap length (same_values w f.cell c f.passes) in
        let member = member_at (cell_size w c) f.x f.y (omega (arith, below, size)) has in
        rw (f.x_is, f.y_is) (one_of (cell_values w c) (members (cell_size w c) f.x) member.0 f.y member.1)

-- sets that shrink
pub shrink_known : (w : World) (sets less : List ℕ) → Shrink w sets less → MoreKnown (known_at w sets) (known_at w less)
unfolding known_at value_at
shrink_known w sets less shrink = record { each = λ c. at c (found_both (λ d. same_cell d c) (cells_of w) sets less (shrink.as_many ∙ shrink.are_sets.whole) shrink.are_sets.whole) }
  where
    at : (c : Cell) → Missing (λ d. same_cell d c) (cells_of w) sets less ⊎ Found (λ d. same_cell d c) (cells_of w) sets less → KnownStays (known_at w sets c) (known_at w less c)
    at c (inl m) = known_stays_same _ _ (rw (m.x_is, m.y_is) refl)
    at c (inr f) =
        let is = each_of (λ p. is_set (cell_size w p.0) p.1) (zip (cells_of w) less) shrink.are_sets.each f.place (f.cell, f.y) (zip_at (cells_of w) less f.place f.cell f.y f.cell_at f.y_at) in
        let inside = each_of (λ p. is_within (cell_size w p.0) p.1.1 p.1.0) (zip (cells_of w) (zip sets less)) shrink.inside f.place (f.cell, (f.x, f.y))
        (zip_at (cells_of w) (zip sets less) f.place f.cell (f.x, f.y) f.cell_at (zip_at sets less f.place f.x f.y f.x_at f.y_at)) in
        let size : cell_size w f.cell ≡ cell_size w c = ap length (same_values w f.cell c f.passes) in
        rw (f.x_is, f.y_is) (smaller (cell_values w c) (cell_size w c) f.x f.y (rw (← size) is) (rw (← size) inside))

-- the table of the sets' only members
abbrev first_or_zero : List ℕ → ℕ
first_or_zero [] = 0
first_or_zero (v ∷ vs) = v

pub only_table : World → List ℕ → List ℕ
only_table w sets = map (λ p. first_or_zero (members (cell_size w p.0) p.1)) (zip (cells_of w) sets)

only_one : (values : List ℤ) (ms : List ℕ) → (length ms == 1) ≡ true → known_of_members values ms ≡ known_of_option (slice_get values (first_or_zero ms))
only_one values [] single = absurd (false≢true single)
only_one values (v ∷ []) single = refl
only_one values (v ∷ x ∷ ms) single = absurd (omega (arith, eqb-true (length (v ∷ x ∷ ms)) 1 single))

pub single_known : (w : World) (sets : List ℕ) → AreSingle w sets → IsKnown w (known_at w sets) (only_table w sets)
unfolding known_at value_at only_table
single_known w sets single = record {
  each = λ c. at c (found_both (λ d. same_cell d c) (cells_of w) sets (only_table w sets) single.are_sets.whole
      (length-map (zip (cells_of w) sets) (λ p. first_or_zero (members (cell_size w p.0) p.1)) ∙ length-zip (cells_of w) sets single.are_sets.whole));
}
  where
    at : (c : Cell) → Missing (λ d. same_cell d c) (cells_of w) sets (only_table w sets) ⊎ Found (λ d. same_cell d c) (cells_of w) sets (only_table w sets) →
        known_at w sets c ≡ known_of_option (number_at w (only_table w sets) c)
    at c (inl m) = rw (m.x_is, m.y_is) refl
    at c (inr f) =
        let pair = zip_at (cells_of w) sets f.place f.cell f.x f.cell_at f.x_at in
        let one_there = each_of (λ p. length (members (cell_size w p.0) p.1) == 1) (zip (cells_of w) sets) single.each f.place (f.cell, f.x) pair in
        let first : first_or_zero (members (cell_size w f.cell) f.x) ≡ f.y =
        same_Some _ _ (sym (slice_get-map (λ p. first_or_zero (members (cell_size w p.0) p.1)) (zip (cells_of w) sets) f.place
        ∙ ap (option_map (λ p. first_or_zero (members (cell_size w p.0) p.1))) pair) ∙ f.y_at) in
        let size : cell_size w f.cell ≡ cell_size w c = ap length (same_values w f.cell c f.passes) in
        rw (f.x_is, f.y_is, ← first, size) (only_one (cell_values w c) (members (cell_size w c) f.x) (rw (← size) one_there))
