-- The members of sets: one alone or several, and what a set then tells of its cell.
use Rattle.std.proofs.Common.{◌≡◌, ◌≢◌, ◌⊎◌, inl, inr, ℕ, zero, suc, ◌+◌, ◌/◌, ◌<◌, ◌≤◌, ◌^◌, ℤ, Bool, true, false, nat_lt, List, [], ◌∷◌, Some, length, filter, zip, slice_get, refl, sym, ap, ◌∙◌, arith}
use Rattle.std.specs.Int.{bit_at}
use Rattle.std.specs.List.{range_with_len}
use Rattle.std.proofs.Math.Logic.{⊎_elim}
use Rattle.std.proofs.lemmas.Bool.{and_parts, cond-true, cond-false, cases_Bool, cases_lt, cases_eq, eqb-true, eqb-false, eq-eqb, ltb-true, false_from_ne_true, false≢true}
use Rattle.std.proofs.lemmas.Nat.{mod_below, pow_below}
use Rattle.std.proofs.lemmas.Nat.Bits.{same_from_bits_below, bit_at-pow_same, bit_at-pow_other}
use Rattle.std.proofs.lemmas.Option.{none-some, same_Some}
use Rattle.trio_types.specs.World.{World}
use Rattle.trio_types.specs.Cells.{Cell, cells_of, cell_values, cell_size}
use Rattle.trio_types.proofs.CellOrder.{entry_at}
use Rattle.trio_types.proofs.Lists.{each_of}
use Rattle.trio_core.specs.declared.nodes.Known.TheVariants.{Several, One}
use Rattle.trio_core.specs.Sets.{set_has, members, is_set, AreSets}
use Rattle.trio_core.specs.Three.{known_of_option, known_of_members, known_of_set, known_at}
use Rattle.trio_core.proofs.Looks.{zip_at, member_at, some_member}

-- only one number of a row passes, or none
pub filter_none : (p : ℕ → Bool) (a n : ℕ) → ((u : ℕ) → a ≤ u → u < a + n → p u ≡ false) → filter p (range_with_len a n) ≡ []
filter_none p a zero fails = refl
filter_none p a (suc n) fails =
    cond-false (p a) (a ∷ filter p (range_with_len (a + 1) n)) (filter p (range_with_len (a + 1) n)) (fails a (omega arith) (omega arith))
    ∙ filter_none p (a + 1) n (λ u from to. fails u (omega arith) (omega arith))

pub filter_one : (p : ℕ → Bool) (a n v : ℕ) → a ≤ v → v < a + n → p v ≡ true → ((u : ℕ) → u ≢ v → p u ≡ false) → filter p (range_with_len a n) ≡ v ∷ []
filter_one p a zero v from to here others = absurd (omega arith)
filter_one p a (suc n) v from to here others =
    ⊎_elim
    (λ less.
    cond-false (p a) (a ∷ filter p (range_with_len (a + 1) n)) (filter p (range_with_len (a + 1) n)) (others a (λ e. omega (arith, e, less)))
    ∙ filter_one p (a + 1) n v (omega arith) (omega arith) here others)
    (λ more.
    let e : a ≡ v = omega (arith, from, more) in
    cond-true (p a) (a ∷ filter p (range_with_len (a + 1) n)) (filter p (range_with_len (a + 1) n)) (ap p e ∙ here)
    ∙ ap (λ us. a ∷ us) (filter_none p (a + 1) n (λ u start end. others u (λ same. omega (arith, same, start, more))))
    ∙ ap (λ x. x ∷ []) e)
    (cases_lt a v)

-- a member is in the set, and below its size
kept_in : (p : ℕ → Bool) (a n j v : ℕ) → slice_get (filter p (range_with_len a n)) j ≡ Some v → (p v ≡ true) × (v < a + n)
kept_in p a zero j v at = absurd (none-some v at)
kept_in p a (suc n) j v at =
    ⊎_elim
    (λ h. first j h (sym (ap (λ us. slice_get us j) (cond-true (p a) (a ∷ filter p (range_with_len (a + 1) n)) (filter p (range_with_len (a + 1) n)) h)) ∙ at) (λ i more. kept_in p (a + 1) n i v more))
    (λ h.
    let rest = kept_in p (a + 1) n j v (sym (ap (λ us. slice_get us j) (cond-false (p a) (a ∷ filter p (range_with_len (a + 1) n)) (filter p (range_with_len (a + 1) n)) h)) ∙ at) in
    (rest.0, omega (arith, rest.1)))
    (cases_Bool (p a))
  where
    first : (j : ℕ) → p a ≡ true → slice_get (a ∷ filter p (range_with_len (a + 1) n)) j ≡ Some v →
        ((i : ℕ) → slice_get (filter p (range_with_len (a + 1) n)) i ≡ Some v → (p v ≡ true) × (v < a + 1 + n)) → (p v ≡ true) × (v < a + suc n)
    first zero h there rest = let e = same_Some a v there in (ap p (sym e) ∙ h, omega (arith, e))
    first (suc j) h there rest = let r = rest j there in (r.0, omega (arith, r.1))

pub member_in : (size set j v : ℕ) → slice_get (members size set) j ≡ Some v → (set_has set v ≡ true) × (v < size)
member_in size set j v at = let r = kept_in (set_has set) 0 size j v at in (r.0, omega (arith, r.1))

bit_zero : (set v : ℕ) → set_has set v ≡ false → bit_at set v ≡ 0
bit_zero set v out =
    let two : bit_at set v < 2 = mod_below (set / 2 ^ v) 2 (omega arith) in
    ⊎_elim (λ less. omega (arith, less)) (λ more. absurd (eqb-false (bit_at set v) 1 out (omega (arith, more, two)))) (cases_lt (bit_at set v) 1)

-- a power of two has one bit
power_has : (low v : ℕ) → set_has (2 ^ low) v ≡ true → v ≡ low
power_has low v has =
    ⊎_elim (λ same. same)
    (λ other. let zero_bit = bit_at-pow_other low v other in let one_bit = eqb-true (bit_at (2 ^ low) v) 1 has in absurd (omega (arith, zero_bit, one_bit)))
    (cases_eq v low)

power_itself : (low : ℕ) → set_has (2 ^ low) low ≡ true
power_itself low = eq-eqb (bit_at (2 ^ low) low) 1 (bit_at-pow_same low)

-- there is a member in a list that is not empty
some_in : (ms : List ℕ) → ms ≢ [] → (v : ℕ) × (slice_get ms 0 ≡ Some v)
some_in [] some = absurd (some refl)
some_in (v ∷ ms) some = (v, refl)

pub one_bit : (size set low : ℕ) → is_set size set ≡ true → set ≡ 2 ^ low → members size set ≡ low ∷ []
one_bit size set low is power =
    let first = some_in (members size set) (some_member size set is) in
    let inside = member_in size set 0 first.0 first.1 in
    let there : first.0 ≡ low = power_has low first.0 (ap (λ s. set_has s first.0) (sym power) ∙ inside.0) in
    filter_one (set_has set) 0 size low (omega arith) (omega (arith, there, inside.1)) (ap (λ s. set_has s low) power ∙ power_itself low)
    (λ u other. false_from_ne_true (set_has set u) (λ has. other (power_has low u (ap (λ s. set_has s u) (sym power) ∙ has))))

pub more_bits : (size set low : ℕ) → is_set size set ≡ true → set_has set low ≡ true → set ≢ 2 ^ low → 2 ≤ length (members size set)
more_bits size set low is has other = count (members size set) refl
  where
    power : (v : ℕ) → members size set ≡ v ∷ [] → set ≡ 2 ^ v
    power v alone =
        let inside = member_in size set 0 v (ap (λ ms. slice_get ms 0) alone) in
        let both = and_parts (nat_lt 0 set) (nat_lt set (2 ^ size)) is in
        same_from_bits_below size set (2 ^ v) (ltb-true set (2 ^ size) both.1) (pow_below v size inside.1)
        (λ u below. bits u below (cases_Bool (set_has set u)))
      where
        alone_at : (j u : ℕ) → slice_get (v ∷ []) j ≡ Some u → u ≡ v
        alone_at zero u at = sym (same_Some v u at)
        alone_at (suc j) u at = absurd (none-some u at)

        bits : (u : ℕ) → u < size → (set_has set u ≡ true) ⊎ (set_has set u ≡ false) → bit_at set u ≡ bit_at (2 ^ v) u
        bits u below (inl h) =
            let m = member_at size set u below h in
            let e : u ≡ v = alone_at m.0 u (sym (ap (λ ms. slice_get ms m.0) alone) ∙ m.1) in
            eqb-true (bit_at set u) 1 h ∙ sym (bit_at-pow_same v) ∙ ap (bit_at (2 ^ v)) (sym e)
        bits u below (inr h) =
            bit_zero set u h ∙ sym (bit_at-pow_other v u (λ e. false≢true (sym h ∙ ap (set_has set) e ∙ (member_in size set 0 v (ap (λ ms. slice_get ms 0) alone)).0)))

    count : (ms : List ℕ) → members size set ≡ ms → 2 ≤ length (members size set)
    count [] none = absurd (some_member size set is none)
    count (v ∷ []) alone =
        let p = power v alone in
        let e : low ≡ v = power_has v low (ap (λ s. set_has s low) (sym p) ∙ has) in
        absurd (other (p ∙ ap (λ n. 2 ^ n) (sym e)))
    count (v ∷ u ∷ ms) more = rw more (omega arith)

-- the set of a cell
pub set_of_cell : (w : World) (sets : List ℕ) (m set : ℕ) (c : Cell) → AreSets w sets → slice_get (cells_of w) m ≡ Some c → slice_get sets m ≡ Some set → is_set (cell_size w c) set ≡ true
set_of_cell w sets m set c are place entry =
    each_of (λ p. is_set (cell_size w p.0) p.1) (zip (cells_of w) sets) are.each m (c, set) (zip_at (cells_of w) sets m c set place entry)

pub known_single : (w : World) (sets : List ℕ) (m set v : ℕ) (c : Cell) (z : ℤ) → AreSets w sets → slice_get (cells_of w) m ≡ Some c → slice_get sets m ≡ Some set →
    members (cell_size w c) set ≡ v ∷ [] → slice_get (cell_values w c) v ≡ Some z → known_at w sets c ≡ One z
unfolding known_at
known_single w sets m set v c z are place entry alone at =
    ap (known_of_set (cell_values w c) (cell_size w c)) (entry_at w sets m c are.whole place ∙ entry)
    ∙ ap (known_of_members (cell_values w c)) alone ∙ ap known_of_option at

several_members : (values : List ℤ) (ms : List ℕ) → 2 ≤ length ms → known_of_members values ms ≡ Several
several_members values [] two = absurd (omega arith)
several_members values (v ∷ []) two = absurd (omega arith)
several_members values (v ∷ u ∷ ms) two = refl

pub known_several : (w : World) (sets : List ℕ) (m set : ℕ) (c : Cell) → AreSets w sets → slice_get (cells_of w) m ≡ Some c → slice_get sets m ≡ Some set →
    2 ≤ length (members (cell_size w c) set) → known_at w sets c ≡ Several
unfolding known_at
known_several w sets m set c are place entry two =
    ap (known_of_set (cell_values w c) (cell_size w c)) (entry_at w sets m c are.whole place ∙ entry)
    ∙ several_members (cell_values w c) (members (cell_size w c) set) two
