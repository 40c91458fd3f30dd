-- A cell of which several values are known has a number, and is undecided by it.
use Rattle.std.proofs.Common.{◌≡◌, ℕ, suc, ◌+◌, ◌<◌, ℤ, Bool, true, false, not, cond, ◌||◌, nat_lt, List, [], ◌∷◌, length, Option, None, Some, find, slice_get, zip, refl, sym, ap, ◌∙◌, arith}
use Rattle.std.specs.List.{position_or_len, list_any}
use Rattle.std.specs.Option.{option_map}
use Rattle.std.proofs.lemmas.Bool.{cond-true, cond-false, lt-ltb, false≢true}
use Rattle.std.proofs.lemmas.Option.{none-some, same_Some}
use Rattle.trio_types.specs.World.{World}
use Rattle.trio_types.specs.Cells.{Cell, same_cell, cells_of, cell_values, cell_size, value_at}
use Rattle.trio_core.specs.declared.nodes.Known.{Known}
use Rattle.trio_core.specs.declared.nodes.Known.TheVariants.{Nothing, Several, One}
use Rattle.trio_core.specs.Sets.{members}
use Rattle.trio_core.specs.Three.{known_of_option, known_of_members, known_of_set, known_at}
use Rattle.trio_core.proofs.Looks.{same_values}
use Rattle.decompose.specs.Reads.{members_of, members_at, is_undecided, cell_number}

-- the first cell that passes, and its set
pub record Place (p : Cell → Bool) (cells : List Cell) (sets : List ℕ) (set : ℕ) : Type 0 where
  pub cell : Cell
  pub passes : p cell ≡ true
  pub inside : position_or_len p cells < length cells
  pub at : slice_get (zip cells sets) (position_or_len p cells) ≡ Some (cell, set)

pub place_of : (p : Cell → Bool) (cells : List Cell) (sets : List ℕ) (set : ℕ) → option_map (λ q. q.1) (find (λ q. p q.0) (zip cells sets)) ≡ Some set → Place p cells sets set
place_of p [] sets set is = absurd (none-some set is)
place_of p (c ∷ cells) [] set is = absurd (none-some set is)
place_of p (c ∷ cells) (s ∷ sets) set is = at_head (p c) refl (λ more. place_of p cells sets set more)
  where
    at_head : (b : Bool) → p c ≡ b → (option_map (λ q. q.1) (find (λ q. p q.0) (zip cells sets)) ≡ Some set → Place p cells sets set) → Place p (c ∷ cells) (s ∷ sets) set
    at_head true holds rest =
        let first : position_or_len p (c ∷ cells) ≡ 0 = ap (λ b. cond (not b) (1 + position_or_len p cells) 0) holds in
        let e : s ≡ set = same_Some s set (sym (ap (option_map (λ q. q.1)) (cond-true (p c) (Some (c, s)) (find (λ q. p q.0) (zip cells sets)) holds)) ∙ is) in
        record {
          cell = c;
          passes = holds;
          inside = omega (arith, first);
          at = ap (slice_get ((c, s) ∷ zip cells sets)) first ∙ ap (λ x. Some (c, x)) e;
        }
    at_head false fails rest =
        let r = rest (sym (ap (option_map (λ q. q.1)) (cond-false (p c) (Some (c, s)) (find (λ q. p q.0) (zip cells sets)) fails)) ∙ is) in
        let next : position_or_len p (c ∷ cells) ≡ 1 + position_or_len p cells = ap (λ b. cond (not b) (1 + position_or_len p cells) 0) fails in
        let on : 1 + position_or_len p cells ≡ suc (position_or_len p cells) = omega arith in
        record {
          cell = r.cell;
          passes = r.passes;
          inside = omega (arith, next, r.inside);
          at = ap (slice_get ((c, s) ∷ zip cells sets)) (next ∙ on) ∙ r.at;
        }

pub nothing-several : {X : Type 0} → ◌≡◌ {A = Known X} Nothing Several → ⊥
nothing-several e = cc

pub one-several : {X : Type 0} (x : X) → One x ≡ Several → ⊥
one-several x e = cc

option-several : {X : Type 0} (o : Option X) → known_of_option o ≡ Several → ⊥
option-several None e = nothing-several e
option-several (Some x) e = one-several x e

many : (values : List ℤ) (ms : List ℕ) → known_of_members values ms ≡ Several → 1 < length ms
many values [] is = absurd (nothing-several is)
many values (v ∷ []) is = absurd (option-several (slice_get values v) is)
many values (v ∷ u ∷ ms) is = omega arith

-- where several values of a cell are known
pub undecided_of : (w : World) (sets : List ℕ) (c : Cell) → known_at w sets c ≡ Several → (n : ℕ) × (cell_number w c ≡ Some n) × (is_undecided w sets n ≡ true)
unfolding known_at value_at cell_number members_at
undecided_of w sets c is = of_value (option_map (λ q. q.1) (find (λ q. same_cell q.0 c) (zip (cells_of w) sets))) refl is
  where
    of_value : (o : Option ℕ) → option_map (λ q. q.1) (find (λ q. same_cell q.0 c) (zip (cells_of w) sets)) ≡ o → known_of_set (cell_values w c) (cell_size w c) o ≡ Several →
        (n : ℕ) × (cell_number w c ≡ Some n) × (is_undecided w sets n ≡ true)
    of_value None at several = absurd (nothing-several several)
    of_value (Some set) at several =
        let place = place_of (λ d. same_cell d c) (cells_of w) sets set at in
        let n = position_or_len (λ d. same_cell d c) (cells_of w) in
        let size : cell_size w place.cell ≡ cell_size w c = ap length (same_values w place.cell c place.passes) in
        let more = many (cell_values w c) (members (cell_size w c) set) several in (
          n,
          cond-true (nat_lt n (length (cells_of w))) (Some n) None (lt-ltb n (length (cells_of w)) place.inside),
          ap (λ o. nat_lt 1 (length (members_of w o))) place.at ∙ ap (λ k. nat_lt 1 (length (members k set))) size ∙ lt-ltb 1 (length (members (cell_size w c) set)) more,
        )

-- the first of a list that passes, where one does
pub found : {X : Type 0} (q : X → Bool) (xs : List X) → list_any q xs ≡ true → (x : X) × (find q xs ≡ Some x) × (q x ≡ true)
found q [] any = absurd (false≢true any)
found {X} q (x ∷ xs) any = at_head (q x) refl (λ more. found q xs more)
  where
    at_head : (b : Bool) → q x ≡ b → (list_any q xs ≡ true → (y : X) × (find q xs ≡ Some y) × (q y ≡ true)) → (y : X) × (find q (x ∷ xs) ≡ Some y) × (q y ≡ true)
    at_head true passes behind = (x, cond-true (q x) (Some x) (find q xs) passes, passes)
    at_head false fails behind =
        let rest = behind (sym (ap (λ b. b || list_any q xs) fails) ∙ any) in
        (rest.0, cond-false (q x) (Some x) (find q xs) fails ∙ rest.1, rest.2)
