-- Sets of value indexes, as the bits of a number: all that is said of sets is said by these.
use Rattle.std.specs.Prelude.{◌≡◌, ℕ, ◌^◌, Bool, true, ◌&&◌, ◌==◌, nat_lt, List, filter, length, zip}
use Rattle.std.specs.Int.{bit_at}
use Rattle.std.specs.List.{range_with_len, list_all}
use Rattle.trio_types.specs.World.{World}
use Rattle.trio_types.specs.Cells.{IsTable, cells_of, cell_size}

-- whether a value index is in a set
abbrev pub set_has : ℕ → ℕ → Bool
set_has set v = bit_at set v == 1

-- the members of a set of indexes below a size, in order
abbrev pub members : ℕ → ℕ → List ℕ
members size set = filter (set_has set) (range_with_len 0 size)

-- a set is not empty, and has no member at its size or above
abbrev pub is_set : ℕ → ℕ → Bool
is_set size set = nat_lt 0 set && nat_lt set (2 ^ size)

-- each member of the first is one of the second
abbrev pub is_within : ℕ → ℕ → ℕ → Bool
is_within size less set = list_all (set_has set) (members size less)

-- sets fit: there is one for each cell, of indexes below the cell's size, and none is empty
pub record AreSets (world : World) (sets : List ℕ) : Type 0 where
  pub whole : length sets ≡ length (cells_of world)
  pub each : list_all (λ p. is_set (cell_size world p.0) p.1) (zip (cells_of world) sets) ≡ true

-- a table lies in sets: it fits, and each of its entries is in its cell's set
pub record LiesIn (world : World) (sets table : List ℕ) : Type 0 where
  pub is_table : IsTable world table
  pub as_many : length sets ≡ length table
  pub inside : list_all (λ p. set_has p.0 p.1) (zip sets table) ≡ true

-- sets shrink: each of the new is part of the old
pub record Shrink (world : World) (sets less : List ℕ) : Type 0 where
  pub are_sets : AreSets world less
  pub as_many : length sets ≡ length less
  pub inside : list_all (λ p. is_within (cell_size world p.0) p.1.1 p.1.0) (zip (cells_of world) (zip sets less)) ≡ true

-- each set has one member alone
pub record AreSingle (world : World) (sets : List ℕ) : Type 0 where
  pub are_sets : AreSets world sets
  pub each : list_all (λ p. length (members (cell_size world p.0) p.1) == 1) (zip (cells_of world) sets) ≡ true
