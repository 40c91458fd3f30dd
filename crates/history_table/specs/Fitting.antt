-- Which given histories and tables fit a specification, and which table extends a given history.
use Rattle.std.specs.Prelude.{◌≡◌, ℕ, Bool, true, false, ◌&&◌, nat_lt, ◌==◌, List, [], ◌∷◌, length, Option, None, Some, position, is_none}
use Rattle.std.specs.List.{list_all, zip}
use Rattle.trio_types.specs.World.{World}
use Rattle.trio_types.specs.Cells.{cells_of, cell_size}

abbrev pub is_below : Option ℕ → ℕ → Bool
is_below None size = true
is_below (Some index) size = nat_lt index size

-- a given history fits: it has one entry for each cell, and each that is known is below the cell's size
pub record IsGiven (world : World) (given : List (Option ℕ)) : Type 0 where
  pub whole : length given ≡ length (cells_of world)
  pub within : list_all (λ p. is_below p.1 (cell_size world p.0)) (zip (cells_of world) given) ≡ true

abbrev pub is_given : Option ℕ → ℕ → Bool
is_given None index = true
is_given (Some known) index = known == index

-- the table has each value that is given
abbrev pub extends : List (Option ℕ) → List ℕ → Bool
extends [] [] = true
extends (g ∷ gs) (v ∷ vs) = is_given g v && extends gs vs
extends gs vs = false

-- the first cell whose value is not known
abbrev pub first_unknown : List (Option ℕ) → Option ℕ
first_unknown given = position is_none given
