-- The places of cells in rows.
use Rattle.std.specs.Prelude.{ℕ, ◌/◌, ◌%◌}
use Rattle.trio_types.specs.World.{World}

-- the number of the row that a cell stands in
abbrev pub row_of : World → ℕ → ℕ
row_of world cell = cell / world.instants

-- the instant of a cell
abbrev pub instant_of : World → ℕ → ℕ
instant_of world cell = cell % world.instants
