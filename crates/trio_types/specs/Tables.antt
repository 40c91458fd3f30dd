-- All tables of a world.
use Rattle.std.specs.Prelude.{ℕ, List, [], ◌∷◌, map}
use Rattle.std.specs.List.{range_with_len, flat_map}
use Rattle.trio_types.specs.World.{World}
use Rattle.trio_types.specs.Cells.{cells_of, cell_size}

-- the lists with one index for each size, below it, in lexical order
unfoldable pub lists_below : List ℕ → List (List ℕ)
lists_below [] = [] ∷ []
lists_below (size ∷ sizes) = flat_map (λ v. map (λ vs. v ∷ vs) (lists_below sizes)) (range_with_len 0 size)

-- all tables, in the order of lists of indexes, cell 0 first
abbrev pub all_tables : World → List (List ℕ)
all_tables world = lists_below (map (cell_size world) (cells_of world))
