-- Rows, cells and tables. A table gives each cell a value index, in the order of the list of cells.
use Rattle.std.specs.Prelude.{◌≡◌, ℕ, ℤ, Bool, true, false, ◌&&◌, ◌==◌, nat_lt, List, [], ◌∷◌, Option, None, Some, map, find, length, slice_get}
use Rattle.std.specs.List.{range_with_len, enumerate_from, flat_map, zip, list_all}
use Rattle.std.specs.Option.{option_map, option_and_then}
use Rattle.std.specs.Str.{bytes_eq}
use Rattle.trio_types.specs.declared.spec.Domain.{Domain}
use Rattle.trio_types.specs.declared.spec.Item.{Item}
use Rattle.trio_types.specs.World.{World, instants_of, values_in, size_of}

-- an item, and the indexes of its arguments' values
pub record Row : Type 0 where
  pub item : ℕ
  pub args : List ℕ

-- an item, the indexes of its arguments' values, and an instant
pub record Cell : Type 0 where
  pub item : ℕ
  pub args : List ℕ
  pub instant : ℕ

-- the cell of an item with these arguments at an instant
abbrev pub the_cell : ℕ → List ℕ → ℕ → Cell
the_cell item args instant = record { item = item; args = args; instant = instant }

abbrev pub same_cell : Cell → Cell → Bool
same_cell a b = a.item == b.item && (bytes_eq a.args b.args && a.instant == b.instant)

-- the tuples of indexes for these argument domains, in lexical order
abbrev pub tuples : List Domain → List ℕ → List (List ℕ)
tuples domains [] = [] ∷ []
tuples domains (d ∷ ds) = flat_map (λ v. map (λ vs. v ∷ vs) (tuples domains ds)) (range_with_len 0 (size_of domains d))

-- the indexes are those of values of these argument domains, one for each
abbrev pub are_indexes : List Domain → List ℕ → List ℕ → Bool
are_indexes domains [] [] = true
are_indexes domains (d ∷ ds) (v ∷ vs) = nat_lt v (size_of domains d) && are_indexes domains ds vs
are_indexes domains ds vs = false

abbrev pub item_takes : World → Option Item → List ℕ → Bool
item_takes world None args = false
item_takes world (Some item) args = are_indexes world.domains item.args args

-- the item of this number may have these arguments
abbrev pub takes : World → ℕ → List ℕ → Bool
takes world number args = item_takes world (slice_get world.items number) args

-- the rows of one item, one for each tuple
abbrev pub rows_of_item : World → ℕ → Item → List Row
rows_of_item world number item = map (λ args. record { item = number; args = args }) (tuples world.domains item.args)

-- all rows: by item, then tuple
unfoldable pub rows_of : World → List Row
rows_of world = flat_map (λ p. rows_of_item world p.0 p.1) (enumerate_from 0 world.items)

-- the cells of one row, one for each instant
abbrev pub cells_of_row : World → Row → List Cell
cells_of_row world row = map (the_cell row.item row.args) (instants_of world)

-- all cells in the order of their numbers: by row, then instant
unfoldable pub cells_of : World → List Cell
cells_of world = flat_map (cells_of_row world) (rows_of world)

abbrev values_of_item : World → Option Item → List ℤ
values_of_item world None = []
values_of_item world (Some item) = values_in world.domains item.value

-- the values that a cell can have, in the order of their indexes
abbrev pub cell_values : World → Cell → List ℤ
cell_values world cell = values_of_item world (slice_get world.items cell.item)

-- how many values a cell can have
abbrev pub cell_size : World → Cell → ℕ
cell_size world cell = length (cell_values world cell)

-- the value index that a table gives a cell; none where there is no such cell
unfoldable pub value_at : World → List ℕ → Cell → Option ℕ
value_at world table cell = option_map (λ p. p.1) (find (λ p. same_cell p.0 cell) (zip (cells_of world) table))

-- the value itself: a number for a range, the index for bool and for words
abbrev pub number_at : World → List ℕ → Cell → Option ℤ
number_at world table cell = option_and_then (λ index. slice_get (cell_values world cell) index) (value_at world table cell)

-- a table fits: it has one entry for each cell, and each is below the cell's size
pub record IsTable (world : World) (table : List ℕ) : Type 0 where
  pub whole : length table ≡ length (cells_of world)
  pub within : list_all (λ p. nat_lt p.1 (cell_size world p.0)) (zip (cells_of world) table) ≡ true
