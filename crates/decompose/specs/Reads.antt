-- Which cells have several values, which an atom reads, and in which order.
use Rattle.std.specs.Prelude.{ℕ, ℤ, Bool, nat_lt, List, [], ◌++◌, Option, None, Some, map, length, slice_get, position, find, zip, flat_map, option_and_then, option_to_list}
use Rattle.std.specs.List.{range_with_len}
use Rattle.trio_types.specs.declared.formula.Term.{Term}
use Rattle.trio_types.specs.declared.formula.Term.TheOpen.{Term-F, SignedTerm-F}
use Rattle.trio_types.specs.declared.formula.Term.TheOpen as open_term
use Rattle.trio_types.specs.declared.formula.Term.TheFolds.{fold-Term, map-Term}
use Rattle.trio_types.specs.World.{World}
use Rattle.trio_types.specs.Cells.{Cell, same_cell, cells_of, cell_size}
use Rattle.trio_types.specs.Values.{read_cell}
use Rattle.trio_core.specs.declared.nodes.Known.{Known}
use Rattle.trio_core.specs.declared.nodes.Known.TheVariants.{Nothing, Several, One}
use Rattle.trio_core.specs.Sets.{members}
use Rattle.trio_core.specs.Three.{Value3, term_value3, part_value3, known_all, known_at}

-- the members of the set of the cell of this number, in order; there are none where there is no such cell
abbrev pub members_of : World → Option (Cell × ℕ) → List ℕ
members_of world None = []
members_of world (Some q) = members (cell_size world q.0) q.1

unfoldable pub members_at : World → List ℕ → ℕ → List ℕ
members_at world sets cell = members_of world (slice_get (zip (cells_of world) sets) cell)

-- the cell of this number has several values
abbrev pub is_undecided : World → List ℕ → ℕ → Bool
is_undecided world sets cell = nat_lt 1 (length (members_at world sets cell))

-- the first of these cells that has several values
abbrev pub first_undecided : World → List ℕ → List ℕ → Option ℕ
first_undecided world sets cells = find (is_undecided world sets) cells

-- the numbers of all cells, in order
abbrev pub all_cells : World → List ℕ
all_cells world = range_with_len 0 (length (cells_of world))

-- the number of a cell
unfoldable pub cell_number : World → Cell → Option ℕ
cell_number world cell = position (λ c. same_cell c cell) (cells_of world)

-- what is met where a term is read from left to right: its value, as far as it is known, and the numbers of the cells that it reads
pub record Reading : Type 0 where
  pub value : Known ℤ
  pub cells : List ℕ

-- by the environment, what is known of cells, and the instant
abbrev pub Read3 : Type 0
Read3 = List ℤ → (Cell → Known ℤ) → ℕ → Reading

abbrev pub value_of_read : Read3 → Value3
value_of_read r e look i = (r e look i).value

-- the cell of an item at these values of its arguments, where they are known and there is such a cell
abbrev pub cells_of_read : World → ℕ → ℕ → Known (List (Option ℤ)) → List ℕ
cells_of_read world number i Nothing = []
cells_of_read world number i Several = []
cells_of_read world number i (One zs) = option_to_list (option_and_then (cell_number world) (read_cell world number zs i))

abbrev pub term_cells : World → Term-F Read3 Read3 → List ℤ → (Cell → Known ℤ) → ℕ → List ℕ
term_cells world (open_term.Number n) e look i = []
term_cells world (open_term.Value d v) e look i = []
term_cells world (open_term.Var level) e look i = []
term_cells world (open_term.Read number args) e look i = cells_of_read world number i (known_all (map (λ a. (a e look i).value) args))
term_cells world (open_term.Sum parts) e look i = flat_map (λ p. (p e look i).cells) parts
term_cells world (open_term.Times n x) e look i = (x e look i).cells

abbrev pub term_read : World → Term-F Read3 Read3 → Read3
term_read world x e look i =
    record { value = term_value3 world (map-Term Read3 Read3 Value3 Value3 value_of_read value_of_read x) e look i; cells = term_cells world x e look i }

abbrev pub part_read : SignedTerm-F Read3 Read3 → Read3
part_read part e look i =
    record { value = part_value3 (record { minus = part.minus; term = value_of_read part.term }) e look i; cells = (part.term e look i).cells }

unfoldable pub reading : World → Term → Read3
reading world = fold-Term Read3 Read3 (term_read world) part_read

-- the numbers of the cells that an atom of these two terms reads, in the order of reading
abbrev pub atom_cells : World → Term → Term → List ℤ → List ℕ → ℕ → List ℕ
atom_cells world x y e sets i = (reading world x e (known_at world sets) i).cells ++ (reading world y e (known_at world sets) i).cells
