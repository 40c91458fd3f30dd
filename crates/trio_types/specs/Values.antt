-- The value of a term at an instant, under the values of quantified variables, in a table.
use Rattle.std.specs.Prelude.{ℕ, ℤ, pos, ◌+ℤ◌, ◌*ℤ◌, neg_ℤ, if◌then◌else◌, List, [], ◌∷◌, Option, None, Some, map, slice_get, slice_index_or, position}
use Rattle.std.specs.Option.{option_map, option_and_then}
use Rattle.std.specs.Ordering.{int_eq}
use Rattle.trio_types.specs.declared.spec.Domain.{Domain}
use Rattle.trio_types.specs.declared.spec.Item.{Item}
use Rattle.trio_types.specs.declared.formula.Term.{Term}
use Rattle.trio_types.specs.declared.formula.Term.TheOpen.{Term-F, SignedTerm-F}
use Rattle.trio_types.specs.declared.formula.Term.TheOpen as open_term
use Rattle.trio_types.specs.declared.formula.Term.TheFolds.{fold-Term}
use Rattle.trio_types.specs.World.{World, values_in}
use Rattle.trio_types.specs.Cells.{Cell, the_cell, number_at}

-- a whole number or none, by the environment (the variables' values from the outermost quantifier on), the table and the instant
abbrev pub Value : Type 0
Value = List ℤ → List ℕ → ℕ → Option ℤ

-- the index of a value among these: its place; none where it is not there
unfoldable pub index_of : List ℤ → ℤ → Option ℕ
index_of values z = position (int_eq z) values

-- the arguments' indexes; none where one has no value or is outside its domain, or their number is another than declared
abbrev pub indexes : List Domain → List ℕ → List (Option ℤ) → Option (List ℕ)
indexes domains [] [] = Some []
indexes domains (d ∷ ds) (Some z ∷ zs) =
    option_and_then (λ v. option_map (λ vs. v ∷ vs) (indexes domains ds zs)) (index_of (values_in domains d) z)
indexes domains ds zs = None

abbrev pub cell_of_item : World → ℕ → Option Item → List (Option ℤ) → ℕ → Option Cell
cell_of_item world number None args i = None
cell_of_item world number (Some item) args i = option_map (λ vs. the_cell number vs i) (indexes world.domains item.args args)

-- the cell that an item, by its number, is read from at an instant, given its arguments' values; none where there is no such cell
abbrev pub read_cell : World → ℕ → List (Option ℤ) → ℕ → Option Cell
read_cell world number args i = cell_of_item world number (slice_get world.items number) args i

abbrev pub plus : Option ℤ → Option ℤ → Option ℤ
plus (Some x) (Some y) = Some (x +ℤ y)
plus x y = None

-- the sum; none where a part has no value
abbrev pub sum_of : List (Option ℤ) → Option ℤ
sum_of [] = Some (pos 0)
sum_of (x ∷ xs) = plus x (sum_of xs)

abbrev pub term_value : World → Term-F Value Value → Value
term_value world (open_term.Number n) e t i = Some (pos n)
term_value world (open_term.Value d v) e t i = Some (pos v)
term_value world (open_term.Var level) e t i = Some (slice_index_or e level (pos 0))
term_value world (open_term.Read number args) e t i =
    option_and_then (number_at world t) (read_cell world number (map (λ a. a e t i) args) i)
term_value world (open_term.Sum parts) e t i = sum_of (map (λ p. p e t i) parts)
term_value world (open_term.Times n x) e t i = option_map (λ z. pos n *ℤ z) (x e t i)

-- a part of a sum: its value, or that value's opposite
abbrev pub part_value : SignedTerm-F Value Value → Value
part_value part e t i = if part.minus then option_map neg_ℤ (part.term e t i) else part.term e t i

-- the value of a term
unfoldable pub value : World → Term → Value
value world = fold-Term Value Value (term_value world) part_value
