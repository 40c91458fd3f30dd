-- Which row of a specification a line names, and what its entries give the cells.
use Rattle.std.specs.Prelude.{ℕ, pos, neg_ℤ, Bool, true, false, ◌&&◌, ◌==◌, is_none, List, [], ◌∷◌, position, Option, None, Some, slice_get}
use Rattle.std.specs.Option.{option_map, option_and_then}
use Rattle.std.specs.Str.{bytes_eq}
use Rattle.trio_types.specs.declared.spec.DomainKind.{DomainKind}
use Rattle.trio_types.specs.declared.spec.DomainKind.TheVariants as kind
use Rattle.trio_types.specs.declared.spec.Domain.{Domain}
use Rattle.trio_types.specs.declared.spec.Item.{Item}
use Rattle.trio_types.specs.World.{World, values_of}
use Rattle.trio_types.specs.Values.{index_of}
use Rattle.trio_types.specs.Cells.{Row}
use Rattle.trio_types.specs.Kinds.{args_of}
use Rattle.history_table.specs.declared.line.Value.{Value}
use Rattle.history_table.specs.declared.line.Value.TheVariants as written
use Rattle.history_table.specs.declared.line.Line.{Line}

-- the index of a written value in a domain: a number in a range or, as 0 and 1, in bool; `false` and `true` in bool; a word among words
abbrev pub index_in : DomainKind → Value → Option ℕ
index_in (kind.Words words) (written.Word name) = position (λ word. bytes_eq word name) words
index_in (kind.Words words) value = None
index_in values (written.Number n) = index_of (values_of values) (pos n)
index_in values (written.Opposite n) = index_of (values_of values) (neg_ℤ (pos n))
index_in kind.Bool (written.Truth false) = Some 0
index_in kind.Bool (written.Truth true) = Some 1
index_in values value = None

abbrev pub index_in_domain : Option Domain → Value → Option ℕ
index_in_domain None value = None
index_in_domain (Some domain) value = index_in domain.kind value

-- the index of a written value in the domain of this number
abbrev pub value_index : World → ℕ → Value → Option ℕ
value_index world d value = index_in_domain (slice_get world.domains d) value

-- the indexes of written values in these domains, one for each; none where one is outside, or there are more or fewer
abbrev pub arg_indexes : World → List ℕ → List Value → Option (List ℕ)
arg_indexes world [] [] = Some []
arg_indexes world (d ∷ ds) (value ∷ values) =
    option_and_then (λ v. option_map (λ vs. v ∷ vs) (arg_indexes world ds values)) (value_index world d value)
arg_indexes world ds values = None

-- the number of the item of this name
abbrev pub item_named : World → List ℕ → Option ℕ
item_named world name = position (λ item. bytes_eq item.name name) world.items

abbrev pub row_of_item : World → Line → ℕ → Option Row
row_of_item world line item =
    option_map (λ vs. record { item = item; args = vs }) (arg_indexes world (args_of (slice_get world.items item)) line.args)

-- the row that the line names; none where its name is no item's, or its arguments are no tuple of the item's domains
abbrev pub named_row : World → Line → Option Row
named_row world line = option_and_then (row_of_item world line) (item_named world line.name)

abbrev pub same_row : Row → Row → Bool
same_row a b = a.item == b.item && bytes_eq a.args b.args

abbrev pub index_for : World → Option Item → Value → Option ℕ
index_for world None value = None
index_for world (Some item) value = value_index world item.value value

-- what an entry gives a cell of the item of this number: nothing known, or an index; none where it is neither `?` nor in the domain
abbrev pub entry_cell : World → ℕ → Option Value → Option (Option ℕ)
entry_cell world item None = Some None
entry_cell world item (Some value) = option_map Some (index_for world (slice_get world.items item) value)

-- the entry is neither `?` nor in the domain of the item's values
abbrev pub is_outside : World → ℕ → Option Value → Bool
is_outside world item entry = is_none (entry_cell world item entry)

-- the index that an entry gives a cell of the item, where it is known
abbrev pub known_index : World → ℕ → Option Value → Option ℕ
known_index world item entry = option_and_then (λ index. index) (entry_cell world item entry)
