-- The texts of given histories, tables and lists of tables.
use Rattle.std.specs.Prelude.{ℕ, List, [], ◌∷◌, ◌++◌, Option, None, Some, map, take, drop, length, slice_get, codes, decimal}
use Rattle.std.specs.List.{flat_map, enumerate_from}
use Rattle.trio_types.specs.declared.spec.Item.{Item}
use Rattle.trio_types.specs.World.{World}
use Rattle.trio_types.specs.Cells.{Row, rows_of}
use Rattle.history_table.specs.Printed.{value_text, row_name}

abbrev pub value_domain : Option Item → ℕ
value_domain None = 0
value_domain (Some item) = item.value

-- a value, or `?` where it is not known
abbrev pub entry_text : World → ℕ → Option ℕ → List ℕ
entry_text world d None = 63 ∷ []
entry_text world d (Some index) = value_text world d index

abbrev pub entry_behind_blank : World → ℕ → Option ℕ → List ℕ
entry_behind_blank world d entry = 32 ∷ entry_text world d entry

-- the line of a row: its name, `:`, a blank and an entry for each instant, and the line's end
abbrev pub line_text : World → Row → List (Option ℕ) → List ℕ
line_text world row entries =
    row_name world row ++ (58 ∷ (flat_map (entry_behind_blank world (value_domain (slice_get world.items row.item))) entries ++ 10 ∷ []))

-- the lines of these rows, each with as many entries as there are instants
abbrev pub lines_text : World → List Row → List (Option ℕ) → List ℕ
lines_text world [] given = []
lines_text world (row ∷ rows) given = line_text world row (take world.instants given) ++ lines_text world rows (drop world.instants given)

-- the text of a given history
abbrev pub given_text : World → List (Option ℕ) → List ℕ
given_text world given = lines_text world (rows_of world) given

-- the text of a table
abbrev pub table_text : World → List ℕ → List ℕ
table_text world table = given_text world (map Some table)

-- a table behind a line with its number
abbrev pub numbered_text : World → ℕ × List ℕ → List ℕ
numbered_text world p = codes "history " ++ decimal p.0 ++ 10 ∷ table_text world p.1

-- how many tables there are, and each behind its number, counted from 1
abbrev pub list_text : World → List (List ℕ) → List ℕ
list_text world tables = codes "histories " ++ decimal (length tables) ++ 10 ∷ flat_map (numbered_text world) (enumerate_from 1 tables)
