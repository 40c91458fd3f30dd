-- What is printed is read as what was printed.
use Rattle.std.specs.Prelude.{◌≡◌, ℕ, true, List, Option, Some, map}
use Rattle.trio_types.specs.World.{World}
use Rattle.trio_types.specs.Cells.{IsTable}
use Rattle.trio_types.specs.Parts.{Parts, world_of_parts}
use Rattle.trio_types.specs.WellFormed.{is_well_formed}
use Rattle.history_table.specs.History.{IsGivenText}
use Rattle.history_table.specs.Fitting.{IsGiven}
use Rattle.history_table.specs.Texts.{given_text, table_text}

-- the text is this given history, and no other
abbrev pub IsJustGivenText : World → List ℕ → List (Option ℕ) → Type 0
IsJustGivenText world text given = IsGivenText world text given × ((other : List (Option ℕ)) → IsGivenText world text other → other ≡ given)

-- the text of a given history that fits a well-formed specification is that given history, and no other
abbrev pub PrintedHistoryLaw : Type 0
PrintedHistoryLaw = (parts : Parts) (given : List (Option ℕ)) → is_well_formed parts ≡ true → IsGiven (world_of_parts parts) given →
    IsJustGivenText (world_of_parts parts) (given_text (world_of_parts parts) given) given

-- the text of a table that fits a well-formed specification is that table, with every value known, and no other given history
abbrev pub PrintedTableLaw : Type 0
PrintedTableLaw = (parts : Parts) (table : List ℕ) → is_well_formed parts ≡ true → IsTable (world_of_parts parts) table →
    IsJustGivenText (world_of_parts parts) (table_text (world_of_parts parts) table) (map Some table)
