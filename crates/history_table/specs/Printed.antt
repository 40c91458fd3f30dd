-- The names of rows as they are printed.
use Rattle.std.specs.Prelude.{ℕ, pos, ◌+ℤ◌, List, [], ◌∷◌, ◌++◌, Option, None, Some, slice_get}
use Rattle.std.specs.Option.{option_map, unwrap_or}
use Rattle.std.specs.Fmt.{signed_decimal}
use Rattle.trio_types.specs.declared.spec.DomainKind.{DomainKind}
use Rattle.trio_types.specs.declared.spec.DomainKind.TheVariants as kind
use Rattle.trio_types.specs.declared.spec.Domain.{Domain}
use Rattle.trio_types.specs.declared.spec.Item.{Item}
use Rattle.trio_types.specs.World.{World}
use Rattle.trio_types.specs.Cells.{Row, rows_of}
use Rattle.trio_types.specs.Kinds.{args_of}

-- the value of this index: `0` and `1` for bool, the number for a range, the word for a list
abbrev pub text_in : DomainKind → ℕ → List ℕ
text_in kind.Bool index = signed_decimal (pos index)
text_in (kind.Range low high) index = signed_decimal (low +ℤ pos index)
text_in (kind.Words words) index = unwrap_or (slice_get words index) []

abbrev pub text_in_domain : Option Domain → ℕ → List ℕ
text_in_domain None index = []
text_in_domain (Some domain) index = text_in domain.kind index

-- the value of this index in the domain of this number
abbrev pub value_text : World → ℕ → ℕ → List ℕ
value_text world d index = text_in_domain (slice_get world.domains d) index

-- values behind this sign, and with `,` between them
abbrev pub values_text : World → List ℕ → List ℕ → List ℕ → List ℕ
values_text world first (d ∷ ds) (v ∷ vs) = first ++ value_text world d v ++ values_text world (44 ∷ []) ds vs
values_text world first ds vs = []

-- nothing, or values in `(` and `)` with `,` between them
abbrev pub args_text : World → List ℕ → List ℕ → List ℕ
args_text world (d ∷ ds) (v ∷ vs) = values_text world (40 ∷ []) (d ∷ ds) (v ∷ vs) ++ 41 ∷ []
args_text world ds vs = []

abbrev pub name_of_item : Option Item → List ℕ
name_of_item None = []
name_of_item (Some item) = item.name

-- the name of a row, as `q(0,red)`
abbrev pub row_name : World → Row → List ℕ
row_name world row =
    name_of_item (slice_get world.items row.item) ++ args_text world (args_of (slice_get world.items row.item)) row.args

-- the printed name of the row of this number; empty where there is no such row
abbrev pub name_of_row : World → ℕ → List ℕ
name_of_row world row = unwrap_or (option_map (row_name world) (slice_get (rows_of world) row)) []
