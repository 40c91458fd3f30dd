-- When terms may be evaluated, and what the evaluation of sets tells.
use Rattle.std.specs.Prelude.{◌≡◌, ℕ, ◌<◌, ◌≤◌, ℤ, ◌≤ℤ◌, nat_abs, Bool, true, List, [], ◌∷◌, ◌++◌, Option, None, Some, length, slice_get}
use Rattle.trio_base.specs.declared.limits.TheConstants.{GREATEST_BOUND}
use Rattle.trio_types.specs.declared.formula.Term.{Term}
use Rattle.trio_types.specs.World.{World}
use Rattle.trio_types.specs.Cells.{Cell, cells_of}
use Rattle.trio_types.specs.Values.{read_cell}
use Rattle.trio_types.specs.WellFormed.{is_written}
use Rattle.trio_core.specs.declared.nodes.Known.{Known}
use Rattle.trio_core.specs.declared.nodes.Known.TheVariants.{One}
use Rattle.trio_core.specs.declared.nodes.Core.{Core}
use Rattle.trio_core.specs.declared.nodes.TheConstants.{MOST_ROUND}
use Rattle.trio_core.specs.Core.{numbers}
use Rattle.trio_core.specs.CoreShape.{Ranges, term_fits}
use Rattle.trio_core.specs.Three.{known_at}
use Rattle.trio_core.specs.Stands.{lie_in, NodeAsked}

-- a term fits under these values of the variables
pub record NodeTermFits (w : World) (x : Term) (values : List ℤ) : Type 0 where
  pub ranges : Ranges
  pub reads : Bool
  pub fits : term_fits w ranges reads x ≡ true
  pub values_in : lie_in values ranges ≡ true

-- the number of the cell that an item is read from at these values of its arguments, where there is one
abbrev pub IsCellRead : World → ℕ → List (Option ℤ) → ℕ → Option ℕ → Type 0
IsCellRead w item values i None = read_cell w item values i ≡ None
IsCellRead w item values i (Some number) = (cell : Cell) × (read_cell w item values i ≡ Some cell) × (slice_get (cells_of w) number ≡ Some cell)

-- a known value is no greater than a bound
abbrev pub IsKnownNear : Known ℤ → Type 0
IsKnownNear k = (z : ℤ) → k ≡ One z → nat_abs z ≤ GREATEST_BOUND

-- the number of a cell of an item, whose known value is near
pub record IsCellOf (w : World) (sets : List ℕ) (item number : ℕ) : Type 0 where
  pub declared : item < length w.items
  pub cell : Cell
  pub place : slice_get (cells_of w) number ≡ Some cell
  pub of_item : cell.item ≡ item
  pub near : IsKnownNear (known_at w sets cell)

-- the only member of a set, or that there are several
abbrev pub IsSole : List ℕ → Option ℕ → Type 0
IsSole members (Some v) = members ≡ v ∷ []
IsSole members None = 2 ≤ length members

-- a node may be asked for under each value of one more variable, whose values are taken from an index on
pub record BodyFits (core : Core) (low high : ℤ) (part from i : ℕ) (values : List ℤ) : Type 0 where
  pub low_near : is_written low ≡ true
  pub high_near : is_written high ≡ true
  pub from_in : from ≤ length (numbers low high)
  pub room : length values < MOST_ROUND
  pub body : (z : ℤ) → low ≤ℤ z → z ≤ℤ high → NodeAsked core part 0 i (values ++ z ∷ [])
