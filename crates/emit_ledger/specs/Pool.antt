-- Regions that are taken out of their places one after the other.
use Rattle.std.specs.Prelude.{◌≡◌, ◌↔◌, ℕ, Bool, IsTrue, Option, None, Some, List, slice_get, slice_set}
use Rattle.std.specs.List.{AllZip}
use Rattle.branch_state.specs.declared.branch.Branch.{Branch}
use Rattle.branch_state.specs.Posed.{Posed}
use Rattle.emit_ledger.specs.Regions.{RegionView}

-- in a place there is still a region of this problem that starts at this branch
abbrev pub StartsAt : Posed → Branch → Option RegionView → Type 0
StartsAt p b None = ⊥
StartsAt p b (Some r) = (r.start ≡ b) × (r.problem ≡ p)

-- a mark says whether the region in its place, where one is still there, is of this problem
abbrev pub Tells : Posed → Bool → Option RegionView → Type 0
Tells p mark None = Unit {0}
Tells p mark (Some r) = IsTrue mark ↔ (r.problem ≡ p)

-- each place has such a mark
abbrev pub IsMarked : Posed → List Bool → List (Option RegionView) → Type 0
IsMarked p marks pool = AllZip (Tells p) marks pool

-- such a region is taken out of its place
pub record IsTaken (p : Posed) (b : Branch) (pool left : List (Option RegionView)) (r : RegionView) : Type 0 where
  pub place : ℕ
  pub at : slice_get pool place ≡ Some (Some r)
  pub out : left ≡ slice_set pool place None
  pub start : r.start ≡ b
  pub problem : r.problem ≡ p
