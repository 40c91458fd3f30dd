-- What is put together from regions.
use Rattle.std.specs.Prelude.{◌≡◌, ℕ, Bool, cond, not, List, [], ◌∷◌, ◌++◌, map, length}
use Rattle.std.specs.Cmp.Lexicographic.{slice_cmp}
use Rattle.std.specs.List.{All, Contains, flat_map}
use Rattle.std.specs.List.Sorted.{IsSorted}
use Rattle.std.specs.Ordering.{nat_cmp}
use Rattle.trio_lists.specs.Multisets.{Permutes}
use Rattle.branch_state.specs.declared.branch.Branch.{Branch}
use Rattle.branch_state.specs.Posed.{Posed}
use Rattle.branch_state.specs.Branches.{reps_all, Fits}
use Rattle.emit_ledger.specs.Regions.{RegionView}

-- no table stands before a smaller one
abbrev pub InOrder : List (List ℕ) → Type 0
InOrder = IsSorted (slice_cmp nat_cmp)

-- the tables found and those of the branches left are the whole, each once, and each branch left fits
pub record Covers (p : Posed) (whole found : List (List ℕ)) (rest : List Branch) : Type 0 where
  pub law : Permutes (found ++ reps_all p rest) whole
  pub rest_fit : All (Fits p) rest

-- the elements at the marked places
abbrev pub marked : {A : Type 0} → List Bool → List A → List A
marked [] xs = []
marked (m ∷ ms) [] = []
marked (m ∷ ms) (x ∷ xs) = cond m (x ∷ marked ms xs) (marked ms xs)

-- those at the other places
abbrev pub unmarked : {A : Type 0} → List Bool → List A → List A
unmarked marks xs = marked (map not marks) xs

abbrev pub founds_of : List RegionView → List (List ℕ)
founds_of regions = flat_map (λ r. r.found) regions

abbrev pub givens_of : List RegionView → List Branch
givens_of regions = flat_map (λ r. r.given) regions

abbrev pub starts_of : List RegionView → List Branch
starts_of regions = map (λ r. r.start) regions

-- each start, and each branch that a region gives, is the start of a region or is among the others
abbrev pub Balances : List Branch → List RegionView → List Branch → Type 0
Balances starts regions others = Permutes (starts_of regions ++ others) (starts ++ givens_of regions)

-- Which regions are used, what they gave, and what is left. A region is used once at most, since a place is marked or not.
pub record IsAssembled (p : Posed) (starts : List Branch) (regions : List RegionView) (found : List (List ℕ)) (rest : List Branch) (dropped : ℕ) : Type 0 where
  -- the places of the used regions
  pub marks : List Bool
  pub whole : length marks ≡ length regions
  -- they are regions of this problem, and what they found is found
  pub same : All (λ r. r.problem ≡ p) (marked marks regions)
  pub tables : Permutes found (founds_of (marked marks regions))
  -- no branch is lost: with those that are left, the used regions balance
  pub balance : Balances starts (marked marks regions) rest
  -- no branch is left for which there is a region that is not used
  pub none : All (λ r. r.problem ≡ p → Contains rest r.start → ⊥) (unmarked marks regions)
  pub count : dropped ≡ length (unmarked marks regions)
