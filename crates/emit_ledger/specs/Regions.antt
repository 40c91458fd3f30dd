-- Regions: what was found of a branch, and which branches are left of it.
use Rattle.std.specs.Prelude.{ℕ, ◌-◌, ◌<◌, List, ◌++◌, take, length, refl}
use Rattle.std.specs.Coded.{Coded, code_by, coded×, coded_ℕ, coded_list}
use Rattle.std.specs.List.{All}
use Rattle.trio_lists.specs.Multisets.{Permutes}
use Rattle.branch_state.specs.contracts.branch.Branch as the_branch
use Rattle.branch_state.specs.declared.branch.Branch.{Branch}
use Rattle.branch_state.specs.Posed.{Posed, posed_code}
use Rattle.branch_state.specs.Branches.{reps, reps_all, Fits}
use Rattle.branch_state.specs.Weight.{weight}

-- a branch of a problem, the tables that were found of it, and the branches that are given for what is left of it
pub record RegionView : Type 0 where
  pub problem : Posed
  pub start : Branch
  pub found : List (List ℕ)
  pub given : List Branch

abbrev pub region_view : Posed → Branch → List (List ℕ) → List Branch → RegionView
region_view problem start found given = record { problem = problem; start = start; found = found; given = given }

-- by which such values are told apart
abbrev pub branch_code : Coded Branch
branch_code = (the_branch.the_row).coded

abbrev pub region_code : Coded RegionView
region_code =
    code_by (Posed × (Branch × (List (List ℕ) × List Branch))) (coded× posed_code (coded× branch_code (coded× (coded_list (coded_list coded_ℕ)) (coded_list branch_code))))
    (λ v. (v.problem, (v.start, (v.found, v.given)))) (λ q. region_view q.0 q.1.0 q.1.1.0 q.1.1.1) (λ _. refl)

-- the start and each given branch fit, and the models of the start are those found and those of the given branches, each once
pub record IsRegion (p : Posed) (start : Branch) (found : List (List ℕ)) (given : List Branch) : Type 0 where
  pub start_fits : Fits p start
  pub given_fit : All (Fits p) given
  pub law : Permutes (reps p start) (found ++ reps_all p given)

-- a list without its last element
abbrev pub without_last : {A : Type 0} → List A → List A
without_last xs = take (length xs - 1) xs

-- a part stands in the place of the last given branch
abbrev pub absorbed : RegionView → RegionView → RegionView
absorbed region part = region_view region.problem region.start (region.found ++ part.found) (without_last region.given ++ part.given)

-- each given branch weighs less than the start
abbrev pub IsLighter : RegionView → Type 0
IsLighter r = All (λ b. weight r.problem b < weight r.problem r.start) r.given
