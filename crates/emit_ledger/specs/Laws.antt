-- The laws of what is put together from regions.
use Rattle.std.specs.Prelude.{◌≡◌, ℕ, List}
use Rattle.std.specs.List.{All}
use Rattle.trio_lists.specs.Multisets.{Permutes}
use Rattle.branch_state.specs.declared.branch.Branch.{Branch}
use Rattle.branch_state.specs.Posed.{Posed}
use Rattle.emit_ledger.specs.Regions.{RegionView, IsLighter}
use Rattle.emit_ledger.specs.Assembly.{founds_of, Balances, IsAssembled}

-- Where every region is of the problem, the branches that a region gives weigh less than its start, and the regions' starts, followed by some branches,
-- are the starts, followed by all given branches, each as often: every region is used, just those branches are left, and what all regions found is found.
abbrev pub UsedLaw : Type 0
UsedLaw =
    (p : Posed) (starts left : List Branch) (regions : List RegionView) (found : List (List ℕ)) (rest : List Branch) (dropped : ℕ) →
    IsAssembled p starts regions found rest dropped → All (λ r. r.problem ≡ p) regions → All IsLighter regions → Balances starts regions left →
    (dropped ≡ 0) × Permutes rest left × Permutes found (founds_of regions)

-- where no region is dropped, all are of the problem, what they found is found, and each start and each given branch has its region or is left
abbrev pub NoneDroppedLaw : Type 0
NoneDroppedLaw =
    (p : Posed) (starts : List Branch) (regions : List RegionView) (found : List (List ℕ)) (rest : List Branch) (dropped : ℕ) →
    IsAssembled p starts regions found rest dropped → dropped ≡ 0 →
    All (λ r. r.problem ≡ p) regions × Permutes found (founds_of regions) × Balances starts regions rest
