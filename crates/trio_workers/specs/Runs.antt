-- What a step of a run does, and that a run finds all models.
use Rattle.std.specs.Prelude.{◌≡◌, ℕ, ◌<◌, List, [], ◌∷◌, ◌++◌, All}
use Rattle.trio_lists.specs.Multisets.{Permutes}
use Rattle.branch_state.specs.declared.branch.Branch.{Branch}
use Rattle.branch_state.specs.Posed.{Posed, IsPosed}
use Rattle.branch_state.specs.Models.{models}
use Rattle.branch_state.specs.Branches.{reps_all, root_branch, Fits}
use Rattle.branch_state.specs.Weight.{bulk}
use Rattle.emit_ledger.specs.Assembly.{InOrder, Covers}

-- A branch stood behind the given ones, and a step was taken on it. What is found and given afterwards is what was found and given before,
-- each model as often. What is given fits, and takes fewer steps.
pub record IsAdvanced (p : Posed) (b : Branch) (found : List (List ℕ)) (given : List Branch) (more : List (List ℕ)) (next : List Branch) : Type 0 where
  pub fit : All (Fits p) given → All (Fits p) next
  pub law : Permutes (more ++ reps_all p next) (found ++ reps_all p (given ++ b ∷ []))
  pub fewer : bulk p next < bulk p (given ++ b ∷ [])

-- what covers the root, is in order and leaves nothing is the list of all models
abbrev pub WholeLaw : Type 0
WholeLaw = (p : Posed) → IsPosed p → (found : List (List ℕ)) → Covers p (reps_all p (root_branch p ∷ [])) found [] → InOrder found → found ≡ models p
