-- What the loop of `search` keeps, and why it ends.
use Rattle.std.proofs.Common.{◌+◌, ◌≤◌, ◌++◌, All}
use Rattle.trio_lists.specs.Multisets.{Permutes}
use Rattle.branch_state.specs.Branches.{reps_all, Fits}
use Rattle.branch_state.specs.Weight.{bulk}
use Rattle.trio_workers.proofs.search.search.Given as goal

-- what is found and given is what was kept and the starts, and what was counted and what is left are no more than the starts take
abbrev pub invariant-loop-branch : goal.invariant-loop-branch
invariant-loop-branch g l = record {
  fit : All (Fits l.problem) l.given;
  law : Permutes (l.found ++ reps_all l.problem l.given) (l.fn.kept ++ reps_all l.problem l.fn.starts);
  spent : l.steps + bulk l.problem l.given ≤ l.fn.steps + bulk l.problem l.fn.starts;
}

abbrev pub decreases-loop-branch : goal.decreases-loop-branch
decreases-loop-branch g l = bulk l.problem l.given
