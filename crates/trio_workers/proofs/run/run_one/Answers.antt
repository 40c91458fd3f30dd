-- The answer to the goal of `run_one`.
use Rattle.std.proofs.Common.{◌++◌}
use Rattle.branch_state.specs.Branches.{reps_all}
use Rattle.trio_workers.proofs.Found.{covers_all}
use Rattle.trio_workers.proofs.run.run_one.Goals as goal

pub returns-clause-covers : goal.returns-clause-covers
returns-clause-covers g c =
    let p = c.args.problem.now in
    rw c.new.ensures
    (covers_all p (c.args.kept ++ reps_all p c.args.starts) c.in_ok-found.found c.sort_tables.result c.in_ok-found.ensures.found c.sort_tables.ensures.permuted)
