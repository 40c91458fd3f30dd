-- The answers to the goals of `assemble`.
use Rattle.branch_state.specs.Branches.{reps_all}
use Rattle.emit_ledger.proofs.Followed.{covers_sorted, assembled_sorted}
use Rattle.emit_ledger.proofs.assembling.assemble.Goals as goal

pub returns-clause-assembled : goal.returns-clause-assembled
returns-clause-assembled c =
    let made = c.in_ok-followed.followed in
    assembled_sorted c.args.problem.now c.args.starts c.args.regions made.found c.sort_tables.result made.rest made.dropped c.sort_tables.ensures.permuted c.in_ok-followed.ensures.assembled

pub returns-clause-covers : goal.returns-clause-covers
returns-clause-covers c =
    let p = c.args.problem.now in
    let made = c.in_ok-followed.followed in
    covers_sorted p (reps_all p c.args.starts) made.found c.sort_tables.result made.rest c.sort_tables.ensures.permuted c.in_ok-followed.ensures.covers
