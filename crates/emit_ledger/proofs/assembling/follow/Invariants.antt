-- What the loop of `follow` keeps, and why it ends.
use Rattle.emit_ledger.specs.Pool.{IsMarked}
use Rattle.emit_ledger.proofs.Followed.{Followed, follow_measure}
use Rattle.emit_ledger.proofs.assembling.follow.Given as goal

abbrev pub invariant-loop-branch : goal.invariant-loop-branch
invariant-loop-branch l = record {
  marked : IsMarked l.problem l.marks.items l.pool.items;
  followed : Followed l.problem l.fn.starts l.fn.regions l.pool.items l.todo l.all_found l.rest l.unused;
}

abbrev pub decreases-loop-branch : goal.decreases-loop-branch
decreases-loop-branch l = follow_measure l.pool.items l.todo
