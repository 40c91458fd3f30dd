-- The answer to the goal of `fork`.
use Rattle.emit_ledger.proofs.Joined.{fork_is}
use Rattle.emit_ledger.proofs.region.Region.fork.Goals as goal

pub invariant_of-result : goal.invariant_of-result
invariant_of-result c =
    let parts = c.into_parts-start.result in
    rw (c.new.ensures, c.in_ok-given.ensures) (fork_is parts.problem.now parts.start parts.left parts.right c.into_parts-start.ensures.law)
