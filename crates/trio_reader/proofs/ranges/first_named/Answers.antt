-- The answer to the goal of `first_named`.
use Rattle.std.proofs.Common.{[], refl}
use Rattle.trio_syntax.specs.declared.tree.ClaimTree.{ClaimTree}
use Rattle.trio_scope.proofs.Least.{least_next}
use Rattle.trio_reader.specs.Ranges.{at_places}
use Rattle.trio_reader.proofs.ranges.first_named.Goals as goal

pub loop-claim-preserved : goal.loop-claim-preserved
loop-claim-preserved c =
    least_next (λ (a : ClaimTree). at_places c.args.instants a.at) [] refl c.loop-claim.claim-index c.claim-item.result c.loop-claim-test.true c.claim-item.is
    c.loop-claim.invariant c.first_at.ensures c.earlier-first.ensures
