-- The answer to the goal of `claims_counts`.
use Rattle.std.proofs.Common.{ap, ◌∙◌}
use Rattle.trio_limits.specs.Ground.{world_of_ground}
use Rattle.trio_limits.specs.Counting.{counts_of}
use Rattle.trio_limits.proofs.ClaimCounts.{claims_next}
use Rattle.trio_limits.proofs.limits.claims_counts.Goals as goal

pub loop-claim-preserved : goal.loop-claim-preserved
loop-claim-preserved c = (
  c.in_ok-more.ensures.kept ∙ c.loop-claim.invariant.0,
  claims_next (world_of_ground c.args.ground.now) c.args.claims.now c.loop-claim.claim-index c.claim-item.result c.loop-claim-test.true c.claim-item.is
      c.loop-claim.counts c.loop-claim.invariant.1 c.in_ok-more.more
      (c.in_ok-more.ensures.made ∙ ap (λ vs. counts_of (world_of_ground c.args.ground.now) vs c.claim-item.result.formula) c.loop-claim.invariant.0)
      c.from.result c.saturating_mul-instances.result c.max.result c.saturating_add.result c.max-in-loop-claim.result c.from.ensures
      c.saturating_mul-instances.ensures c.max.ensures c.saturating_add.ensures c.max-in-loop-claim.ensures,
)
