-- The answers to the goals of `first_in_claims`.
use Rattle.std.proofs.Common.{[], ◌∙◌}
use Rattle.trio_syntax.specs.declared.tree.ClaimTree.{ClaimTree}
use Rattle.trio_scope.specs.Gather.{places_in}
use Rattle.trio_scope.proofs.Least.{least_next, least_end}
use Rattle.trio_scope.proofs.walk.first_in_claims.Goals as goal

pub loop-claim-preserved : goal.loop-claim-preserved
loop-claim-preserved g c = (
  c.in_ok-first_in.ensures.kept ∙ c.loop-claim.invariant.0,
  least_next (λ (a : ClaimTree). places_in (g.R.Rule.finding c.args.rule.now) a.formula []) [] c.as_slice-claim-items.ensures c.loop-claim.claim-index
      c.claim-item.result c.loop-claim-test.true c.claim-item.is c.loop-claim.invariant.1
      (rw (c.loop-claim.invariant.0) at c.in_ok-first_in.ensures.found) c.earlier-first.ensures,
)

pub returns : goal.returns
returns g c =
    least_end (λ (a : ClaimTree). places_in (g.R.Rule.finding c.args.rule.now) a.formula []) [] c.as_slice-claim-items.ensures c.loop-claim-test.false c.loop-claim.invariant.1
