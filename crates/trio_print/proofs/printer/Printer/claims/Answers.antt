-- One more, and all of them.
use Rattle.std.proofs.Common.{◌∙◌}
use Rattle.trio_print.specs.Canonical.{claim_text}
use Rattle.trio_print.proofs.Combining.{nothing, flat_more, flat_whole}
use Rattle.trio_print.proofs.printer.Printer.claims.Goals as goal

pub loop-claim-init : goal.loop-claim-init
loop-claim-init c = nothing c.args.self.now

pub loop-claim-preserved : goal.loop-claim-preserved
loop-claim-preserved c =
    flat_more (λ parts. claim_text parts c.args.is_goal) c.args.claims.now c.loop-claim.claim-index c.claim-item.result c.loop-claim-test.true c.claim-item.is c.loop-claim.invariant c.in_ok-claim.ensures

pub returns : goal.returns
returns c = flat_whole (λ parts. claim_text parts c.args.is_goal) c.args.claims.now c.loop-claim.claim-index c.loop-claim-test.false c.loop-claim.invariant

pub claim-requires : goal.claim-requires
claim-requires c = c.loop-claim.invariant.names ∙ c.requires
