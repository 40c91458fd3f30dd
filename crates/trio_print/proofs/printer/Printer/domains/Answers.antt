-- One more, and all of them.
use Rattle.trio_print.specs.Canonical.{domain_text}
use Rattle.trio_print.proofs.Combining.{nothing, flat_more, flat_whole}
use Rattle.trio_print.proofs.printer.Printer.domains.Goals as goal

pub loop-domain-init : goal.loop-domain-init
loop-domain-init c = nothing c.args.self.now

pub loop-domain-preserved : goal.loop-domain-preserved
loop-domain-preserved c =
    flat_more (λ parts d. domain_text d) c.args.domains.now c.loop-domain.domain-index c.domain-item.result c.loop-domain-test.true c.domain-item.is c.loop-domain.invariant c.in_ok-domain.ensures

pub returns : goal.returns
returns c = flat_whole (λ parts d. domain_text d) c.args.domains.now c.loop-domain.domain-index c.loop-domain-test.false c.loop-domain.invariant
