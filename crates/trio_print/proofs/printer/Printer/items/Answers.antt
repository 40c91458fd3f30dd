-- One more, and all of them.
use Rattle.trio_print.specs.Canonical.{item_text}
use Rattle.trio_print.proofs.Combining.{nothing, flat_more, flat_whole}
use Rattle.trio_print.proofs.printer.Printer.items.Goals as goal

pub loop-item-init : goal.loop-item-init
loop-item-init c = nothing c.args.self.now

pub loop-item-preserved : goal.loop-item-preserved
loop-item-preserved c =
    flat_more item_text c.args.items.now c.loop-item.item-index c.item-item.result c.loop-item-test.true c.item-item.is c.loop-item.invariant c.in_ok-item.ensures

pub returns : goal.returns
returns c = flat_whole item_text c.args.items.now c.loop-item.item-index c.loop-item-test.false c.loop-item.invariant
