-- One word more, and all of them.
use Rattle.std.proofs.Common.{ap}
use Rattle.trio_print.specs.Canonical.{comma, name_}
use Rattle.trio_print.proofs.Combining.{told, nothing, joined_more, joined_whole}
use Rattle.trio_print.proofs.printer.Printer.words.Goals as goal

pub loop-place-init : goal.loop-place-init
loop-place-init c = nothing c.args.self.now

pub loop-place-preserved : goal.loop-place-preserved
loop-place-preserved c =
    joined_more comma (λ parts names w. name_ w) c.args.words.now c.loop-place.place c.index-words-place.result c.loop-place-test.true c.index-words-place.is
    c.loop-place.invariant c.in_ok-comma_before.ensures (told (λ parts names. ap name_ c.as_str.ensures) c.in_ok-name.ensures)

pub returns : goal.returns
returns c = joined_whole comma (λ parts names w. name_ w) c.args.words.now c.loop-place.place c.loop-place-test.false c.loop-place.invariant
