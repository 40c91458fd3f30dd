-- One domain more, and all of them.
use Rattle.std.proofs.Common.{get_or}
use Rattle.std.proofs.lemmas.List.{get_or_default}
use Rattle.trio_print.specs.Canonical.{comma, ref_pieces}
use Rattle.trio_print.proofs.Combining.{nothing, joined_more, joined_whole}
use Rattle.trio_print.proofs.printer.Printer.domain_refs.Goals as goal

pub loop-place-init : goal.loop-place-init
loop-place-init c = nothing c.args.self.now

pub loop-place-preserved : goal.loop-place-preserved
loop-place-preserved c =
    let all = c.args.domains.now in
    let k = c.loop-place.place in
    joined_more comma (λ parts names d. ref_pieces parts d) all k (get_or all k 0) c.loop-place-test.true (get_or_default all k 0 (get_or all k 0) c.loop-place-test.true)
    c.loop-place.invariant c.in_ok-comma_before.ensures c.in_ok-domain_ref.ensures

pub returns : goal.returns
returns c = joined_whole comma (λ parts names d. ref_pieces parts d) c.args.domains.now c.loop-place.place c.loop-place-test.false c.loop-place.invariant
