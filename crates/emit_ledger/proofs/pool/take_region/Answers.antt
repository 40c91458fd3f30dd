-- The answers to the goals of `take_region`.
use Rattle.std.proofs.Common.{◌<◌, length, get_or, ap, ◌∙◌, arith}
use Rattle.std.proofs.lemmas.Slice.Zip.{AllZip-long}
use Rattle.emit_ledger.specs.Pool.{Tells}
use Rattle.emit_ledger.proofs.Marked.{marked_at}
use Rattle.emit_ledger.proofs.pool.take_region.Goals as goal

pub bounds-marks-place : goal.bounds-marks-place
bounds-marks-place c =
    omega (arith, AllZip-long (Tells c.args._problem.now) c.args.marks.now c.args.pool.now.items c.requires, c.args.pool.now.ok.0, c.loop-place-test.true, c.len-place-end.ensures)

pub starts_at-requires : goal.starts_at-requires
starts_at-requires c =
    let slot = c.index.result.now in
    let inside : c.loop-place.place < length c.args.marks.now =
    omega (arith, AllZip-long (Tells c.args._problem.now) c.args.marks.now c.args.pool.now.items c.requires, c.args.pool.now.ok.0, c.loop-place-test.true, c.len-place-end.ensures) in
    marked_at c.args._problem.now c.args.marks.now c.args.pool.now.items c.loop-place.place slot c.requires inside
    (c.index.ensures ∙ ap (λ slots. get_or slots c.loop-place.place slot) c.loop-place.invariant.same)
