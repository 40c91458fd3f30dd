-- The pieces go out one by one.
use Rattle.std.proofs.lemmas.Result.{err_from_is_err_and}
use Rattle.trio_io.proofs.Fronts.{next_written, next_part}
use Rattle.trio_io.proofs.Pieces.{pieces_more, pieces_cut}
use Rattle.trio_io.proofs.sink.write_pieces.Goals as goal

pub loop-piece-preserved : goal.loop-piece-preserved
loop-piece-preserved g c =
    rw (pieces_more g.P.AsSlice.items c.args.pieces.now c.loop-piece.piece-index c.piece-item.result c.loop-piece-test.true c.piece-item.is)
    (next_written (g.K.Sink.seen c.args.sink.now) (g.K.Sink.seen c.loop-piece.sink) (g.K.Sink.seen c.write_whole.new.sink) _
    (g.P.AsSlice.items c.piece-item.result) c.loop-piece.invariant (rw c.as_slice.ensures at c.in_ok-write_whole.ensures))

pub returns-in_err-write_whole : goal.returns-in_err-write_whole
returns-in_err-write_whole g c =
    let p = err_from_is_err_and c.from_residual.result c.from_residual.ensures.1 in
    rw p.1
    (next_part (g.K.Sink.seen c.args.sink.now) (g.K.Sink.seen c.loop-piece.sink) (g.K.Sink.seen c.write_whole.new.sink) _ _
    (g.P.AsSlice.items c.piece-item.result) _ c.loop-piece.invariant
    (pieces_cut g.P.AsSlice.items c.args.pieces.now c.loop-piece.piece-index c.piece-item.result c.loop-piece-test.true c.piece-item.is)
    (rw c.as_slice.ensures at c.in_err-write_whole.ensures))
