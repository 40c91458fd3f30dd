-- The five pieces are the line.
use Rattle.trio_jobs.proofs.Pieces.{value_pieces}
use Rattle.trio_jobs.proofs.message.write_value.Goals as goal

pub returns : goal.returns
returns g c =
    value_pieces (g.K.Sink.seen c.args.out.now) (g.K.Sink.seen c.write_pieces.new.sink) c.write_pieces.result _ _ c.args.line c.args.column
    c.format-line.ensures.text c.format-column.ensures.text c.write_pieces.ensures
