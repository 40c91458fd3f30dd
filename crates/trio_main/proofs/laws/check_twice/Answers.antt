-- The second call begins with what the first one left.
use Rattle.trio_main.proofs.Chained.{judges_twice}
use Rattle.trio_main.proofs.laws.check_twice.Goals as goal

pub returns : goal.returns
returns g c =
    judges_twice _ (g.F.Shelf.seen c.args.shelf.now) (g.F.Shelf.seen c.trio_plain-first.new.shelf) (g.F.Shelf.seen c.trio_plain-second.new.shelf) _ _ _ _
    (g.K.Sink.seen c.args.out.now) (g.K.Sink.seen c.trio_plain-first.new.out) (g.K.Sink.seen c.trio_plain-second.new.out) c.trio_plain-first.result
    c.trio_plain-second.result c.trio_plain-first.ensures.check c.trio_plain-first.ensures.leaves c.trio_plain-first.ensures.sink c.trio_plain-second.ensures.check
