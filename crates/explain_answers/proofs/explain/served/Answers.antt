-- The specification is read, and the history's file goes no further, or both are told.
use Rattle.explain_answers.proofs.Serving.{history_ends_serves, told_serves}
use Rattle.explain_answers.proofs.explain.served.Goals as goal

pub returns-in-Ok-2-clause-serves : goal.returns-in-Ok-2-clause-serves
returns-in-Ok-2-clause-serves g c =
    told_serves (record { task_ = c.args.command.task; spec = c.args.command.spec.now; history = c.args.command.history.now })
    (g.F.Shelf.seen c.args.shelf.now) (g.F.Shelf.seen c.load_spec.new.shelf) (g.F.Shelf.seen c.load_history.new.shelf)
    c.in-Ok.loaded.spec c.in-Ok.loaded.text.items c.in-Ok.loaded.tokens c.in-Ok-2.given c.told.result c.in_ok-loaded.ensures.reads
    (rw c.in-Ok.is at c.in_ok-loaded.ensures.loads) (rw c.in-Ok-2.is at c.in_ok-given-in-Ok.ensures.loads) c.told.ensures

pub returns-in-Ok-clause-serves : goal.returns-in-Ok-clause-serves
returns-in-Ok-clause-serves g c =
    history_ends_serves (record { task_ = c.args.command.task; spec = c.args.command.spec.now; history = c.args.command.history.now })
    (g.F.Shelf.seen c.args.shelf.now) (g.F.Shelf.seen c.load_spec.new.shelf) (g.F.Shelf.seen c.load_history.new.shelf)
    c.in-Ok.loaded.spec c.in-Ok.loaded.text.items c.in-Ok.loaded.tokens c.in-Err-2.answer.status c.in-Err-2.answer.text.items
    c.in_ok-loaded.ensures.reads (rw c.in-Ok.is at c.in_ok-loaded.ensures.loads) (rw c.in-Err-2.is at c.in_ok-given-in-Ok.ensures.loads)
