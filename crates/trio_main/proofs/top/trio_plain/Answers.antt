-- What each status tells is read off the one answer.
use Rattle.trio_main.proofs.Tellings.{tells, tells_check, tells_complete, none_ends, gives_due, stays}
use Rattle.trio_main.proofs.top.trio_plain.Goals as goal

pub returns-clause-answer : goal.returns-clause-answer
returns-clause-answer g c = c.run.ensures.answer (g.B.Bell.seen c.args.bell.now)

pub returns-clause-tells : goal.returns-clause-tells
returns-clause-tells g c = tells _ _ _ _ c.run.result (c.run.ensures.answer (g.B.Bell.seen c.args.bell.now))

pub returns-clause-due : goal.returns-clause-due
returns-clause-due g c =
    gives_due c.text_has_one_specification.ensures c.text_has_one_fault.ensures c.faulty_text_is_no_specification.ensures
    c.text_has_one_history.ensures _ _ _ _ c.run.result (c.run.ensures.answer (g.B.Bell.seen c.args.bell.now))

pub returns-clause-no_command : goal.returns-clause-no_command
returns-clause-no_command g c = none_ends _ _ _ _ c.run.result (c.run.ensures.answer (g.B.Bell.seen c.args.bell.now))

pub returns-clause-check : goal.returns-clause-check
returns-clause-check g c = tells_check _ _ _ _ c.run.result (c.run.ensures.answer (g.B.Bell.seen c.args.bell.now))

pub returns-clause-complete : goal.returns-clause-complete
returns-clause-complete g c = tells_complete _ _ _ _ c.run.result (c.run.ensures.answer (g.B.Bell.seen c.args.bell.now))

pub returns-clause-leaves : goal.returns-clause-leaves
returns-clause-leaves g c = c.run.ensures.leaves (g.B.Bell.seen c.args.bell.now)

pub returns-clause-sink : goal.returns-clause-sink
returns-clause-sink g c = stays _ _ _ _ c.run.result (c.run.ensures.answer (g.B.Bell.seen c.args.bell.now))
