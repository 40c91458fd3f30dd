-- What each status tells is read off the one statement.
use Rattle.explain_answers.proofs.Told.{tells}
use Rattle.explain_answers.proofs.explain.explained.Goals as goal

pub returns-clause-tells : goal.returns-clause-tells
returns-clause-tells g c = tells _ _ _ _ _ c.run.result c.run.ensures.finishes
