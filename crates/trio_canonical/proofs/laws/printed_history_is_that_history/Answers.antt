-- the tokens of a printed text are its lines, and a text is one history
use Rattle.trio_canonical.proofs.PrintedHistory.{printed_history}
use Rattle.trio_canonical.proofs.laws.printed_history_is_that_history.Goals as goal

pub returns : goal.returns
returns c = printed_history c.text_has_one_history.ensures
