-- a table is a history in which every value is known
use Rattle.trio_canonical.proofs.PrintedHistory.{printed_table}
use Rattle.trio_canonical.proofs.laws.printed_table_is_that_table.Goals as goal

pub returns : goal.returns
returns c = printed_table c.text_has_one_history.ensures
