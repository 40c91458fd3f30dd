use Rattle.history_table.proofs.Answered.{history_or_fault}
use Rattle.history_table.proofs.laws.text_has_a_history_or_a_fault.Goals as goal

pub returns : goal.returns
returns c = history_or_fault c.text_has_tokens_or_a_fault.ensures
