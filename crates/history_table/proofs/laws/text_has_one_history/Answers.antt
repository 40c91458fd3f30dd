use Rattle.history_table.proofs.Answered.{one_history}
use Rattle.history_table.proofs.laws.text_has_one_history.Goals as goal

pub returns : goal.returns
returns c = one_history c.text_is_one_list_of_tokens.ensures c.text_has_one_fault.ensures.one c.text_has_one_fault.ensures.apart
