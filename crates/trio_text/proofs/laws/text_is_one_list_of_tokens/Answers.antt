-- a text is read in one way
use Rattle.trio_text.proofs.Steps.{one_list}
use Rattle.trio_text.proofs.laws.text_is_one_list_of_tokens.Goals as goal

pub returns : goal.returns
returns c = one_list
