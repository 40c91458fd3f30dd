-- a text is read until nothing is left, or nothing begins
use Rattle.trio_text.proofs.Total.{tokens_or_fault}
use Rattle.trio_text.proofs.laws.text_has_tokens_or_a_fault.Goals as goal

pub returns : goal.returns
returns c = tokens_or_fault
