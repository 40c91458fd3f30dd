-- a text is read in one way, also up to a fault
use Rattle.trio_text.proofs.Steps.{one_fault, fault_or_tokens}
use Rattle.trio_text.proofs.laws.text_has_one_fault.Goals as goal

pub returns : goal.returns
returns c = record { one = one_fault; apart = fault_or_tokens }
