-- The answers to the goals of `text_has_one_fault`.
use Rattle.trio_reader.proofs.Texts.{one_text_fault}
use Rattle.trio_reader.proofs.laws.text_has_one_fault.Goals as goal

pub returns : goal.returns
returns c = one_text_fault
