-- The answers to the goals of `text_has_specification_or_fault`.
use Rattle.trio_reader.proofs.Answered.{answered}
use Rattle.trio_reader.proofs.laws.text_has_specification_or_fault.Goals as goal

pub returns : goal.returns
returns c = answered
