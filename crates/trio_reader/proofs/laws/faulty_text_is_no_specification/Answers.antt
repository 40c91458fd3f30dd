-- The answers to the goals of `faulty_text_is_no_specification`.
use Rattle.trio_reader.proofs.Texts.{no_specification}
use Rattle.trio_reader.proofs.laws.faulty_text_is_no_specification.Goals as goal

pub returns : goal.returns
returns c = no_specification
