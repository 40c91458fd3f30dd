-- The answers to the goals of `text_has_one_specification`.
use Rattle.trio_reader.proofs.Texts.{one_specification}
use Rattle.trio_reader.proofs.laws.text_has_one_specification.Goals as goal

pub returns : goal.returns
returns c = one_specification
