-- each name is spelled by its bytes
use Rattle.trio_text.proofs.Spans.{names_are_names}
use Rattle.trio_text.proofs.laws.names_are_names.Goals as goal

pub returns : goal.returns
returns c = names_are_names
