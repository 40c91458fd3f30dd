-- The answers to the goals of `single_sets_decide`.
use Rattle.trio_core.proofs.Decided.{single_law, whole_single_law}
use Rattle.trio_core.proofs.laws.single_sets_decide.Goals as goal

pub returns-clause-node : goal.returns-clause-node
returns-clause-node c = single_law

pub returns-clause-whole : goal.returns-clause-whole
returns-clause-whole c = whole_single_law
