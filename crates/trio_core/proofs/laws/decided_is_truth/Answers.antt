-- The answers to the goals of `decided_is_truth`.
use Rattle.trio_core.proofs.Decided.{truth_law, whole_truth_law}
use Rattle.trio_core.proofs.laws.decided_is_truth.Goals as goal

pub returns-clause-node : goal.returns-clause-node
returns-clause-node c = truth_law

pub returns-clause-whole : goal.returns-clause-whole
returns-clause-whole c = whole_truth_law
