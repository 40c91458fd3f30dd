-- The answers to the goals of `decided_stays`.
use Rattle.trio_core.proofs.Decided.{shrink_law, whole_shrink_law}
use Rattle.trio_core.proofs.laws.decided_stays.Goals as goal

pub returns-clause-node : goal.returns-clause-node
returns-clause-node c = shrink_law

pub returns-clause-whole : goal.returns-clause-whole
returns-clause-whole c = whole_shrink_law
