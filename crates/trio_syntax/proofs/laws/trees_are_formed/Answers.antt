-- Proved as a lemma, which crates above cite.
use Rattle.trio_syntax.proofs.Formed.{tree_formed}
use Rattle.trio_syntax.proofs.laws.trees_are_formed.Goals as goal

pub returns : goal.returns
returns c = tree_formed
