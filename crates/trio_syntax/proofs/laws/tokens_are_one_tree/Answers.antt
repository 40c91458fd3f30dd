-- Proved as a lemma, which crates above cite.
use Rattle.trio_syntax.proofs.Total.{one_tree}
use Rattle.trio_syntax.proofs.laws.tokens_are_one_tree.Goals as goal

pub returns : goal.returns
returns c = one_tree
