-- Proved as a lemma, which crates above cite.
use Rattle.trio_syntax.proofs.Total.{tree_or_fault}
use Rattle.trio_syntax.proofs.laws.tokens_have_a_tree_or_a_fault.Goals as goal

pub returns : goal.returns
returns c = tree_or_fault
