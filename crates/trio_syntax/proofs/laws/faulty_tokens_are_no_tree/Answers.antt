-- Proved as a lemma, which crates above cite.
use Rattle.trio_syntax.specs.Grammar.{IsSpec}
use Rattle.trio_syntax.proofs.Faults.{fault_no_tree}
use Rattle.trio_syntax.proofs.laws.faulty_tokens_are_no_tree.Goals as goal

pub returns : goal.returns
returns c = fault_no_tree IsSpec
