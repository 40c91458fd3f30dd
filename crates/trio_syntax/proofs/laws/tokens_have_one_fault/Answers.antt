-- Proved as a lemma, which crates above cite.
use Rattle.trio_syntax.specs.Grammar.{IsSpec}
use Rattle.trio_syntax.proofs.Faults.{one_fault}
use Rattle.trio_syntax.proofs.laws.tokens_have_one_fault.Goals as goal

pub returns : goal.returns
returns c = one_fault IsSpec
