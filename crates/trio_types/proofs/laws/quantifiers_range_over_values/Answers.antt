-- The answers to the goals of `quantifiers_range_over_values`.
use Rattle.trio_types.proofs.Atoms.{all_law, ex_law}
use Rattle.trio_types.proofs.laws.quantifiers_range_over_values.Goals as goal

pub returns-clause-all : goal.returns-clause-all
returns-clause-all c = all_law

pub returns-clause-ex : goal.returns-clause-ex
returns-clause-ex c = ex_law
