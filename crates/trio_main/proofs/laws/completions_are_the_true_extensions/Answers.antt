-- The answers to the goals of `completions_are_the_true_extensions`.
use Rattle.trio_main.proofs.Completions.{completions_law, completions_sorted}
use Rattle.trio_main.proofs.laws.completions_are_the_true_extensions.Goals as goal

pub returns-clause-all : goal.returns-clause-all
returns-clause-all c = completions_law

pub returns-clause-once : goal.returns-clause-once
returns-clause-once c = completions_sorted
