-- The answers to the goals of `models_are_the_true_extensions`.
use Rattle.branch_state.proofs.Modeled.{models_law, models_sorted}
use Rattle.branch_state.proofs.laws.models_are_the_true_extensions.Goals as goal

pub returns-clause-all : goal.returns-clause-all
returns-clause-all c = models_law

pub returns-clause-once : goal.returns-clause-once
returns-clause-once c = models_sorted
