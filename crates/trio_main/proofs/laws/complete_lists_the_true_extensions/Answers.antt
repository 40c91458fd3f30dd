-- The answers to the goals of `complete_lists_the_true_extensions`.
use Rattle.trio_main.proofs.Told.{complete_list, never_false, complete_refused}
use Rattle.trio_main.proofs.laws.complete_lists_the_true_extensions.Goals as goal

pub returns-clause-done : goal.returns-clause-done
returns-clause-done c = complete_list

pub returns-clause-never : goal.returns-clause-never
returns-clause-never c = never_false

pub returns-clause-refused : goal.returns-clause-refused
returns-clause-refused c = complete_refused
