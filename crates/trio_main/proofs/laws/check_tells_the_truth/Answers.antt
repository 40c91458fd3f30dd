-- The answers to the goals of `check_tells_the_truth`.
use Rattle.trio_main.proofs.Told.{check_true, check_false, check_refused}
use Rattle.trio_main.proofs.laws.check_tells_the_truth.Goals as goal

pub returns-clause-done : goal.returns-clause-done
returns-clause-done c = check_true

pub returns-clause-fails : goal.returns-clause-fails
returns-clause-fails c = check_false

pub returns-clause-refused : goal.returns-clause-refused
returns-clause-refused c = check_refused c.given_values_stay_and_gaps_are_found.ensures.first
