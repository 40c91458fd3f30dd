-- The answers to the goals of `first_false_is_first`.
use Rattle.trio_types.proofs.Verdicts.{whole_is_none, none_is_whole, found_is_first, first_is_found, none_is_true, true_is_none}
use Rattle.trio_types.proofs.laws.first_false_is_first.Goals as goal

pub returns-clause-found : goal.returns-clause-found
returns-clause-found c = λ spec t m i. (found_is_first spec t m i, first_is_found spec t m i)

pub returns-clause-none : goal.returns-clause-none
returns-clause-none c = λ spec t. (none_is_true spec t, true_is_none spec t)

pub returns-clause-whole : goal.returns-clause-whole
returns-clause-whole c = λ spec t. (
  λ is. none_is_true spec t (whole_is_none spec t is),
  λ each. none_is_whole spec t (true_is_none spec t each),
)
