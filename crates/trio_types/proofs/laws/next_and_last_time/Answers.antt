-- The answers to the goals of `next_and_last_time`.
use Rattle.trio_types.proofs.Operators.{next_time_law, last_time_law}
use Rattle.trio_types.proofs.laws.next_and_last_time.Goals as goal

pub returns-clause-next : goal.returns-clause-next
returns-clause-next c = next_time_law

pub returns-clause-last : goal.returns-clause-last
returns-clause-last c = last_time_law
