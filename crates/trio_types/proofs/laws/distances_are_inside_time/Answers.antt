-- The answers to the goals of `distances_are_inside_time`.
use Rattle.trio_types.proofs.Operators.{dist_law, futr_law, past_law}
use Rattle.trio_types.proofs.laws.distances_are_inside_time.Goals as goal

pub returns-clause-dist : goal.returns-clause-dist
returns-clause-dist c = dist_law

pub returns-clause-futr : goal.returns-clause-futr
returns-clause-futr c = futr_law

pub returns-clause-past : goal.returns-clause-past
returns-clause-past c = past_law
