-- The answers to the goals of `ranges_have_their_ends`.
use Rattle.trio_types.proofs.Operators.{lasts_law, within_f_law, lasted_law, within_p_law}
use Rattle.trio_types.proofs.laws.ranges_have_their_ends.Goals as goal

pub returns-clause-lasts : goal.returns-clause-lasts
returns-clause-lasts c = lasts_law

pub returns-clause-within_f : goal.returns-clause-within_f
returns-clause-within_f c = within_f_law

pub returns-clause-lasted : goal.returns-clause-lasted
returns-clause-lasted c = lasted_law

pub returns-clause-within_p : goal.returns-clause-within_p
returns-clause-within_p c = within_p_law
