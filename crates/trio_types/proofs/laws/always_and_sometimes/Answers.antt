-- The answers to the goals of `always_and_sometimes`.
use Rattle.trio_types.proofs.Operators.{alw_law, som_law, alw_f_law, som_f_law, alw_p_law, som_p_law}
use Rattle.trio_types.proofs.laws.always_and_sometimes.Goals as goal

pub returns-clause-alw : goal.returns-clause-alw
returns-clause-alw c = alw_law

pub returns-clause-som : goal.returns-clause-som
returns-clause-som c = som_law

pub returns-clause-alw_f : goal.returns-clause-alw_f
returns-clause-alw_f c = alw_f_law

pub returns-clause-som_f : goal.returns-clause-som_f
returns-clause-som_f c = som_f_law

pub returns-clause-alw_p : goal.returns-clause-alw_p
returns-clause-alw_p c = alw_p_law

pub returns-clause-som_p : goal.returns-clause-som_p
returns-clause-som_p c = som_p_law
