-- The answers to the goals of `rule_keeps_the_law`.
use Rattle.decompose.proofs.Lawful.{step_law, open_law}
use Rattle.decompose.proofs.laws.rule_keeps_the_law.Goals as goal

pub returns-clause-keeps : goal.returns-clause-keeps
returns-clause-keeps c = step_law

pub returns-clause-open : goal.returns-clause-open
returns-clause-open c = open_law
