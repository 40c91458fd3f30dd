-- The answers to the goals of `until_and_since`.
use Rattle.trio_types.proofs.Operators.{until_law, since_law}
use Rattle.trio_types.proofs.laws.until_and_since.Goals as goal

pub returns-clause-until : goal.returns-clause-until
returns-clause-until c = until_law

pub returns-clause-since : goal.returns-clause-since
returns-clause-since c = since_law
