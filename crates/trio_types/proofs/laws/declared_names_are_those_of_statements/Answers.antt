-- The answer to the goal of `declared_names_are_those_of_statements`.
use Rattle.trio_types.proofs.Formed.{declared_law}
use Rattle.trio_types.proofs.laws.declared_names_are_those_of_statements.Goals as goal

pub returns : goal.returns
returns c = declared_law
