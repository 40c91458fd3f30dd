-- The answer to the goal of `settling_ends`.
use Rattle.decompose.proofs.Enough.{enough_law}
use Rattle.decompose.proofs.laws.settling_ends.Goals as goal

pub returns : goal.returns
returns c = enough_law
