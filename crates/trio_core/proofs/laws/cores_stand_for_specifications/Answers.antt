-- The answer to the goal of `cores_stand_for_specifications`.
use Rattle.trio_core.proofs.Standing.{stands_law}
use Rattle.trio_core.proofs.laws.cores_stand_for_specifications.Goals as goal

pub returns : goal.returns
returns c = stands_law
