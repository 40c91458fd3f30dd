-- The answer to the goal of `root_gives_all_models`.
use Rattle.trio_workers.proofs.Found.{whole_law}
use Rattle.trio_workers.proofs.laws.root_gives_all_models.Goals as goal

pub returns : goal.returns
returns c = whole_law c.root_represents_the_models.ensures
