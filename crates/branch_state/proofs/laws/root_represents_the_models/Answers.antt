-- The answer to the goal of `root_represents_the_models`.
use Rattle.branch_state.proofs.Rooted.{root_fits_problem, root_represents}
use Rattle.branch_state.proofs.laws.root_represents_the_models.Goals as goal

pub returns : goal.returns
returns c = λ p posed. (root_fits_problem p posed, root_represents p posed)
