-- The answer to the goal of `single_sets_represent_one_model`.
use Rattle.branch_state.proofs.Singled.{single_fits, single_represents}
use Rattle.branch_state.proofs.laws.single_sets_represent_one_model.Goals as goal

pub returns : goal.returns
returns c = λ p posed table is. (single_fits p posed table is, single_represents p table is)
