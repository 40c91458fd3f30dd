-- The answer to the goal of `equal_weights_are_permutations`.
use Rattle.trio_lists.proofs.Permuted.{permutation_law}
use Rattle.trio_lists.proofs.laws.equal_weights_are_permutations.Goals as goal

pub returns : goal.returns
returns g c = λ same tells xs ys. permutation_law same tells xs ys
