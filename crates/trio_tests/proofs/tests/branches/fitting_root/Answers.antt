-- The root fits, by the law of roots.
use Rattle.trio_tests.proofs.tests.branches.fitting_root.Goals as goal

pub returns : goal.returns
returns g c = rw c.in-Ok.ensures (c.root_represents_the_models.ensures c.args.problem.now c.core-core.ensures.posed).0
