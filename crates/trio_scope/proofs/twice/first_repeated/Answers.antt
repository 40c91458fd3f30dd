-- The answer to the goal of `first_repeated`.
use Rattle.trio_scope.specs.Scope.{repeated_places}
use Rattle.trio_scope.proofs.Least.{least-append}
use Rattle.trio_scope.proofs.twice.first_repeated.Goals as goal

pub returns : goal.returns
unfolding repeated_places
returns c = rw (least-append, ← c.repeated.ensures, ← c.in_ok-in_claims.ensures) c.earlier.ensures
