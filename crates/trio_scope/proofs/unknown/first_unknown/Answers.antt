-- The answer to the goal of `first_unknown`.
use Rattle.trio_scope.specs.Scope.{unknown_places}
use Rattle.trio_scope.proofs.Least.{least-append}
use Rattle.trio_scope.proofs.unknown.first_unknown.Goals as goal

pub returns : goal.returns
unfolding unknown_places
returns c = rw (least-append, ← c.first_in_statements.ensures, ← c.in_ok-in_claims.ensures) c.earlier.ensures
