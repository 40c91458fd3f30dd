-- The answer to the goal of `first_wrong_kind`.
use Rattle.trio_scope.proofs.Least.{least-append}
use Rattle.trio_reader.specs.Kinds.{kind_places}
use Rattle.trio_reader.proofs.kinds.first_wrong_kind.Goals as goal

pub returns : goal.returns
unfolding kind_places
returns c = rw (least-append, ← c.first_in_statements.ensures, ← c.in_ok-in_claims.ensures) c.earlier.ensures
