-- The answer to the goal of `first_compared`.
use Rattle.trio_scope.proofs.Least.{least-append}
use Rattle.trio_scope.proofs.walk.first_compared.Goals as goal

pub returns : goal.returns
returns g c =
    rw (least-append, least-append, ← c.compared-own.ensures, ← c.first_in_term-left.ensures, ← c.first_in_term-right.ensures, ← c.earlier.ensures)
    c.earlier-2.ensures
