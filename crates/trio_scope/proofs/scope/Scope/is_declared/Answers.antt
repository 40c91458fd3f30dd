-- The answer to the goal of `is_declared`.
use Rattle.trio_scope.proofs.Noted.{declared-is}
use Rattle.trio_scope.proofs.scope.Scope.is_declared.Goals as goal

pub returns : goal.returns
returns c = rw (declared-is, ← c.declared.ensures) c.is_some.ensures
