-- The answer to the goal of `new`.
use Rattle.std.proofs.Common.{[]}
use Rattle.trio_scope.specs.Names.{declarations}
use Rattle.trio_scope.proofs.scope.Scope.new.Goals as goal

pub invariant_of-result : goal.invariant_of-result
unfolding declarations
invariant_of-result c = record {
  exact = rw (← c.as_slice.ensures, ← c.as_slice-2.ensures) (c.in_ok-claims.ensures _ _ _ (c.in_ok-statements.ensures 1 0 [] c.new-names.ensures));
}
