-- What the loop of `pool_of` keeps.
use Rattle.std.proofs.Common.{◌≡◌, Some, map}
use Rattle.emit_ledger.proofs.pool.pool_of.Given as goal

-- the regions so far stand in their places
abbrev pub invariant-loop-region : goal.invariant-loop-region
invariant-loop-region l = l.pool.items ≡ map Some l.yielded
