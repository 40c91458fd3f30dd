-- What the loop of `first_undecided` keeps.
use Rattle.std.proofs.Common.{◌≡◌, ℕ, ◌<◌, false}
use Rattle.trio_core.specs.Stands.{world_of_core}
use Rattle.decompose.specs.Reads.{is_undecided}
use Rattle.decompose.proofs.values.first_undecided.Given as goal

-- no cell so far has several values
abbrev pub invariant-loop-cell : goal.invariant-loop-cell
invariant-loop-cell l = (n : ℕ) → n < l.cell → is_undecided (world_of_core l.core) l.sets n ≡ false
