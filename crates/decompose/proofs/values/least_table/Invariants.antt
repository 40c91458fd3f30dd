-- What the loop of `least_table` keeps.
use Rattle.std.proofs.Common.{◌≡◌, take}
use Rattle.trio_core.specs.Stands.{world_of_core}
use Rattle.decompose.specs.Rule.{least_table}
use Rattle.decompose.proofs.values.least_table.Given as goal

-- the least values so far
abbrev pub invariant-loop-set : goal.invariant-loop-set
invariant-loop-set l = l.table ≡ take l.set-index (least_table (world_of_core l.core) l.sets)
