-- What the loops over arguments and over parts keep.
use Rattle.std.proofs.Common.{◌≡◌, take}
use Rattle.trio_limits.specs.Ground.{world_of_ground}
use Rattle.trio_limits.specs.Counting.{arguments_of, part_counts}
use Rattle.trio_limits.proofs.terms.+terms.Given as goal

abbrev pub invariant-arguments_of-loop-argument : goal.invariant-arguments_of-loop-argument
invariant-arguments_of-loop-argument l = l.counts ≡ arguments_of (world_of_ground l.ground) l.variables (take l.argument-index l.arguments)

abbrev pub invariant-parts_of-loop-part : goal.invariant-parts_of-loop-part
invariant-parts_of-loop-part l = l.counts ≡ part_counts (world_of_ground l.ground) l.variables (take l.part-index l.parts)
