-- What the loop over formulas keeps.
use Rattle.std.proofs.Common.{◌≡◌, take}
use Rattle.trio_limits.specs.Ground.{world_of_ground}
use Rattle.trio_limits.specs.Counting.{formulas_of}
use Rattle.trio_limits.proofs.formulas.+formulas.Given as goal

abbrev pub invariant-all_counts-loop-formula : goal.invariant-all_counts-loop-formula
invariant-all_counts-loop-formula l =
    (l.variables.items ≡ l.fn.variables.items)
    × (l.counts ≡ formulas_of (world_of_ground l.ground) l.fn.variables.items (take l.formula-index l.formulas))
