-- What the loop over items keeps.
use Rattle.std.proofs.Common.{◌≡◌, map, take}
use Rattle.trio_types.specs.Bounds.{greatest}
use Rattle.trio_types.specs.Nest.{item_nest}
use Rattle.trio_limits.proofs.limits.item_nests.Given as goal

abbrev pub invariant-loop-item : goal.invariant-loop-item
invariant-loop-item l = l.nest ≡ greatest (map item_nest (take l.item-index l.items))
