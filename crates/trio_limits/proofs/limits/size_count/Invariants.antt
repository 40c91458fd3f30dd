-- What the loop over items keeps.
use Rattle.std.proofs.Common.{◌≡◌, ◌*◌, length, sum_by, take}
use Rattle.trio_types.specs.World.{size_of}
use Rattle.trio_types.specs.Cells.{tuples}
use Rattle.trio_limits.specs.Given.{given_count}
use Rattle.trio_limits.proofs.limits.size_count.Given as goal

abbrev pub invariant-loop-item : goal.invariant-loop-item
invariant-loop-item l =
    l.sizes ≡ given_count (sum_by (λ item. length (tuples l.ground.domains.now item.args) * size_of l.ground.domains.now item.value) (take l.item-index l.ground.items.now))
