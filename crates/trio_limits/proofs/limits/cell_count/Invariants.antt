-- What the loop over items keeps.
use Rattle.std.proofs.Common.{◌≡◌, length, sum_by, take}
use Rattle.trio_types.specs.Cells.{tuples}
use Rattle.trio_limits.specs.Given.{given_count}
use Rattle.trio_limits.proofs.limits.cell_count.Given as goal

abbrev pub invariant-loop-item : goal.invariant-loop-item
invariant-loop-item l =
    l.rows ≡ given_count (sum_by (λ item. length (tuples l.ground.domains.now item.args)) (take l.item-index l.ground.items.now))
