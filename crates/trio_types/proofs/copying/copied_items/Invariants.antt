-- What the loop over items keeps.
use Rattle.std.proofs.Common.{◌≡◌, take}
use Rattle.trio_types.proofs.copying.copied_items.Given as goal

abbrev pub invariant-loop-item : goal.invariant-loop-item
invariant-loop-item l = l.made.items ≡ take l.item-index l.items
