-- The answer to the goal of `item_nests`.
use Rattle.std.proofs.Common.{max, map, take, sym, ap, ◌∙◌}
use Rattle.trio_types.specs.Bounds.{greatest}
use Rattle.trio_types.specs.Nest.{item_nest}
use Rattle.trio_limits.proofs.Greatest.{greatest-last, mapped_next}
use Rattle.trio_limits.proofs.limits.item_nests.Goals as goal

pub loop-item-preserved : goal.loop-item-preserved
loop-item-preserved c =
    let items = c.args.items.now in
    let i = c.loop-item.item-index in
    c.max-nest.ensures ∙ ap (λ n. max n c.item_nest.result) c.loop-item.invariant ∙ ap (max (greatest (map item_nest (take i items)))) c.item_nest.ensures
    ∙ sym (ap greatest (mapped_next item_nest items i c.item-item.result c.loop-item-test.true c.item-item.is)
    ∙ greatest-last (map item_nest (take i items)) (item_nest c.item-item.result))
