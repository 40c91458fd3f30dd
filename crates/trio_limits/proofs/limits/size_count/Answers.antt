-- The answer to the goal of `size_count`.
use Rattle.std.proofs.Common.{◌*◌, sum_by, sym, ap, ◌∙◌}
use Rattle.std.proofs.lemmas.List.{take_all}
use Rattle.trio_limits.specs.Given.{given_count}
use Rattle.trio_limits.specs.Ground.{world_of_ground}
use Rattle.trio_limits.proofs.Saturating.{given_by}
use Rattle.trio_limits.proofs.CellSums.{item_worth, sizes_are}
use Rattle.trio_limits.proofs.limits.size_count.Goals as goal

pub returns : goal.returns
returns c =
    let g = c.args.ground.now in
    let sizes = c.loop-item.invariant ∙ ap (λ is. given_count (sum_by (item_worth g.domains.now) is)) (take_all c.loop-item.item-index g.items.now c.loop-item-test.false) in
    c.saturating_mul-2.ensures ∙ ap (λ n. given_count (c.loop-item.sizes * n)) c.from.ensures ∙ ap (λ n. given_count (n * g.instants)) sizes
    ∙ given_by _ g.instants ∙ ap given_count (sym (sizes_are (world_of_ground g)))
