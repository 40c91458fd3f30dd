-- The answer to the goal of `cell_count`.
use Rattle.std.proofs.Common.{◌*◌, sum_by, sym, ap, ◌∙◌}
use Rattle.std.proofs.lemmas.List.{take_all}
use Rattle.trio_types.proofs.CellNumbers.{tuples_of_item, row_count, cell_count_is}
use Rattle.trio_limits.specs.Given.{given_count}
use Rattle.trio_limits.specs.Ground.{world_of_ground}
use Rattle.trio_limits.proofs.Saturating.{given_by}
use Rattle.trio_limits.proofs.limits.cell_count.Goals as goal

pub returns : goal.returns
returns c =
    let g = c.args.ground.now in
    let rows = c.loop-item.invariant ∙ ap (λ is. given_count (sum_by (tuples_of_item g.domains.now) is)) (take_all c.loop-item.item-index g.items.now c.loop-item-test.false)
    ∙ ap given_count (sym (row_count (world_of_ground g))) in
    c.saturating_mul.ensures ∙ ap (λ n. given_count (c.loop-item.rows * n)) c.from.ensures ∙ ap (λ n. given_count (n * g.instants)) rows
    ∙ given_by _ g.instants ∙ ap given_count (sym (cell_count_is (world_of_ground g)))
