-- The answer to the goal of `totals_of`.
use Rattle.std.proofs.Common.{ap, ◌∙◌, map, arith}
use Rattle.trio_types.specs.World.{World}
use Rattle.trio_types.specs.Bounds.{greatest}
use Rattle.trio_types.specs.Nest.{item_nest}
use Rattle.trio_types.specs.Parts.{Parts}
use Rattle.trio_limits.specs.Draft.{parts_of_draft}
use Rattle.trio_limits.specs.Claims.{claims_counts}
use Rattle.trio_limits.proofs.AllCounts.{totals_are, world_same}
use Rattle.trio_limits.proofs.limits.totals_of.Goals as goal

pub returns : goal.returns
returns c =
    let parts : Parts = parts_of_draft c.args.draft.now in
    let w : World = record { instants = parts.instants; domains = c.as_slice.result.now; items = c.as_slice-2.result.now } in
    totals_are parts w (world_same parts.instants _ parts.domains _ parts.items c.as_slice.ensures c.as_slice-2.ensures) c.in_ok-axioms.axioms c.in_ok-goals.goals
    (c.in_ok-axioms.ensures ∙ ap (claims_counts w) c.as_slice-3.ensures) (c.in_ok-goals.ensures ∙ ap (claims_counts w) c.as_slice-4.ensures)
    c.len.result c.cell_count.result c.size_count.result c.max.result c.saturating_add.result c.max-nest.result c.item_nests.result c.max-2.result
    c.len.ensures (omega (arith, c.len.type_inv)) c.cell_count.ensures c.size_count.ensures c.max.ensures c.saturating_add.ensures c.max-nest.ensures
    (c.item_nests.ensures ∙ ap (λ is. greatest (map item_nest is)) c.as_slice-5.ensures) (omega (arith, c.item_nests.type_inv)) c.max-2.ensures
