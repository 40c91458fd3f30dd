-- The answer to the goal of `root_wants`.
use Rattle.std.proofs.Common.{◌≤◌, length, ap, ◌∙◌, arith}
use Rattle.std.specs.List.{flat_map}
use Rattle.std.proofs.lemmas.List.{take_all}
use Rattle.trio_core.specs.Stands.{world_of_core}
use Rattle.trio_core.specs.declared.nodes.Core.{Core}
use Rattle.branch_state.specs.Branches.{wants_of_root, root_wants}
use Rattle.branch_state.proofs.roots.root_wants.Goals as goal

pub returns : goal.returns
unfolding root_wants
returns c =
    let p = c.args.problem.now in
    let whole : length p.core.roots ≤ c.loop-root.root-index =
    omega (arith, c.loop-root-test.false, ap length (c.as_slice-root-items.ensures ∙ ap (λ (q : Core). q.roots) c.core-core.ensures.is)) in
    c.from_vec.ensures ∙ c.loop-root.invariant ∙ ap (flat_map (wants_of_root (world_of_core p.core))) (take_all c.loop-root.root-index p.core.roots whole)
