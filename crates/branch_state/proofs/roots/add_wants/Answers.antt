-- The answers to the goals of `add_wants`.
use Rattle.std.proofs.Common.{◌++◌, ap, ◌∙◌, arith}
use Rattle.trio_core.specs.Stands.{world_of_core}
use Rattle.branch_state.proofs.CodeReads.{wants_always, one_more_want}
use Rattle.branch_state.proofs.roots.add_wants.Goals as goal

pub loop-instant-preserved : goal.loop-instant-preserved
loop-instant-preserved c =
    c.in_ok-push-2.ensures.items
    ∙ one_more_want c.args.root c.loop-instant.instant c.loop-instant.wants.items c.args.wants.now.items c.root_want-in-loop-instant.result c.loop-instant.invariant c.root_want-in-loop-instant.ensures

pub returns : goal.returns
returns c =
    c.loop-instant.invariant
    ∙ ap (λ ws. c.args.wants.now.items ++ ws) (wants_always (world_of_core c.args.core.now) c.args.root c.loop-instant.instant c.in_default.is (omega arith))
