-- The answer to the goal of `first_in_refs`.
use Rattle.std.proofs.Common.{[], refl}
use Rattle.trio_syntax.specs.declared.tree.RefTree.{RefTree}
use Rattle.trio_reader.specs.Kinds.{wrong_places, ref_uses}
use Rattle.trio_scope.proofs.Least.{least_next}
use Rattle.trio_reader.proofs.kinds.first_in_refs.Goals as goal

pub loop-domain-preserved : goal.loop-domain-preserved
loop-domain-preserved c =
    least_next (λ (r : RefTree). wrong_places (ref_uses c.args.world.now.scope.now.tree.now r)) [] refl c.loop-domain.domain-index
    c.domain-item.result c.loop-domain-test.true c.domain-item.is c.loop-domain.invariant c.first_in_ref.ensures c.earlier-first.ensures
