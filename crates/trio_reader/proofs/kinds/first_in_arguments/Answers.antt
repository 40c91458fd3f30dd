-- The answers to the goals of `first_in_arguments`.
use Rattle.std.proofs.Common.{inl, inr}
use Rattle.std.proofs.Math.Logic.{⊎_elim}
use Rattle.trio_scope.specs.Gather.{variables_from}
use Rattle.trio_reader.proofs.KindLemmas.{arguments_next, arguments_end}
use Rattle.trio_reader.proofs.kinds.first_in_arguments.Goals as goal

pub loop-domain-preserved : goal.loop-domain-preserved
loop-domain-preserved c =
    arguments_next c.args.world.now.scope.now.tree.now (variables_from c.args.around.now) c.in-Some.ensures.steps.0 c.in-Some.ensures.steps.1
    c.loop-domain.first c.loop-domain.invariant
    (rw (← c.kind_of.ensures, ← c.kind_in.ensures) c.suits-suits.ensures) c.unless.ensures c.earlier-first.ensures

pub returns : goal.returns
returns c =
    arguments_end c.args.world.now.scope.now.tree.now (variables_from c.args.around.now) c.loop-domain.domain-iterator.a.rest.now
    c.loop-domain.domain-iterator.b.rest.now (⊎_elim (λ s. inl s.1.0) (λ s. inr s.1.0) c.in-None.ensures.steps) c.loop-domain.first c.loop-domain.invariant
