-- The answers to the goals of `kind_of`.
use Rattle.std.proofs.Common.{[], ap, sym, ◌∙◌}
use Rattle.trio_types.specs.declared.formula.Term.TheVariants as term
use Rattle.trio_types.specs.Kinds.{kind_of_term}
use Rattle.trio_scope.specs.Gather.{variables_from}
use Rattle.trio_reader.specs.Erasure.{world_of_tree, domains_of, sense_term}
use Rattle.trio_reader.proofs.KindLemmas.{kind-Number, kind-Truth, kind-Named, kind-Call, kind-Sum, kind-Times}
use Rattle.trio_reader.proofs.kinds.kind_of.Goals as goal

pub returns-in-Number : goal.returns-in-Number
returns-in-Number c = kind-Number c.args.world.now.scope.now.tree.now (variables_from c.args.around.now) c.args.term.now c.in-Number.field-0 c.in-Number.is

pub returns-in-Truth : goal.returns-in-Truth
returns-in-Truth c = kind-Truth c.args.world.now.scope.now.tree.now (variables_from c.args.around.now) c.args.term.now c.in-Truth.field-0 c.in-Truth.is

pub returns-in-Named : goal.returns-in-Named
returns-in-Named c =
    c.kind_of_sense.ensures
    ∙ ap (λ s. kind_of_term (world_of_tree c.args.world.now.scope.now.tree.now) (domains_of c.args.world.now.scope.now.tree.now (variables_from c.args.around.now)) (sense_term s))
    c.sense_of.ensures
    ∙ sym (kind-Named c.args.world.now.scope.now.tree.now (variables_from c.args.around.now) c.args.term.now c.in-Named.mention c.in-Named.is)

pub returns-in-Call : goal.returns-in-Call
returns-in-Call c =
    c.kind_of_item.ensures
    ∙ ap (λ n. kind_of_term (world_of_tree c.args.world.now.scope.now.tree.now) [] (term.Read n [])) (rw (← c.sense_of-sense.ensures, ← c.items.ensures) c.item.ensures)
    ∙ sym (kind-Call c.args.world.now.scope.now.tree.now (variables_from c.args.around.now) c.args.term.now c.in-Call.mention c.in-Call.field-1 c.in-Call.is)

pub returns-in-Sum : goal.returns-in-Sum
returns-in-Sum c = kind-Sum c.args.world.now.scope.now.tree.now (variables_from c.args.around.now) c.args.term.now c.in-Sum.field-0 c.in-Sum.is

pub returns-in-Times : goal.returns-in-Times
returns-in-Times c =
    kind-Times c.args.world.now.scope.now.tree.now (variables_from c.args.around.now) c.args.term.now c.in-Times.field-0 c.in-Times.field-1 c.in-Times.is
