-- The answers to the goals of `kind_of_variable`.
use Rattle.std.proofs.Common.{Some, sym, ap, ◌∙◌}
use Rattle.std.specs.Option.{option_map}
use Rattle.trio_syntax.specs.declared.tree.SpecTree.{SpecTree}
use Rattle.trio_scope.specs.declared.walk.Binder.{Binder}
use Rattle.trio_scope.specs.Gather.{variables_from}
use Rattle.trio_reader.specs.Erasure.{world_of_tree, domain_of, domains_of}
use Rattle.trio_reader.proofs.KindLemmas.{kind-no_variable, kind-variable, domain-at}
use Rattle.trio_reader.proofs.kinds.kind_of_variable.Goals as goal

pub returns-in-None : goal.returns-in-None
returns-in-None c =
    let tree : SpecTree = c.args.world.now.scope.now.tree.now in
    sym (kind-no_variable (world_of_tree tree) (domains_of tree (variables_from c.args.around.now)) c.args.level
    (domain-at tree c.args.around.now c.args.level ∙ ap (option_map (λ (b : Binder). domain_of tree b.domain.now)) (sym c.in-None.ensures)))

pub returns-in-Some : goal.returns-in-Some
returns-in-Some c =
    let tree : SpecTree = c.args.world.now.scope.now.tree.now in
    c.kind_in.ensures ∙ sym (kind-variable (world_of_tree tree) (domains_of tree (variables_from c.args.around.now)) c.args.level c.domain_of.result
    (domain-at tree c.args.around.now c.args.level ∙ ap (option_map (λ (b : Binder). domain_of tree b.domain.now)) (sym c.in-Some.ensures)
    ∙ ap Some (sym c.domain_of.ensures)))
