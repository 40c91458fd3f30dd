-- The answers to the goals of `first_in_name`.
use Rattle.std.proofs.Common.{sym, ap, ◌∙◌}
use Rattle.trio_types.specs.Kinds.{has_kind}
use Rattle.trio_scope.specs.Gather.{variables_from}
use Rattle.trio_reader.specs.declared.sense.Sense.TheVariants as sense
use Rattle.trio_reader.specs.Erasure.{world_of_tree, domains_of}
use Rattle.trio_reader.specs.Kinds.{item_use}
use Rattle.trio_reader.proofs.KindLemmas.{wrong_name, uses-Var, uses-Value, uses-Read}
use Rattle.trio_reader.proofs.kinds.first_in_name.Goals as goal

pub returns-in-Variable : goal.returns-in-Variable
returns-in-Variable c =
    let tree = c.args.world.now.scope.now.tree.now in
    wrong_name tree (variables_from c.args.around.now) c.args.inside c.args.mention.now (sense.Variable c.in-Variable.level) (sym c.in-Variable.is ∙ c.sense_of.ensures) _
    (uses-Var (world_of_tree tree) (domains_of tree (variables_from c.args.around.now)) c.args.inside c.in-Variable.level)
    (c.is_kind.ensures ∙ ap has_kind c.kind_of_variable.ensures) c.unless.ensures

pub returns-in-Word : goal.returns-in-Word
returns-in-Word c =
    let tree = c.args.world.now.scope.now.tree.now in
    wrong_name tree (variables_from c.args.around.now) c.args.inside c.args.mention.now (sense.Word c.in-Word.domain c.in-Word.index) (sym c.in-Word.is ∙ c.sense_of.ensures) _
    (uses-Value (world_of_tree tree) (domains_of tree (variables_from c.args.around.now)) c.args.inside c.in-Word.domain c.in-Word.index)
    (c.is_kind-in-Word.ensures ∙ ap has_kind c.kind_of_word.ensures) c.unless-in-Word.ensures

pub returns-in-Item : goal.returns-in-Item
returns-in-Item c =
    let tree = c.args.world.now.scope.now.tree.now in
    wrong_name tree (variables_from c.args.around.now) c.args.inside c.args.mention.now (sense.Item c.in-Item.item) (sym c.in-Item.is ∙ c.sense_of.ensures)
    (item_use tree c.args.inside c.in-Item.item 0) (uses-Read tree (domains_of tree (variables_from c.args.around.now)) c.args.inside c.in-Item.item)
    c.is_right_read.ensures c.unless-in-Item.ensures
