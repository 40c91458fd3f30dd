-- The answers to the goals of `kind_of_sense`.
use Rattle.std.proofs.Common.{[], sym, ◌∙◌}
use Rattle.trio_scope.specs.Gather.{variables_from}
use Rattle.trio_reader.specs.Erasure.{world_of_tree, domains_of}
use Rattle.trio_reader.proofs.KindLemmas.{kind-word, kind-read}
use Rattle.trio_reader.proofs.kinds.kind_of_sense.Goals as goal

pub returns-in-Word : goal.returns-in-Word
returns-in-Word c = rw c.in-Word.is (c.kind_of_word.ensures
    ∙ sym (kind-word (world_of_tree c.args.world.now.scope.now.tree.now) (domains_of c.args.world.now.scope.now.tree.now (variables_from c.args.around.now)) c.in-Word.domain c.in-Word.index))

pub returns-in-Item : goal.returns-in-Item
returns-in-Item c = rw c.in-Item.is (c.kind_of_item.ensures
    ∙ kind-read (world_of_tree c.args.world.now.scope.now.tree.now) [] (domains_of c.args.world.now.scope.now.tree.now (variables_from c.args.around.now)) c.in-Item.item [] [])
