-- The answer to the goal of `items_of`.
use Rattle.std.proofs.Common.{[], ◌∷◌, ◌++◌, map, ap, ◌∙◌}
use Rattle.trio_scope.specs.Names.{items_in}
use Rattle.trio_scope.proofs.Statements.{items_in-append}
use Rattle.trio_reader.specs.Erasure.{item_from}
use Rattle.trio_reader.proofs.Erased.{mapped_next}
use Rattle.trio_reader.proofs.declaring.items_of.Goals as goal

pub loop-statement-preserved : goal.loop-statement-preserved
loop-statement-preserved c =
    c.in_ok-add_item.ensures ∙ ap (λ is. is ++ map (item_from c.args.scope.now.tree.now) (items_in (c.statement-item.result ∷ []))) c.loop-statement.invariant
    ∙ mapped_next (item_from c.args.scope.now.tree.now) items_in items_in-append c.args.statements.now c.loop-statement.statement-index
    c.statement-item.result c.loop-statement-test.true c.statement-item.is
