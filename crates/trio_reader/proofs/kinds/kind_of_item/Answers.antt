-- The answers to the goals of `kind_of_item`.
use Rattle.std.proofs.Common.{[], sym, ap, slice_get, ◌∙◌}
use Rattle.trio_reader.specs.Erasure.{world_of_tree}
use Rattle.trio_reader.proofs.KindLemmas.{kind-no_item, kind-item}
use Rattle.trio_reader.proofs.kinds.kind_of_item.Goals as goal

pub returns-in-None : goal.returns-in-None
returns-in-None c =
    sym (kind-no_item (world_of_tree c.args.world.now.scope.now.tree.now) [] c.args.item []
    (sym (c.in-None.ensures ∙ ap (λ is. slice_get is c.args.item) (c.as_slice.ensures ∙ c.args.world.now.has_items))))

pub returns-in-Some : goal.returns-in-Some
returns-in-Some c =
    c.kind_in.ensures ∙ sym (kind-item (world_of_tree c.args.world.now.scope.now.tree.now) [] c.args.item [] c.in-Some.found.now
    (sym (c.in-Some.ensures ∙ ap (λ is. slice_get is c.args.item) (c.as_slice.ensures ∙ c.args.world.now.has_items))))
