-- The answer to the goal of `new`.
use Rattle.std.proofs.Common.{map, ap, ◌∙◌}
use Rattle.trio_scope.specs.Names.{items_in}
use Rattle.trio_reader.specs.Erasure.{item_from, parts_of_tree}
use Rattle.trio_reader.proofs.world.World.new.Goals as goal

pub invariant_of-result : goal.invariant_of-result
unfolding parts_of_tree
invariant_of-result c = record {
  has_domains = rw (← c.as_slice.ensures) c.in_ok-domains.ensures;
  has_items = c.in_ok-items.ensures ∙ ap (λ ss. map (item_from c.args.scope.now.tree.now) (items_in ss)) c.as_slice-2.ensures;
}
