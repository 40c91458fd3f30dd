-- What the loop over statements keeps.
use Rattle.std.proofs.Common.{◌≡◌, map, take}
use Rattle.trio_scope.specs.Names.{items_in}
use Rattle.trio_reader.specs.Erasure.{item_from}
use Rattle.trio_reader.proofs.declaring.items_of.Given as goal

abbrev pub invariant-loop-statement : goal.invariant-loop-statement
invariant-loop-statement l = l.made.items ≡ map (item_from l.scope.tree.now) (items_in (take l.statement-index l.statements))
