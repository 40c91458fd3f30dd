-- The answer to the goal of `declarations`.
use Rattle.std.proofs.lemmas.Bool.{and_parts}
use Rattle.trio_core.specs.CoreShape.{is_core}
use Rattle.trio_core.proofs.nodes.Core.declarations.Goals as goal

pub invariant_of-result : goal.invariant_of-result
unfolding is_core
invariant_of-result c = record { formed = (and_parts _ _ c.args.self.now.shaped).0 }
