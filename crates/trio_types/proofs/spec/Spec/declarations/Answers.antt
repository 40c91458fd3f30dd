-- The answer to the goal of `declarations`.
use Rattle.trio_types.proofs.Declared.{declarations_formed}
use Rattle.trio_types.proofs.spec.Spec.declarations.Goals as goal

pub invariant_of-result : goal.invariant_of-result
invariant_of-result c = record { formed = declarations_formed c.args.self.now }
