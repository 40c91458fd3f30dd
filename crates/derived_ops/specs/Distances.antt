-- The distances that the variable of an operator on one formula ranges over.
use Rattle.std.specs.Prelude.{ℤ, pos, neg_ℤ}
use Rattle.trio_base.specs.declared.operators.OneOp.{OneOp}
use Rattle.trio_base.specs.declared.operators.OneOp.TheVariants as one
use Rattle.trio_types.specs.World.{World}
use Rattle.derived_ops.specs.Rewriting.{last}

abbrev pub lowest : World → OneOp → ℤ
lowest world one.AlwF = pos 1
lowest world one.SomF = pos 1
lowest world o = neg_ℤ (last world)

abbrev pub highest : World → OneOp → ℤ
highest world one.AlwP = neg_ℤ (pos 1)
highest world one.SomP = neg_ℤ (pos 1)
highest world o = last world
