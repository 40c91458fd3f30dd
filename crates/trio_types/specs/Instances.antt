-- The instance count of a formula.
use Rattle.std.specs.Prelude.{ℕ, ◌+◌, ◌-◌, ◌*◌, length, sum}
use Rattle.trio_base.specs.declared.operators.FarOp.{FarOp}
use Rattle.trio_base.specs.declared.operators.FarOp.TheVariants as far
use Rattle.trio_types.specs.declared.formula.Formula.{Formula}
use Rattle.trio_types.specs.declared.formula.Formula.TheOpen.{Formula-F}
use Rattle.trio_types.specs.declared.formula.Formula.TheOpen as open_formula
use Rattle.trio_types.specs.declared.formula.Formula.TheFolds.{fold-Formula}
use Rattle.trio_types.specs.World.{World, size_of}

-- an operator at a distance, over this many instants and a formula that counts f
abbrev pub far_instances : ℕ → FarOp → ℕ → ℕ
far_instances n far.Dist f = f + 1
far_instances n far.Futr f = f + 1
far_instances n far.Past f = f + 1
far_instances n far.NextTime f = (n + 1) * (f + 1) + 2
far_instances n far.LastTime f = (n + 1) * (f + 1) + 2
far_instances n (far.Lasts s) f = n * f + 1
far_instances n (far.Lasted s) f = n * f + 1
far_instances n (far.WithinF s) f = n * f + 1
far_instances n (far.WithinP s) f = n * f + 1

abbrev pub formula_instances : World → Formula-F ℕ → ℕ
formula_instances world (open_formula.Lone x) = 1
formula_instances world (open_formula.Compare r x y) = 1
formula_instances world (open_formula.Not f) = f + 1
formula_instances world (open_formula.And fs) = sum fs + (length fs - 1)
formula_instances world (open_formula.Or fs) = sum fs + (length fs - 1)
formula_instances world (open_formula.Implies f g) = f + g + 1
formula_instances world (open_formula.Iff f g) = 2 * (f + g) + 5
formula_instances world (open_formula.All name d f) = size_of world.domains d * f + 1
formula_instances world (open_formula.Ex name d f) = size_of world.domains d * f + 1
formula_instances world (open_formula.One o f) = world.instants * f + 1
formula_instances world (open_formula.Far o f x) = far_instances world.instants o f
formula_instances world (open_formula.Pair o f g) = world.instants * (g + world.instants * f + 2) + 1

-- how many instances of atoms and operators a formula stands for at an instant
unfoldable pub instances : World → Formula → ℕ
instances world = fold-Formula ℕ (formula_instances world)
