-- What the loop over parts keeps.
use Rattle.std.proofs.Common.{◌≡◌, take}
use Rattle.trio_types.proofs.copying.+copied_formulas.Given as goal

abbrev pub invariant-copied_formulas-loop-formula : goal.invariant-copied_formulas-loop-formula
invariant-copied_formulas-loop-formula l = l.made.items ≡ take l.formula-index l.formulas
