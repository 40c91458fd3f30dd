-- What the loop over formulas keeps.
use Rattle.std.proofs.Common.{◌≡◌, take}
use Rattle.trio_types.proofs.comparing.+formulas.Given as goal

abbrev pub invariant-same_formulas-loop-place : goal.invariant-same_formulas-loop-place
invariant-same_formulas-loop-place l = take l.place l.left ≡ take l.place l.right
