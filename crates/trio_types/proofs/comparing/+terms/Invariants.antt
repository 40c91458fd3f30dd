-- What the loops over terms and over parts of sums keep.
use Rattle.std.proofs.Common.{◌≡◌, take}
use Rattle.trio_types.proofs.comparing.+terms.Given as goal

abbrev pub invariant-same_parts-loop-place : goal.invariant-same_parts-loop-place
invariant-same_parts-loop-place l = take l.place l.left ≡ take l.place l.right

abbrev pub invariant-same_terms-loop-place : goal.invariant-same_terms-loop-place
invariant-same_terms-loop-place l = take l.place l.left ≡ take l.place l.right
