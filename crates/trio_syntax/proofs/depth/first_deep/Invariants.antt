-- How many brackets are open so far, and that they were never too many.
use Rattle.std.proofs.Common.{◌≡◌, ℕ, ◌+◌, ◌<◌, ◌≤◌, take}
use Rattle.trio_syntax.specs.Depth.{open_behind}
use Rattle.trio_syntax.proofs.depth.first_deep.Given as goal

abbrev pub invariant-loop-place : goal.invariant-loop-place
invariant-loop-place l =
    (l.opened ≡ open_behind (take l.place l.lexemes)) × (l.opened ≤ 100) × ((j : ℕ) → j < l.place → open_behind (take (j + 1) l.lexemes) ≤ 100)
