use Rattle.std.proofs.Common.{◌≡◌, true, take, zip}
use Rattle.std.specs.List.{list_all}
use Rattle.trio_core.specs.Sets.{set_has}
use Rattle.branch_state.proofs.holding.lies_in.Given as goal

abbrev pub invariant-loop-cell : goal.invariant-loop-cell
invariant-loop-cell l = list_all (λ p. set_has p.0 p.1) (take l.cell (zip l.branch.doms l.table)) ≡ true
