use Rattle.std.proofs.Common.{◌≡◌, take}
use Rattle.branch_state.proofs.copying.copy_wants.Given as goal

abbrev pub invariant-loop-want : goal.invariant-loop-want
invariant-loop-want l = l.made.items ≡ take l.want-index l.wants
