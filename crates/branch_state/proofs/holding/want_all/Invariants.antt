use Rattle.std.proofs.Common.{◌≡◌, true, take}
use Rattle.std.specs.List.{list_all}
use Rattle.branch_state.specs.Branches.{want_holds}
use Rattle.branch_state.proofs.holding.want_all.Given as goal

abbrev pub invariant-loop-want : goal.invariant-loop-want
invariant-loop-want l = list_all (want_holds l.problem l.table) (take l.want-index l.wants) ≡ true
