use Rattle.std.proofs.Common.{◌≡◌, ◌++◌, map}
use Rattle.std.specs.List.{range_with_len}
use Rattle.branch_state.specs.Branches.{root_want}
use Rattle.branch_state.proofs.roots.add_wants.Given as goal

abbrev pub invariant-loop-instant : goal.invariant-loop-instant
invariant-loop-instant l = l.wants.items ≡ l.initial.wants.items ++ map (root_want l.root) (range_with_len 0 l.instant)
