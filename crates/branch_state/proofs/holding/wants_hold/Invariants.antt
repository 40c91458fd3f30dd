use Rattle.std.proofs.Common.{◌≡◌, map, take, length}
use Rattle.branch_state.specs.Branches.{single_set}
use Rattle.branch_state.proofs.holding.wants_hold.Given as goal

abbrev pub invariant-loop-cell : goal.invariant-loop-cell
invariant-loop-cell l = record {
  enough : length l.singles ≡ 1024;
  so_far : take l.cell l.singles ≡ map single_set (take l.cell l.table);
}
