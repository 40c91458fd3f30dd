-- What the loop of `rows_before` keeps.
use Rattle.std.proofs.Common.{◌≡◌, take, sum_by}
use Rattle.trio_types.proofs.CellNumbers.{tuples_of_item}
use Rattle.trio_types.proofs.spec.Declarations.rows_before.Given as goal

-- the rows of the items so far
abbrev pub invariant-loop-item : goal.invariant-loop-item
invariant-loop-item l = record {
  front : l.item-items ≡ take l.number l.self.items.now;
  rows_are : l.rows ≡ sum_by (tuples_of_item l.self.domains.now) (take l.item-index l.item-items);
}
