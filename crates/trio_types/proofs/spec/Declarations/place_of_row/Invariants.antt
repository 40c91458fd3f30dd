-- What the loop of `place_of_row` keeps.
use Rattle.std.proofs.Common.{◌≡◌, ◌+◌, take, sum_by}
use Rattle.trio_types.proofs.CellNumbers.{tuples_of_item}
use Rattle.trio_types.proofs.spec.Declarations.place_of_row.Given as goal

-- the rows of the items so far, and what is left of the row's number
abbrev pub invariant-loop-number : goal.invariant-loop-number
invariant-loop-number l = record {
  items : l.item-items ≡ l.self.items.now;
  whole : l.row ≡ sum_by (tuples_of_item l.self.domains.now) (take l.number l.self.items.now) + l.left;
}
