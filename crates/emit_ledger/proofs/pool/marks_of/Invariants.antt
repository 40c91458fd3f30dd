-- What the loop of `marks_of` keeps.
use Rattle.std.proofs.Common.{Some, map, take}
use Rattle.emit_ledger.specs.Pool.{IsMarked}
use Rattle.emit_ledger.proofs.pool.marks_of.Given as goal

-- the regions so far are marked
abbrev pub invariant-loop-region : goal.invariant-loop-region
invariant-loop-region l = IsMarked l.problem l.marks.items (map Some (take l.region-index l.regions))
