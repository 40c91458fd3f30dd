use Rattle.std.proofs.Common.{◌≡◌, ◌++◌, length, option_map}
use Rattle.history_table.specs.Decoding.{entries_of}
use Rattle.history_table.proofs.reading.Cursor.entries.Given as goal

abbrev pub invariant-loop-alloc : goal.invariant-loop-alloc
invariant-loop-alloc l = entries_of l.fn.self.rest.now ≡ option_map (λ more. l.found.items ++ more) (entries_of l.self.rest.now)

abbrev pub decreases-loop-alloc : goal.decreases-loop-alloc
decreases-loop-alloc l = length l.self.rest.now
