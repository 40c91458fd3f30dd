use Rattle.std.proofs.Common.{◌≡◌, drop}
use Rattle.trio_types.specs.Verdict.{world_of}
use Rattle.history_table.specs.Rows.{arg_indexes}
use Rattle.history_table.proofs.Arguments.{behind}
use Rattle.history_table.proofs.rows.arg_indexes.Given as goal

abbrev pub invariant-loop-place : goal.invariant-loop-place
invariant-loop-place l =
    arg_indexes (world_of l.spec) l.domains l.values ≡ behind l.indexes.items (arg_indexes (world_of l.spec) (drop l.place l.domains) (drop l.place l.values))
