-- The pieces are the tables that were taken from the end.
use Rattle.std.proofs.Common.{length}
use Rattle.trio_types.specs.Verdict.{world_of}
use Rattle.trio_jobs.proofs.ListPieces.{Listed}
use Rattle.trio_jobs.proofs.listing.list_answer.Given as goal

abbrev pub invariant-loop-table : goal.invariant-loop-table
invariant-loop-table l = Listed (world_of l.spec) (λ piece. piece.items) l.fn.tables l.tables l.pieces.items

abbrev pub decreases-loop-table : goal.decreases-loop-table
decreases-loop-table l = length l.tables
