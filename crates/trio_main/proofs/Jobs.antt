-- What jobs leave, and the usage line.
use Rattle.std.proofs.Common.{ℕ, List, None, Some, refl, arith}
use Rattle.trio_io.specs.Outside.{ShelfView, BellView, OnlyReads}
use Rattle.trio_jobs.specs.declared.status.Status.TheVariants as status
use Rattle.trio_jobs.specs.declared.command.Command.{Command}
use Rattle.trio_jobs.specs.declared.command.Command.TheVariants as command
use Rattle.trio_jobs.specs.Call.{call_of}
use Rattle.trio_jobs.specs.Message.{usage_line}
use Rattle.trio_jobs.specs.Answer.{IsDue}
use Rattle.trio_main.specs.Due.{job_of}
use Rattle.trio_main.specs.Tell.{Leaves}

-- a command that only read its two files
pub only_read : (c : Command) (before now : ShelfView) (bell : BellView) → OnlyReads 2 before now → Leaves (Some c) (call_of before now bell bell)
only_read (command.Check s h) before now bell reads =
    record { others = λ name other. reads.files name; tells = reads.tells; counts = reads.counts; bell = refl }
only_read (command.Complete s h) before now bell reads =
    record { others = λ name other. reads.files name; tells = reads.tells; counts = reads.counts; bell = refl }

-- the usage line is due, and nothing was fetched
pub usage_due : (now : ShelfView) (bell : BellView) → IsDue (job_of None) (call_of now now bell bell) status.Usage usage_line
usage_due now bell = record {
  reads = 0;
  due = record { reads_none = refl; status_is = refl; text_is = refl };
  fetched = omega arith;
  absent = λ is. cc;
  kept = λ name. refl;
}
