-- What the status of a refusal tells, for every command.
use Rattle.std.specs.Prelude.{◌≡◌, ℕ, ◌+◌, ◌≤◌}
use Rattle.trio_io.specs.Outside.{SinkView, WritesAll}
use Rattle.trio_jobs.specs.Call.{Call, KeepsFiles}
use Rattle.trio_jobs.specs.declared.status.Status.TheVariants as status
use Rattle.trio_jobs.specs.declared.fault.Fault.{Fault}
use Rattle.trio_jobs.specs.Fault.{status_of}
use Rattle.trio_jobs.specs.Message.{message}

-- Status 4: the first fault of the files, in the order of the words, was written, and no more files were fetched than it takes to find it. `first`
-- says which fault is the first of the command's, and how many files it takes: for that of the first file the shelf was called once at most. No file
-- changed.
pub record TellsRefused (first : ℕ → Fault → Type 0) (call : Call) (old new : SinkView) : Type 0 where
  pub reads : ℕ
  pub named : Fault
  pub is_refusal : status_of named ≡ status.Refused
  pub is_first : first reads named
  pub fetched : call.now.counts.calls ≤ call.before.counts.calls + reads
  pub kept : KeepsFiles call
  pub written : WritesAll old new (message named)
