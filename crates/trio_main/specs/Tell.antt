-- What each status of the top call tells, for every command. `old` and `new` are the sink.
use Rattle.std.specs.Prelude.{◌≡◌, ◌≢◌, ℕ, ◌+◌, ◌≤◌, ◌⊎◌, true, List, Option, None, Some}
use Rattle.trio_io.specs.Outside.{ShelfView, SinkView, IsLater, Rose, WritesAll}
use Rattle.trio_jobs.specs.declared.status.Status.{Status}
use Rattle.trio_jobs.specs.declared.status.Status.TheVariants as status
use Rattle.trio_jobs.specs.declared.fault.Fault.TheVariants as fault
use Rattle.trio_jobs.specs.declared.command.Command.{Command}
use Rattle.trio_jobs.specs.Call.{Call, KeepsFiles}
use Rattle.trio_jobs.specs.Command.{files_named, saved_name}
use Rattle.trio_jobs.specs.Message.{message, usage_line}
use Rattle.trio_jobs.specs.Answer.{IsBroken}
use Rattle.trio_main.specs.Due.{job_of}

-- Statuses 0, 1 and 4: this is the answer due, its text was written, no more files were fetched than it takes to know it, and none changed.
pub record TellsDue (asked : Option Command) (call : Call) (old new : SinkView) (s : Status) : Type 0 where
  pub reads : ℕ
  pub text : List ℕ
  pub due : (job_of asked).due call.before reads s text
  pub fetched : call.now.counts.calls ≤ call.before.counts.calls + reads
  pub kept : KeepsFiles call
  pub written : WritesAll old new text

-- status 2: the words are no command, and the usage line was written
pub record TellsUsage (asked : Option Command) (call : Call) (old new : SinkView) : Type 0 where
  pub no_command : asked ≡ None
  pub kept : KeepsFiles call
  pub written : WritesAll old new usage_line

-- a failed fetch was counted, at the first file that was still to be read
pub record IsFailed (asked : Option Command) (call : Call) : Type 0 where
  pub counted : Rose call.before.counts.failed_fetches call.now.counts.failed_fetches
  pub reads : ℕ
  pub reached : (job_of asked).reaches call.before reads
  pub fetched : call.now.counts.calls ≤ call.before.counts.calls + reads

-- an absence was counted, and it is due that a file is not there
pub record IsAbsent (asked : Option Command) (call : Call) (text : List ℕ) : Type 0 where
  pub counted : Rose call.before.counts.absences call.now.counts.absences
  pub reads : ℕ
  pub due : (job_of asked).due call.before reads status.ReadFault text
  pub fetched : call.now.counts.calls ≤ call.before.counts.calls + reads

-- status 5: a failed fetch was counted, or an absence, and no file changed
pub record TellsUnread (asked : Option Command) (call : Call) (old new : SinkView) : Type 0 where
  pub cause : IsFailed asked call ⊎ IsAbsent asked call (message fault.Read)
  pub kept : KeepsFiles call
  pub written : WritesAll old new (message fault.Read)

-- status 7: its message was written, and no file changed
pub record TellsWant (call : Call) (old new : SinkView) : Type 0 where
  pub kept : KeepsFiles call
  pub written : WritesAll old new (message fault.Memory)

-- What each status tells of the command, its files and the sink. No command is stopped or saves a file.
abbrev pub Tells : Option Command → Call → SinkView → SinkView → Status → Type 0
Tells asked call old new status.Done = TellsDue asked call old new status.Done
Tells asked call old new status.False = TellsDue asked call old new status.False
Tells asked call old new status.Usage = TellsUsage asked call old new
Tells asked call old new status.Stopped = ⊥
Tells asked call old new status.Refused = TellsDue asked call old new status.Refused
Tells asked call old new status.ReadFault = TellsUnread asked call old new
-- a write failed, and a front of the text of an answer with its cause was written
Tells asked call old new status.WriteFault = IsBroken (job_of asked) call old new
Tells asked call old new status.Memory = TellsWant call old new
Tells asked call old new status.SaveFault = ⊥

-- Where the shelf tells its files, no fetch failed and no write did, the answer due was given, or want of memory.
abbrev pub GivesDue : Option Command → Call → SinkView → SinkView → Status → Type 0
GivesDue asked call old new result = (reads : ℕ) (s : Status) (text : List ℕ) → call.before.tells ≡ true → (job_of asked).due call.before reads s text →
    (Rose call.before.counts.failed_fetches call.now.counts.failed_fetches → ⊥) → (Rose old.faults new.faults → ⊥) →
    ((result ≡ s) × WritesAll old new text) ⊎ (result ≡ status.Memory)

-- What a call leaves: every file but the one that the command may save, and the bell. Whether the shelf tells is as before, no count fell, and that of
-- calls rose by at most as many as the command has places of files.
pub record Leaves (asked : Option Command) (call : Call) : Type 0 where
  pub others : (name : List ℕ) → saved_name asked ≢ Some name → call.now.file name ≡ call.before.file name
  pub tells : call.now.tells ≡ call.before.tells
  pub counts : IsLater (files_named asked) call.before.counts call.now.counts
  pub bell : call.rung ≡ call.bell
