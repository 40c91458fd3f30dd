-- What a call answers: an answer with its cause was written to its end, or the writing of it failed. `old` and `new` are the sink.
use Rattle.std.specs.Prelude.{◌≡◌, ◌≢◌, ℕ, ◌+◌, ◌≤◌, ◌⊎◌, List, Result, Ok, Err}
use Rattle.trio_io.specs.Outside.{SinkView, Rose, WritesAll, WritesPart}
use Rattle.trio_jobs.specs.declared.answer.Answer.{Answer}
use Rattle.trio_jobs.specs.declared.status.Status.{Status}
use Rattle.trio_jobs.specs.declared.status.Status.TheVariants as status
use Rattle.trio_jobs.specs.declared.fault.Fault.{Fault}
use Rattle.trio_jobs.specs.declared.fault.Fault.TheVariants as fault
use Rattle.trio_jobs.specs.Call.{Call, KeepsFiles}
use Rattle.trio_jobs.specs.Job.{Job}
use Rattle.trio_jobs.specs.Fault.{status_of}
use Rattle.trio_jobs.specs.Message.{message}
use Rattle.trio_jobs.specs.Text.{text_of}

-- The answer is due. No more files were fetched than it takes to know it, an absence was counted if it is that a file is not there, and no file
-- changed.
pub record IsDue (job : Job) (call : Call) (s : Status) (text : List ℕ) : Type 0 where
  pub reads : ℕ
  pub due : job.due call.before reads s text
  pub fetched : call.now.counts.calls ≤ call.before.counts.calls + reads
  pub absent : s ≡ status.ReadFault → Rose call.before.counts.absences call.now.counts.absences
  pub kept : KeepsFiles call

-- A fetch failed, which was counted: that of a file before which every other was read. No file was fetched behind it, and none changed.
pub record IsUnread (job : Job) (call : Call) (s : Status) (text : List ℕ) : Type 0 where
  pub reads : ℕ
  pub reached : job.reaches call.before reads
  pub fetched : call.now.counts.calls ≤ call.before.counts.calls + reads
  pub counted : Rose call.before.counts.failed_fetches call.now.counts.failed_fetches
  pub status_is : s ≡ status.ReadFault
  pub text_is : text ≡ message fault.Read
  pub kept : KeepsFiles call

-- want of memory, which needs no cause; no file changed
pub record IsWant (call : Call) (s : Status) (text : List ℕ) : Type 0 where
  pub status_is : s ≡ status.Memory
  pub text_is : text ≡ message fault.Memory
  pub kept : KeepsFiles call

-- an answer with its cause, before it is written
abbrev pub Answers : Job → Call → Status → List ℕ → Type 0
Answers job call s text = IsDue job call s text ⊎ (IsUnread job call s text ⊎ IsWant call s text)

-- what is computed before anything is written: an answer, or a fault whose message is the answer
abbrev pub Computes : Job → Result Answer Fault → Call → Type 0
Computes job (Ok answer) call = Answers job call answer.status (text_of answer)
Computes job (Err f) call = Answers job call (status_of f) (message f)

-- the answer's text went out, or a write failed
abbrev pub Gives : Status → List ℕ → SinkView → SinkView → Result Status Fault → Type 0
Gives s text old new (Ok given) = (given ≡ s) × WritesAll old new text
Gives s text old new (Err f) = (f ≡ fault.Write) × WritesPart old new text

-- the same of a text that is made as it goes out, or memory was wanting before the first write
abbrev pub GivesOrWants : Status → List ℕ → SinkView → SinkView → Result Status Fault → Type 0
GivesOrWants s text old new r = Gives s text old new r ⊎ ((r ≡ Err fault.Memory) × (new ≡ old))

-- an answer whose writing failed
pub record IsBroken (job : Job) (call : Call) (old new : SinkView) : Type 0 where
  pub status : Status
  pub text : List ℕ
  pub answers : Answers job call status text
  pub part : WritesPart old new text

-- What a job ends with: its answer was written, the writing of it failed, or its fault is still to be said.
abbrev pub Ends : Job → SinkView → SinkView → Result Status Fault → Call → Type 0
Ends job old new (Ok s) call = (text : List ℕ) × Answers job call s text × WritesAll old new text
Ends job old new (Err f) call =
    ((f ≡ fault.Write) × IsBroken job call old new) ⊎ (Answers job call (status_of f) (message f) × (new ≡ old))

-- the text went out and the status is the answer's, or a write failed and the status says so
abbrev pub Said : Status → List ℕ → SinkView → SinkView → Status → Type 0
Said s text old new result = ((result ≡ s) × WritesAll old new text) ⊎ ((result ≡ status.WriteFault) × WritesPart old new text)

-- what saying a fault does: nothing where it is a failed write, and else its message is written
abbrev pub Says : Fault → SinkView → SinkView → Status → Type 0
Says f old new result =
    ((f ≡ fault.Write) × (result ≡ status.WriteFault) × (new ≡ old)) ⊎ ((f ≢ fault.Write) × Said (status_of f) (message f) old new result)

-- an answer with its cause was said
abbrev pub Finishes : Job → SinkView → SinkView → Status → Call → Type 0
Finishes job old new result call = (s : Status) × (text : List ℕ) × Answers job call s text × Said s text old new result
