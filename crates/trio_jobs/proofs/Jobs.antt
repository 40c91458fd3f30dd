-- From the fault or the answer of a job to what the top call ends with, for every command.
use Rattle.std.proofs.Common.{ℕ, ◌+◌, ◌≤◌, inl, inr, List, Result, Ok, Err, ap}
use Rattle.trio_io.specs.Outside.{SinkView}
use Rattle.trio_jobs.specs.declared.status.Status.{Status}
use Rattle.trio_jobs.specs.declared.status.Status.TheVariants as status
use Rattle.trio_jobs.specs.declared.fault.Fault.{Fault}
use Rattle.trio_jobs.specs.Call.{Call, KeepsFiles}
use Rattle.trio_jobs.specs.Job.{Job}
use Rattle.trio_jobs.specs.Fault.{status_of}
use Rattle.trio_jobs.specs.Message.{message}
use Rattle.trio_jobs.specs.Loading.{HasCause}
use Rattle.trio_jobs.specs.Answer.{Answers, Gives, Ends, Says, Finishes}
use Rattle.trio_jobs.proofs.FileFaults.{read_status}

-- a fault with its cause is an answer with its cause
pub cause_answers : (job : Job) (call : Call) (cause : Fault → Type 0) (reads : ℕ) (f : Fault) →
    ((g : Fault) → cause g → job.due call.before reads (status_of g) (message g)) → call.now.counts.calls ≤ call.before.counts.calls + reads →
    KeepsFiles call → HasCause call.before call.now (job.reaches call.before reads) cause f → Answers job call (status_of f) (message f)
cause_answers job call cause reads f due fetched kept (inl failed) =
    inr (inl (record {
      reads = reads;
      reached = failed.1;
      fetched = fetched;
      counted = failed.2;
      status_is = ap status_of failed.0;
      text_is = ap message failed.0;
      kept = kept;
    }))
cause_answers job call cause reads f due fetched kept (inr (inl want)) =
    inr (inr (record { status_is = ap status_of want; text_is = ap message want; kept = kept }))
cause_answers job call cause reads f due fetched kept (inr (inr has)) =
    inl (record { reads = reads; due = due f has.0; fetched = fetched; absent = λ is. has.1 (read_status f is); kept = kept })

-- what was computed was given
pub given_ends : (job : Job) (call : Call) (old new : SinkView) (s : Status) (text : List ℕ) (r : Result Status Fault) →
    Answers job call s text → Gives s text old new r → Ends job old new r call
given_ends job call old new s text (Ok given) answers gives = (text, rw gives.0 answers, gives.1)
given_ends job call old new s text (Err f) answers gives =
    inl (gives.0, record { status = s; text = text; answers = answers; part = gives.1 })

-- a job's fault was said
pub ended_said : (job : Job) (call : Call) (old middle new : SinkView) (f : Fault) (result : Status) →
    ((text : List ℕ) → Answers job call status.WriteFault text → ⊥) → Ends job old middle (Err f) call → Says f middle new result →
    Finishes job old new result call
ended_said job call old middle new f result none (inl broken) (inl silent) =
    (broken.1.status, broken.1.text, broken.1.answers, inr (silent.1, rw silent.2 broken.1.part))
ended_said job call old middle new f result none (inl broken) (inr said) = absurd (said.0 broken.0)
ended_said job call old middle new f result none (inr ends) (inl silent) =
    absurd (none (message f) (rw (ap status_of silent.0) at ends.0))
ended_said job call old middle new f result none (inr ends) (inr said) =
    (status_of f, message f, ends.0, rw ends.1 at said.1)
