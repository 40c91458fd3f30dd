-- Which statuses an answer of `check` can have, and what they tell.
use Rattle.std.proofs.Common.{◌≡◌, ℕ, ◌+◌, ◌≤◌, inl, inr, List, sym, ◌∙◌, ap}
use Rattle.trio_io.specs.Outside.{ShelfView, SinkView, WritesAll}
use Rattle.trio_types.specs.declared.spec.Spec.{Spec}
use Rattle.history_check.specs.declared.checker.Verdict.{Verdict}
use Rattle.history_check.specs.declared.checker.Verdict.TheVariants as verdict
use Rattle.trio_jobs.specs.declared.status.Status.{Status}
use Rattle.trio_jobs.specs.declared.status.Status.TheVariants as status
use Rattle.trio_jobs.specs.declared.fault.Fault.{Fault}
use Rattle.trio_jobs.specs.declared.fault.Fault.TheVariants as fault
use Rattle.trio_jobs.specs.Message.{message, SaysFault}
use Rattle.trio_jobs.specs.Check.{CheckFault, CheckDue, IsVerdict, CheckTells, check_job, verdict_status, verdict_text}
use Rattle.trio_jobs.specs.Call.{Call, KeepsFiles}
use Rattle.trio_jobs.specs.Answer.{IsDue, Answers, Finishes}
use Rattle.trio_jobs.proofs.FileFaults.{IsOfFile, IsDueStatus, load_fault_of_file, of_file_status, fault_tells, read_status}
use Rattle.trio_jobs.proofs.Checks.{verdict_read}

check_fault_of_file : (shelf : ShelfView) (s h : List ℕ) (n : ℕ) (f : Fault) → CheckFault shelf s h n f → IsOfFile f
check_fault_of_file shelf s h n f (inl x) = load_fault_of_file shelf s h n f x
check_fault_of_file shelf s h n f (inr x) = rw (x.1.unknown.is) tt

verdict_due_status : (v : Verdict) → IsDueStatus (verdict_status v)
verdict_due_status verdict.True = tt
verdict_due_status (verdict.False number instant) = tt

pub check_status : (shelf : ShelfView) (s h : List ℕ) (n : ℕ) (st : Status) (text : List ℕ) → CheckDue shelf s h n st text → IsDueStatus st
check_status shelf s h n st text (inl x) = rw (x.status_is) (of_file_status x.named (check_fault_of_file shelf s h n x.named x.has))
check_status shelf s h n st text (inr x) = rw (x.says.status_is) (verdict_due_status x.v)

-- where a file is not there the message says so
pub check_read_text : (shelf : ShelfView) (s h : List ℕ) (n : ℕ) (text : List ℕ) → CheckDue shelf s h n status.ReadFault text → text ≡ message fault.Read
check_read_text shelf s h n text (inl x) = x.text_is ∙ ap message (read_status x.named (sym x.status_is))
check_read_text shelf s h n text (inr x) = absurd (verdict_read x.v (sym x.says.status_is))

faulty_tells : (call : Call) (s h : List ℕ) (old new : SinkView) (n : ℕ) (st : Status) (text : List ℕ) →
    SaysFault (CheckFault call.before s h n) st text → call.now.counts.calls ≤ call.before.counts.calls + n → KeepsFiles call → WritesAll old new text →
    CheckTells call s h old new st
faulty_tells call s h old new n st text x fetched kept wrote =
    elim (fault_tells (CheckFault call.before s h) call old new n st text (check_fault_of_file call.before s h n) x fetched kept wrote) [
      | inl told ↦ rw (told.0) told.1
      | inr read ↦ rw read tt
    ]

verdict_tells : (call : Call) (s h : List ℕ) (old new : SinkView) (spec : Spec) (v : Verdict) → IsVerdict call.before s h spec v →
    WritesAll old new (verdict_text spec v) → CheckTells call s h old new (verdict_status v)
verdict_tells call s h old new spec verdict.True x wrote = record { spec = spec; holds = x; written = wrote }
verdict_tells call s h old new spec (verdict.False number instant) x wrote =
    record { spec = spec; number = number; instant = instant; fails = x; written = wrote }

-- what the answer due tells, where it was written
check_tells : (call : Call) (s h : List ℕ) (old new : SinkView) (st : Status) (text : List ℕ) → IsDue (check_job s h) call st text →
    WritesAll old new text → CheckTells call s h old new st
check_tells call s h old new st text due wrote = elim (due.due) [
  | inl x ↦ faulty_tells call s h old new due.reads st text x due.fetched due.kept wrote
  | inr x ↦ rw (x.says.status_is) (verdict_tells call s h old new x.spec x.v x.verdict (rw (← x.says.text_is) wrote))
]

-- what a status tells of `check`
check_answer_tells : (call : Call) (s h : List ℕ) (old new : SinkView) (st : Status) (text : List ℕ) → Answers (check_job s h) call st text →
    WritesAll old new text → CheckTells call s h old new st
check_answer_tells call s h old new st text (inl x) wrote = check_tells call s h old new st text x wrote
check_answer_tells call s h old new st text (inr (inl x)) wrote = rw (x.status_is) tt
check_answer_tells call s h old new st text (inr (inr x)) wrote = rw (x.status_is) tt

pub check_said : (call : Call) (s h : List ℕ) (old new : SinkView) (r : Status) → Finishes (check_job s h) old new r call →
    CheckTells call s h old new r
check_said call s h old new r ends = elim (ends.3) [
  | inl said ↦ rw (said.0) (check_answer_tells call s h old new ends.0 ends.1 ends.2 said.1)
  | inr failed ↦ rw (failed.0) tt
]
