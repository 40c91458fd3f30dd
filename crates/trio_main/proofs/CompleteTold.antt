-- Which statuses an answer of `complete` can have, and what they tell.
use Rattle.std.proofs.Common.{◌≡◌, ℕ, inl, inr, List, sym, ◌∙◌, ap}
use Rattle.trio_io.specs.Outside.{ShelfView, SinkView, WritesAll}
use Rattle.trio_jobs.specs.declared.status.Status.{Status}
use Rattle.trio_jobs.specs.declared.status.Status.TheVariants as status
use Rattle.trio_jobs.specs.declared.fault.Fault.TheVariants as fault
use Rattle.trio_jobs.specs.Message.{message}
use Rattle.trio_jobs.specs.Call.{Call}
use Rattle.trio_jobs.specs.Answer.{IsDue, Answers, Finishes}
use Rattle.trio_jobs.specs.Load.{LoadFault}
use Rattle.trio_main.specs.Complete.{CompleteDue, CompleteTells, complete_job}
use Rattle.trio_jobs.proofs.FileFaults.{IsDueStatus, load_fault_of_file, of_file_status, fault_tells, read_status}

pub complete_status : (shelf : ShelfView) (s h : List ℕ) (n : ℕ) (st : Status) (text : List ℕ) → CompleteDue shelf s h n st text → IsDueStatus st
complete_status shelf s h n st text (inl x) = rw (x.status_is) (of_file_status x.named (load_fault_of_file shelf s h n x.named x.has))
complete_status shelf s h n st text (inr x) = rw (x.status_is) tt

-- where a file is not there the message says so
pub complete_read_text : (shelf : ShelfView) (s h : List ℕ) (n : ℕ) (text : List ℕ) → CompleteDue shelf s h n status.ReadFault text →
    text ≡ message fault.Read
complete_read_text shelf s h n text (inl x) = x.text_is ∙ ap message (read_status x.named (sym x.status_is))
complete_read_text shelf s h n text (inr x) = let wrong : status.ReadFault ≡ status.Done = x.status_is in cc

-- what the answer due tells, where it was written
complete_tells : (call : Call) (s h : List ℕ) (old new : SinkView) (st : Status) (text : List ℕ) → IsDue (complete_job s h) call st text →
    WritesAll old new text → CompleteTells call s h old new st
complete_tells call s h old new st text due wrote = elim (due.due) [
  | inl x ↦ elim (fault_tells (LoadFault call.before s h) call old new due.reads st text (load_fault_of_file call.before s h due.reads) x due.fetched due.kept wrote) [
    | inl told ↦ rw (told.0) told.1
    | inr read ↦ rw read tt
  ]
  | inr x ↦ rw (x.status_is) (record { text = text; lists = x.lists; written = wrote })
]

complete_answer_tells : (call : Call) (s h : List ℕ) (old new : SinkView) (st : Status) (text : List ℕ) → Answers (complete_job s h) call st text →
    WritesAll old new text → CompleteTells call s h old new st
complete_answer_tells call s h old new st text (inl x) wrote = complete_tells call s h old new st text x wrote
complete_answer_tells call s h old new st text (inr (inl x)) wrote = rw (x.status_is) tt
complete_answer_tells call s h old new st text (inr (inr x)) wrote = rw (x.status_is) tt

-- what a status tells of `complete`
pub complete_said : (call : Call) (s h : List ℕ) (old new : SinkView) (r : Status) → Finishes (complete_job s h) old new r call →
    CompleteTells call s h old new r
complete_said call s h old new r ends = elim (ends.3) [
  | inl said ↦ rw (said.0) (complete_answer_tells call s h old new ends.0 ends.1 ends.2 said.1)
  | inr failed ↦ rw (failed.0) tt
]
