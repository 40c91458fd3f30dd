-- What each status tells, from the one answer of the top call, for every command.
use Rattle.std.proofs.Common.{◌≡◌, ℕ, ◌⊎◌, inl, inr, true, List, Option, None, Some, refl, sym, ◌∙◌, arith}
use Rattle.trio_io.specs.Outside.{SinkView, StaysSink, Rose, WritesAll}
use Rattle.trio_reader.specs.Laws.{OneSpecification, OneFault, FaultyIsNone}
use Rattle.history_table.specs.History.{OneHistory}
use Rattle.trio_jobs.specs.declared.status.Status.{Status}
use Rattle.trio_jobs.specs.declared.status.Status.TheVariants as status
use Rattle.trio_jobs.specs.declared.fault.Fault.TheVariants as fault
use Rattle.trio_jobs.specs.declared.command.Command.{Command}
use Rattle.trio_jobs.specs.declared.command.Command.TheVariants as command
use Rattle.trio_jobs.specs.Call.{Call, call_of}
use Rattle.trio_jobs.specs.Check.{TellsCheck}
use Rattle.trio_jobs.specs.Message.{message, usage_line}
use Rattle.trio_jobs.specs.Answer.{IsDue, Answers, Finishes}
use Rattle.trio_jobs.proofs.Facts.{IsJob, IsOne, check_is_job}
use Rattle.trio_jobs.proofs.CheckTold.{check_said}
use Rattle.trio_main.specs.Complete.{TellsComplete}
use Rattle.trio_main.specs.Due.{job_of}
use Rattle.trio_main.specs.Tell.{Tells, GivesDue}
use Rattle.trio_main.proofs.CompleteOne.{complete_is_job}
use Rattle.trio_main.proofs.CompleteTold.{complete_said}

-- what is known of each command
is_job : (c : Command) → IsJob (job_of (Some c))
is_job (command.Check s h) = check_is_job s h
is_job (command.Complete s h) = complete_is_job s h

-- no answer is a failed write
due_no_write : (asked : Option Command) (call : Call) (text : List ℕ) → IsDue (job_of asked) call status.WriteFault text → ⊥
due_no_write None call text x = let wrong : status.WriteFault ≡ status.Usage = x.due.status_is in cc
due_no_write (Some c) call text x = (is_job c).statuses call.before x.reads status.WriteFault text x.due

pub no_write : (asked : Option Command) (call : Call) (text : List ℕ) → Answers (job_of asked) call status.WriteFault text → ⊥
no_write asked call text (inl x) = due_no_write asked call text x
no_write asked call text (inr (inl x)) = let wrong : status.WriteFault ≡ status.ReadFault = x.status_is in cc
no_write asked call text (inr (inr x)) = let wrong : status.WriteFault ≡ status.Memory = x.status_is in cc

-- the usage line that was written
usage_tells : (call : Call) (old new : SinkView) (s : Status) (text : List ℕ) → IsDue (job_of None) call s text → WritesAll old new text →
    Tells None call old new s
usage_tells call old new s text x wrote =
    rw (x.due.status_is) (record { no_command = refl; kept = x.kept; written = rw (← x.due.text_is) wrote })

-- a command's answer due that was written
due_tells : (c : Command) (call : Call) (old new : SinkView) (s : Status) (text : List ℕ) → IsDue (job_of (Some c)) call s text →
    WritesAll old new text → Tells (Some c) call old new s
due_tells c call old new status.Done text x wrote =
    record { reads = x.reads; text = text; due = x.due; fetched = x.fetched; kept = x.kept; written = wrote }
due_tells c call old new status.False text x wrote =
    record { reads = x.reads; text = text; due = x.due; fetched = x.fetched; kept = x.kept; written = wrote }
due_tells c call old new status.Usage text x wrote = absurd ((is_job c).statuses call.before x.reads status.Usage text x.due)
due_tells c call old new status.Stopped text x wrote = (is_job c).statuses call.before x.reads status.Stopped text x.due
due_tells c call old new status.Refused text x wrote =
    record { reads = x.reads; text = text; due = x.due; fetched = x.fetched; kept = x.kept; written = wrote }
due_tells c call old new status.ReadFault text x wrote =
    let is = (is_job c).read_text call.before x.reads text x.due in
    record {
      cause = inr (record { counted = x.absent refl; reads = x.reads; due = rw is at x.due; fetched = x.fetched });
      kept = x.kept;
      written = rw is at wrote;
    }
due_tells c call old new status.WriteFault text x wrote = absurd ((is_job c).statuses call.before x.reads status.WriteFault text x.due)
due_tells c call old new status.Memory text x wrote = absurd ((is_job c).statuses call.before x.reads status.Memory text x.due)
due_tells c call old new status.SaveFault text x wrote = (is_job c).statuses call.before x.reads status.SaveFault text x.due

answer_due_tells : (asked : Option Command) (call : Call) (old new : SinkView) (s : Status) (text : List ℕ) → IsDue (job_of asked) call s text →
    WritesAll old new text → Tells asked call old new s
answer_due_tells None call old new s text x wrote = usage_tells call old new s text x wrote
answer_due_tells (Some c) call old new s text x wrote = due_tells c call old new s text x wrote

answer_tells : (asked : Option Command) (call : Call) (old new : SinkView) (s : Status) (text : List ℕ) → Answers (job_of asked) call s text →
    WritesAll old new text → Tells asked call old new s
answer_tells asked call old new s text (inl x) wrote = answer_due_tells asked call old new s text x wrote
answer_tells asked call old new s text (inr (inl x)) wrote =
    rw (x.status_is) (record {
      cause = inl (record { counted = x.counted; reads = x.reads; reached = x.reached; fetched = x.fetched });
      kept = x.kept;
      written = rw (x.text_is) at wrote;
    })
answer_tells asked call old new s text (inr (inr x)) wrote = rw (x.status_is) (record { kept = x.kept; written = rw (x.text_is) at wrote })

pub tells : (asked : Option Command) (call : Call) (old new : SinkView) (r : Status) → Finishes (job_of asked) old new r call →
    Tells asked call old new r
tells asked call old new r ends =
    elim (ends.3) [
      | inl said ↦ rw (said.0) (answer_tells asked call old new ends.0 ends.1 ends.2 said.1)
      | inr failed ↦ rw (failed.0) (record { status = ends.0; text = ends.1; answers = ends.2; part = failed.1 })
    ]

-- what a status tells of each command
pub tells_check : (asked : Option Command) (call : Call) (old new : SinkView) (r : Status) → Finishes (job_of asked) old new r call →
    TellsCheck asked call old new r
tells_check asked call old new r ends = λ s h is. check_said call s h old new r (rw is at ends)

pub tells_complete : (asked : Option Command) (call : Call) (old new : SinkView) (r : Status) → Finishes (job_of asked) old new r call →
    TellsComplete asked call old new r
tells_complete asked call old new r ends = λ s h is. complete_said call s h old new r (rw is at ends)

-- the sink stays what it is
pub stays : (asked : Option Command) (call : Call) (old new : SinkView) (r : Status) → Finishes (job_of asked) old new r call → StaysSink old new
stays asked call old new r ends = elim (ends.3) [ inl said ↦ said.1.stays | inr failed ↦ failed.1.stays ]

-- words that are no command
none_answers : (call : Call) (s : Status) (text : List ℕ) → Answers (job_of None) call s text → (s ≡ status.Usage) ⊎ (s ≡ status.Memory)
none_answers call s text (inl x) = inl x.due.status_is
none_answers call s text (inr (inl x)) = absurd x.reached
none_answers call s text (inr (inr x)) = inr x.status_is

pub none_ends : (asked : Option Command) (call : Call) (old new : SinkView) (r : Status) → Finishes (job_of asked) old new r call →
    asked ≡ None → (r ≡ status.Usage) ⊎ ((r ≡ status.WriteFault) ⊎ (r ≡ status.Memory))
none_ends asked call old new r ends none =
    elim (ends.3) [
      | inl said ↦ elim (none_answers call ends.0 ends.1 (rw none at ends.2)) [
        | inl usage ↦ inl (said.0 ∙ usage)
        | inr memory ↦ inr (inr (said.0 ∙ memory))
      ]
      | inr failed ↦ inr (inl failed.0)
    ]

-- what is known of the readers
module _ (one_spec : OneSpecification) (one_fault : OneFault) (none : FaultyIsNone) (one_history : OneHistory) where
  -- for told files one answer is due
  due_one : (asked : Option Command) → IsOne (job_of asked)
  due_one None shelf m n s t x y told a b = (a.status_is ∙ sym b.status_is, a.text_is ∙ sym b.text_is)
  due_one (Some c) shelf m n s t x y told a b = (is_job c).one one_spec one_fault none one_history shelf m n s t x y told a b

  given_due : (asked : Option Command) (call : Call) (old new : SinkView) (n : ℕ) (r s t : Status) (x y : List ℕ) →
      Answers (job_of asked) call s x → r ≡ s → WritesAll old new x → call.before.tells ≡ true → (job_of asked).due call.before n t y →
      (Rose call.before.counts.failed_fetches call.now.counts.failed_fetches → ⊥) → ((r ≡ t) × WritesAll old new y) ⊎ (r ≡ status.Memory)
  given_due asked call old new n r s t x y (inl a) same wrote told due calm =
      let one = due_one asked call.before a.reads n s t x y told a.due due in inl (same ∙ one.0, rw (one.1) at wrote)
  given_due asked call old new n r s t x y (inr (inl a)) same wrote told due calm = absurd (calm a.counted)
  given_due asked call old new n r s t x y (inr (inr a)) same wrote told due calm = inr (same ∙ a.status_is)

  -- where nothing fails, the answer due is given
  pub gives_due : (asked : Option Command) (call : Call) (old new : SinkView) (r : Status) → Finishes (job_of asked) old new r call →
      GivesDue asked call old new r
  gives_due asked call old new r ends = λ n t y told due calm quiet.
      elim (ends.3) [
        | inl said ↦ given_due asked call old new n r ends.0 t ends.1 y ends.2 said.0 said.1 told due calm
        | inr failed ↦ absurd (quiet failed.1.counted)
      ]
