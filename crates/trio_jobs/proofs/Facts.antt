-- What all that is said of every command asks of one.
use Rattle.std.proofs.Common.{◌≡◌, ℕ, true, List}
use Rattle.trio_io.specs.Outside.{ShelfView}
use Rattle.trio_reader.specs.Laws.{OneSpecification, OneFault, FaultyIsNone}
use Rattle.history_table.specs.History.{OneHistory}
use Rattle.trio_jobs.specs.declared.status.Status.{Status}
use Rattle.trio_jobs.specs.declared.status.Status.TheVariants as status
use Rattle.trio_jobs.specs.declared.fault.Fault.TheVariants as fault
use Rattle.trio_jobs.specs.Job.{Job}
use Rattle.trio_jobs.specs.Message.{message}
use Rattle.trio_jobs.proofs.FileFaults.{IsDueStatus}
use Rattle.trio_jobs.proofs.CheckOne.{check_one}
use Rattle.trio_jobs.proofs.CheckTold.{check_status, check_read_text}
use Rattle.trio_jobs.specs.Check.{check_job}

-- for told files one answer is due
abbrev pub IsOne : Job → Type 0
IsOne job = (shelf : ShelfView) (m n : ℕ) (s t : Status) (x y : List ℕ) → shelf.tells ≡ true → job.due shelf m s x → job.due shelf n t y →
    (s ≡ t) × (x ≡ y)

-- the statuses of an answer due, its text where a file is not there, and, since texts have one reading, that it is one
pub record IsJob (job : Job) : Type 0 where
  pub statuses : (shelf : ShelfView) (n : ℕ) (s : Status) (text : List ℕ) → job.due shelf n s text → IsDueStatus s
  pub read_text : (shelf : ShelfView) (n : ℕ) (text : List ℕ) → job.due shelf n status.ReadFault text → text ≡ message fault.Read
  pub one : OneSpecification → OneFault → FaultyIsNone → OneHistory → IsOne job

pub check_is_job : (s h : List ℕ) → IsJob (check_job s h)
check_is_job s h = record {
  statuses = λ shelf n st text due. check_status shelf s h n st text due;
  read_text = λ shelf n text due. check_read_text shelf s h n text due;
  one = λ one_spec one_fault none one_history shelf m n st su x y told a b.
      check_one one_spec one_fault none one_history shelf s h m n st su x y told a b;
}
