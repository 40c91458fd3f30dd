-- `check`: whether a history satisfies a specification.
use Rattle.std.specs.Prelude.{◌≡◌, ℕ, ◌⊎◌, List, [], ◌++◌, Option, None, Some, map, slice_get, codes, decimal, Result, Ok, Err}
use Rattle.trio_io.specs.Outside.{ShelfView, SinkView, WritesAll}
use Rattle.trio_types.specs.declared.spec.Axiom.{Axiom}
use Rattle.trio_types.specs.declared.spec.Spec.{Spec}
use Rattle.trio_types.specs.World.{World}
use Rattle.trio_types.specs.Verdict.{world_of, first_false}
use Rattle.history_check.specs.declared.checker.Verdict.{Verdict}
use Rattle.history_check.specs.declared.checker.Verdict.TheVariants as verdict
use Rattle.history_check.specs.Answers.{verdict_of}
use Rattle.history_table.specs.Fitting.{first_unknown}
use Rattle.trio_jobs.specs.declared.answer.Answer.{Answer}
use Rattle.trio_jobs.specs.declared.status.Status.{Status}
use Rattle.trio_jobs.specs.declared.status.Status.TheVariants as status
use Rattle.trio_jobs.specs.declared.fault.Fault.{Fault}
use Rattle.trio_jobs.specs.declared.fault.Fault.TheVariants as fault
use Rattle.trio_jobs.specs.declared.command.Command.{Command}
use Rattle.trio_jobs.specs.declared.command.Command.TheVariants as command
use Rattle.trio_jobs.specs.Row.{row_of, instant_of}
use Rattle.history_table.specs.Printed.{name_of_row}
use Rattle.trio_jobs.specs.Message.{SaysFault}
use Rattle.trio_jobs.specs.Text.{text_of}
use Rattle.trio_jobs.specs.Call.{Call}
use Rattle.trio_jobs.specs.Job.{Job}
use Rattle.trio_jobs.specs.Load.{LoadFault, LoadReaches, IsLoaded}
use Rattle.trio_jobs.specs.Refusal.{TellsRefused}

-- the line that says that a specification is true
abbrev pub true_line : List ℕ
true_line = codes "true\n"

-- the axiom's name; empty where there is no axiom
abbrev pub name_of : Option Axiom → List ℕ
name_of None = []
name_of (Some a) = a.name

-- the line that says that it is false, with the name of the axiom of this number and the instant
abbrev pub false_line : Spec → ℕ → ℕ → List ℕ
false_line spec number instant =
    codes "false " ++ name_of (slice_get spec.axioms number) ++ codes " " ++ decimal instant ++ codes "\n"

-- the status of a verdict
abbrev pub verdict_status : Verdict → Status
verdict_status verdict.True = status.Done
verdict_status (verdict.False number instant) = status.False

-- the line of a verdict
abbrev pub verdict_text : Spec → Verdict → List ℕ
verdict_text spec verdict.True = true_line
verdict_text spec (verdict.False number instant) = false_line spec number instant

-- the answer is this verdict
pub record SaysVerdict (spec : Spec) (v : Verdict) (s : Status) (text : List ℕ) : Type 0 where
  pub status_is : s ≡ verdict_status v
  pub text_is : text ≡ verdict_text spec v

-- the fault that names a cell
abbrev pub unknown_fault : World → ℕ → Fault
unknown_fault world cell = fault.Unknown (name_of_row world (row_of world cell)) (instant_of world cell)

-- the fault that names the first cell of a given history whose value is not known
pub record IsUnknown (spec : Spec) (given : List (Option ℕ)) (f : Fault) : Type 0 where
  pub cell : ℕ
  pub first : first_unknown given ≡ Some cell
  pub is : f ≡ unknown_fault (world_of spec) cell

-- the answer is the verdict on a given history in which every value is known
pub record IsVerdictOn (spec : Spec) (given : List (Option ℕ)) (s : Status) (text : List ℕ) : Type 0 where
  pub table : List ℕ
  pub known : given ≡ map Some table
  pub says : SaysVerdict spec (verdict_of (first_false spec table)) s text

-- the verdict on a given history, the fault that names its first unknown cell, or want of memory
abbrev pub Judges : Spec → List (Option ℕ) → Result Answer Fault → Type 0
Judges spec given (Ok answer) = IsVerdictOn spec given answer.status (text_of answer)
Judges spec given (Err f) = (f ≡ fault.Memory) ⊎ IsUnknown spec given f

-- a history that is read and has a cell whose value is not known
pub record UnknownFault (shelf : ShelfView) (spec_name history_name : List ℕ) (f : Fault) : Type 0 where
  pub spec : Spec
  pub given : List (Option ℕ)
  pub loaded : IsLoaded shelf spec_name history_name spec given
  pub unknown : IsUnknown spec given f

-- the first fault of `check`, and how many files it takes to find it
abbrev pub CheckFault : ShelfView → List ℕ → List ℕ → ℕ → Fault → Type 0
CheckFault shelf spec_name history_name reads f =
    LoadFault shelf spec_name history_name reads f ⊎ ((reads ≡ 2) × UnknownFault shelf spec_name history_name f)

-- the files are a specification and a history of it in which every value is known, and this is the verdict
pub record IsVerdict (shelf : ShelfView) (spec_name history_name : List ℕ) (spec : Spec) (v : Verdict) : Type 0 where
  pub table : List ℕ
  pub loaded : IsLoaded shelf spec_name history_name spec (map Some table)
  pub is : v ≡ verdict_of (first_false spec table)

-- the answer is the verdict
pub record IsJudged (shelf : ShelfView) (spec_name history_name : List ℕ) (reads : ℕ) (s : Status) (text : List ℕ) : Type 0 where
  pub spec : Spec
  pub v : Verdict
  pub verdict : IsVerdict shelf spec_name history_name spec v
  pub says : SaysVerdict spec v s text
  pub reads_both : reads ≡ 2

-- what `check` answers and writes: the message of the first fault, or the verdict
abbrev pub CheckDue : ShelfView → List ℕ → List ℕ → ℕ → Status → List ℕ → Type 0
CheckDue shelf spec_name history_name reads s text =
    SaysFault (CheckFault shelf spec_name history_name reads) s text ⊎ IsJudged shelf spec_name history_name reads s text

-- what `check` is to do
abbrev pub check_job : List ℕ → List ℕ → Job
check_job spec_name history_name = record {
  due = λ shelf. CheckDue shelf spec_name history_name;
  reaches = λ shelf. LoadReaches shelf spec_name;
}

-- status 0: the specification is true in the history
pub record TellsTrue (shelf : ShelfView) (spec_name history_name : List ℕ) (old new : SinkView) : Type 0 where
  pub spec : Spec
  pub holds : IsVerdict shelf spec_name history_name spec verdict.True
  pub written : WritesAll old new true_line

-- status 1: it is false, and its first false axiom and instant were written
pub record TellsFalse (shelf : ShelfView) (spec_name history_name : List ℕ) (old new : SinkView) : Type 0 where
  pub spec : Spec
  pub number : ℕ
  pub instant : ℕ
  pub fails : IsVerdict shelf spec_name history_name spec (verdict.False number instant)
  pub written : WritesAll old new (false_line spec number instant)

-- What a status tells of `check` and its files. It is never answered with the usage line, nor stopped, and saves nothing; what failed fetches,
-- failed writes and want of memory tell is said of every command.
abbrev pub CheckTells : Call → List ℕ → List ℕ → SinkView → SinkView → Status → Type 0
CheckTells call spec_name history_name old new status.Done = TellsTrue call.before spec_name history_name old new
CheckTells call spec_name history_name old new status.False = TellsFalse call.before spec_name history_name old new
CheckTells call spec_name history_name old new status.Usage = ⊥
CheckTells call spec_name history_name old new status.Stopped = ⊥
CheckTells call spec_name history_name old new status.Refused = TellsRefused (CheckFault call.before spec_name history_name) call old new
CheckTells call spec_name history_name old new status.ReadFault = Unit {0}
CheckTells call spec_name history_name old new status.WriteFault = Unit {0}
CheckTells call spec_name history_name old new status.Memory = Unit {0}
CheckTells call spec_name history_name old new status.SaveFault = ⊥

-- what a status tells where the command is `check`
abbrev pub TellsCheck : Option Command → Call → SinkView → SinkView → Status → Type 0
TellsCheck asked call old new s =
    (spec_name history_name : List ℕ) → asked ≡ Some (command.Check spec_name history_name) → CheckTells call spec_name history_name old new s
