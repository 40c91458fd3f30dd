-- `complete`: every complete history that extends a given one and makes the specification true.
use Rattle.std.specs.Prelude.{◌≡◌, ℕ, ◌⊎◌, Bool, ◌&&◌, List, filter, Option, Some}
use Rattle.trio_io.specs.Outside.{ShelfView, SinkView, WritesAll}
use Rattle.trio_types.specs.declared.spec.Spec.{Spec}
use Rattle.trio_types.specs.Verdict.{world_of, is_true_in}
use Rattle.history_table.specs.Fitting.{extends}
use Rattle.history_table.specs.Texts.{list_text}
use Rattle.trio_types.specs.Tables.{all_tables}
use Rattle.trio_jobs.specs.declared.status.Status.{Status}
use Rattle.trio_jobs.specs.declared.status.Status.TheVariants as status
use Rattle.trio_jobs.specs.declared.command.Command.{Command}
use Rattle.trio_jobs.specs.declared.command.Command.TheVariants as command
use Rattle.trio_jobs.specs.Message.{SaysFault}
use Rattle.trio_jobs.specs.Call.{Call}
use Rattle.trio_jobs.specs.Job.{Job}
use Rattle.trio_jobs.specs.Load.{LoadFault, LoadReaches, IsLoaded}
use Rattle.trio_jobs.specs.Refusal.{TellsRefused}

-- a table extends the given history and makes the specification true
abbrev pub completes : Spec → List (Option ℕ) → List ℕ → Bool
completes spec given table = extends given table && is_true_in spec table

-- all tables that do, in the order of lists of indexes, cell 0 first
unfoldable pub completions : Spec → List (Option ℕ) → List (List ℕ)
completions spec given = filter (completes spec given) (all_tables (world_of spec))

-- how many there are, and the text of each behind its number
abbrev pub completions_text : Spec → List (Option ℕ) → List ℕ
completions_text spec given = list_text (world_of spec) (completions spec given)

-- the files are a specification and a history of it, and this is the list of completions
pub record IsCompletion (shelf : ShelfView) (spec_name history_name : List ℕ) (text : List ℕ) : Type 0 where
  pub spec : Spec
  pub given : List (Option ℕ)
  pub loaded : IsLoaded shelf spec_name history_name spec given
  pub is : text ≡ completions_text spec given

-- the answer is that list
pub record IsCompleted (shelf : ShelfView) (spec_name history_name : List ℕ) (reads : ℕ) (s : Status) (text : List ℕ) : Type 0 where
  pub lists : IsCompletion shelf spec_name history_name text
  pub status_is : s ≡ status.Done
  pub reads_both : reads ≡ 2

-- what `complete` answers and writes: the message of the first fault of the files, or the list
abbrev pub CompleteDue : ShelfView → List ℕ → List ℕ → ℕ → Status → List ℕ → Type 0
CompleteDue shelf spec_name history_name reads s text =
    SaysFault (LoadFault shelf spec_name history_name reads) s text ⊎ IsCompleted shelf spec_name history_name reads s text

-- what `complete` is to do
abbrev pub complete_job : List ℕ → List ℕ → Job
complete_job spec_name history_name = record {
  due = λ shelf. CompleteDue shelf spec_name history_name;
  reaches = λ shelf. LoadReaches shelf spec_name;
}

-- status 0: the list of completions was written
pub record TellsCompletions (shelf : ShelfView) (spec_name history_name : List ℕ) (old new : SinkView) : Type 0 where
  pub text : List ℕ
  pub lists : IsCompletion shelf spec_name history_name text
  pub written : WritesAll old new text

-- What a status tells of `complete` and its files. It finds nothing false, is never answered with the usage line, nor stopped, and saves nothing;
-- what failed fetches, failed writes and want of memory tell is said of every command.
abbrev pub CompleteTells : Call → List ℕ → List ℕ → SinkView → SinkView → Status → Type 0
CompleteTells call spec_name history_name old new status.Done = TellsCompletions call.before spec_name history_name old new
CompleteTells call spec_name history_name old new status.False = ⊥
CompleteTells call spec_name history_name old new status.Usage = ⊥
CompleteTells call spec_name history_name old new status.Stopped = ⊥
CompleteTells call spec_name history_name old new status.Refused = TellsRefused (LoadFault call.before spec_name history_name) call old new
CompleteTells call spec_name history_name old new status.ReadFault = Unit {0}
CompleteTells call spec_name history_name old new status.WriteFault = Unit {0}
CompleteTells call spec_name history_name old new status.Memory = Unit {0}
CompleteTells call spec_name history_name old new status.SaveFault = ⊥

-- what a status tells where the command is `complete`
abbrev pub TellsComplete : Option Command → Call → SinkView → SinkView → Status → Type 0
TellsComplete asked call old new s =
    (spec_name history_name : List ℕ) → asked ≡ Some (command.Complete spec_name history_name) → CompleteTells call spec_name history_name old new s
