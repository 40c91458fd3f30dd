-- What each status tells, in words, over a shelf that tells its files and a sink that tells what was written.
use Rattle.std.specs.Prelude.{◌≡◌, ◌↔◌, ◌⊎◌, ℕ, ◌+◌, ◌/◌, ◌%◌, ◌<◌, ◌≤◌, true, List, ◌++◌, Option, None, Some, length, map, codes, decimal}
use Rattle.std.specs.Cmp.Lexicographic.{slice_cmp}
use Rattle.std.specs.List.{Contains}
use Rattle.std.specs.List.Sorted.{IsStrictlySortedBy}
use Rattle.std.specs.Ordering.{nat_cmp}
use Rattle.trio_io.specs.Outside.{ShelfView, SinkView, Rose}
use Rattle.trio_types.specs.declared.spec.Spec.{Spec}
use Rattle.trio_types.specs.World.{World}
use Rattle.trio_types.specs.Verdict.{world_of}
use Rattle.trio_types.specs.Laws.{AllTrue, FirstFalse}
use Rattle.trio_reader.specs.declared.fault.SpecFault.{SpecFault}
use Rattle.trio_reader.specs.Reading.{IsSpecText, HasFault}
use Rattle.history_table.specs.declared.fault.HistFault.{HistFault}
use Rattle.history_table.specs.FittingLaws.{IsFirstUnknown}
use Rattle.history_table.specs.History.{IsGivenText, HasHistFault}
use Rattle.history_table.specs.Printed.{name_of_row}
use Rattle.history_table.specs.Texts.{list_text}
use Rattle.trio_jobs.specs.declared.status.Status.{Status}
use Rattle.trio_jobs.specs.declared.status.Status.TheVariants as status
use Rattle.trio_jobs.specs.declared.command.Command.{Command}
use Rattle.trio_jobs.specs.declared.command.Command.TheVariants as command
use Rattle.trio_jobs.specs.Answer.{Answers}
use Rattle.trio_jobs.specs.Call.{Call, KeepsFiles}
use Rattle.trio_jobs.specs.Check.{TellsCheck}
use Rattle.trio_jobs.specs.Command.{files_named, saved_name}
use Rattle.trio_jobs.specs.Fault.{spec_refusal, history_refusal}
use Rattle.trio_main.specs.Complete.{TellsComplete}
use Rattle.trio_main.specs.Laws.{IsTrueExtension}
use Rattle.trio_jobs.specs.Message.{usage_line, message}
use Rattle.trio_main.specs.Due.{job_of}
use Rattle.trio_main.specs.Tell.{Tells}

-- the file of this name is the text of this specification
pub record IsSpecFile (shelf : ShelfView) (name : List ℕ) (spec : Spec) : Type 0 where
  pub bytes : List ℕ
  pub there : shelf.file name ≡ Some bytes
  pub within : length bytes ≤ 262144
  pub reads : IsSpecText bytes spec

-- the file of this name is the text of this given history of the specification
pub record IsHistoryFile (shelf : ShelfView) (name : List ℕ) (spec : Spec) (given : List (Option ℕ)) : Type 0 where
  pub bytes : List ℕ
  pub there : shelf.file name ≡ Some bytes
  pub within : length bytes ≤ 1048576
  pub reads : IsGivenText (world_of spec) bytes given

-- every axiom of the one file is true throughout the history in the other, and `true` was written
pub record WroteTrue (shelf : ShelfView) (s h : List ℕ) (old new : SinkView) : Type 0 where
  pub spec : Spec
  pub table : List ℕ
  pub spec_file : IsSpecFile shelf s spec
  pub history_file : IsHistoryFile shelf h spec (map Some table)
  pub each_true : AllTrue spec table
  pub written : new.written ≡ old.written ++ codes "true\n"

-- an axiom is false there at an instant, all before is true, and the axiom's name and the instant were written
pub record WroteFalse (shelf : ShelfView) (s h : List ℕ) (old new : SinkView) : Type 0 where
  pub spec : Spec
  pub table : List ℕ
  pub number : ℕ
  pub instant : ℕ
  pub spec_file : IsSpecFile shelf s spec
  pub history_file : IsHistoryFile shelf h spec (map Some table)
  pub first : FirstFalse spec table number instant
  pub written : new.written ≡ old.written ++ (codes "false " ++ first.axiom_.name ++ codes " " ++ decimal instant ++ codes "\n")

-- just the tables that extend the given history and make the specification true were listed, in order and so each once
pub record WroteList (shelf : ShelfView) (s h : List ℕ) (old new : SinkView) : Type 0 where
  pub spec : Spec
  pub given : List (Option ℕ)
  pub tables : List (List ℕ)
  pub spec_file : IsSpecFile shelf s spec
  pub history_file : IsHistoryFile shelf h spec given
  pub each : (table : List ℕ) → Contains tables table ↔ IsTrueExtension spec given table
  pub in_order : IsStrictlySortedBy (slice_cmp nat_cmp) tables
  pub written : new.written ≡ old.written ++ list_text (world_of spec) tables

-- the file of this name is longer than it may be and this message says so, or its text is refused with this message
pub record IsRefused (most : ℕ) (long : List ℕ) (says : List ℕ → List ℕ → Type 0) (shelf : ShelfView) (name text : List ℕ) : Type 0 where
  pub bytes : List ℕ
  pub there : shelf.file name ≡ Some bytes
  pub why : ((most < length bytes) × (text ≡ long)) ⊎ ((length bytes ≤ most) × says bytes text)

-- the text is the message of the first fault of these bytes
abbrev pub SaysSpecFault : List ℕ → List ℕ → Type 0
SaysSpecFault bytes text = (g : SpecFault) × HasFault bytes g × (text ≡ message (spec_refusal g))

abbrev pub SaysHistoryFault : World → List ℕ → List ℕ → Type 0
SaysHistoryFault world bytes text = (g : HistFault) × HasHistFault world bytes g × (text ≡ message (history_refusal world g))

abbrev pub SpecRefused : ShelfView → List ℕ → List ℕ → Type 0
SpecRefused shelf name text = IsRefused 262144 (codes "refused spec long\n") SaysSpecFault shelf name text

abbrev pub HistoryRefused : World → ShelfView → List ℕ → List ℕ → Type 0
HistoryRefused world shelf name text = IsRefused 1048576 (codes "refused history long\n") (SaysHistoryFault world) shelf name text

-- the specification is read, and the history is refused
pub record LaterRefused (shelf : ShelfView) (s h text : List ℕ) : Type 0 where
  pub spec : Spec
  pub spec_file : IsSpecFile shelf s spec
  pub refused : HistoryRefused (world_of spec) shelf h text

-- both are read, and this names the first cell whose value is not known
pub record NamesUnknown (shelf : ShelfView) (s h text : List ℕ) : Type 0 where
  pub spec : Spec
  pub given : List (Option ℕ)
  pub cell : ℕ
  pub spec_file : IsSpecFile shelf s spec
  pub history_file : IsHistoryFile shelf h spec given
  pub first : IsFirstUnknown given cell
  pub named : text ≡ (codes "unknown " ++ name_of_row (world_of spec) (cell / spec.instants) ++ codes " ") ++ decimal (cell % spec.instants) ++ codes "\n"

-- a text was refused with this message, for which so many files were fetched
abbrev pub LoadRefused : ShelfView → List ℕ → List ℕ → ℕ → List ℕ → Type 0
LoadRefused shelf s h reads text = ((reads ≡ 1) × SpecRefused shelf s text) ⊎ ((reads ≡ 2) × LaterRefused shelf s h text)

abbrev pub CheckRefused : ShelfView → List ℕ → List ℕ → ℕ → List ℕ → Type 0
CheckRefused shelf s h reads text = LoadRefused shelf s h reads text ⊎ ((reads ≡ 2) × NamesUnknown shelf s h text)

-- the message of such a refusal was written, no more calls of the shelf were counted than it has files, and none changed
pub record WroteRefusal (refused : ℕ → List ℕ → Type 0) (call : Call) (old new : SinkView) : Type 0 where
  pub reads : ℕ
  pub text : List ℕ
  pub why : refused reads text
  pub fetched : call.now.counts.calls ≤ call.before.counts.calls + reads
  pub kept : KeepsFiles call
  pub written : new.written ≡ old.written ++ text

-- what holds of a status of `check`, and of `complete`, where shelf and sink tell
abbrev pub OfCheck : Status → (Call → List ℕ → List ℕ → SinkView → SinkView → Type 0) → Type 0
OfCheck s says = (call : Call) (spec_name history_name : List ℕ) (old new : SinkView) → call.before.tells ≡ true → old.tells ≡ true →
    TellsCheck (Some (command.Check spec_name history_name)) call old new s → says call spec_name history_name old new

abbrev pub OfComplete : Status → (Call → List ℕ → List ℕ → SinkView → SinkView → Type 0) → Type 0
OfComplete s says = (call : Call) (spec_name history_name : List ℕ) (old new : SinkView) → call.before.tells ≡ true → old.tells ≡ true →
    TellsComplete (Some (command.Complete spec_name history_name)) call old new s → says call spec_name history_name old new

abbrev pub CheckTrueLaw : Type 0
CheckTrueLaw = OfCheck status.Done (λ call s h old new. WroteTrue call.before s h old new)

abbrev pub CheckFalseLaw : Type 0
CheckFalseLaw = OfCheck status.False (λ call s h old new. WroteFalse call.before s h old new)

abbrev pub CompleteLaw : Type 0
CompleteLaw = OfComplete status.Done (λ call s h old new. WroteList call.before s h old new)

-- `complete` never ends with status 1
abbrev pub NeverFalseLaw : Type 0
NeverFalseLaw = OfComplete status.False (λ call s h old new. ⊥)

abbrev pub CheckRefusedLaw : Type 0
CheckRefusedLaw = OfCheck status.Refused (λ call s h old new. WroteRefusal (CheckRefused call.before s h) call old new)

abbrev pub CompleteRefusedLaw : Type 0
CompleteRefusedLaw = OfComplete status.Refused (λ call s h old new. WroteRefusal (LoadRefused call.before s h) call old new)

-- one of the two files that the command reads is of this name
abbrev pub IsRead : Command → List ℕ → Type 0
IsRead (command.Check s h) name = (name ≡ s) ⊎ (name ≡ h)
IsRead (command.Complete s h) name = (name ≡ s) ⊎ (name ≡ h)

-- the name of the first of them
abbrev pub first_read : Command → List ℕ
first_read (command.Check s h) = s
first_read (command.Complete s h) = s

-- a file that the command reads is not there, and the absence was counted
pub record IsNotThere (c : Command) (call : Call) : Type 0 where
  pub name : List ℕ
  pub is_read : IsRead c name
  pub none : call.before.file name ≡ None
  pub counted : Rose call.before.counts.absences call.now.counts.absences

-- A fetch failed, which was counted: at most one file was fetched, or the first is a specification and at most two were.
pub record IsFetchFailed (c : Command) (call : Call) : Type 0 where
  pub counted : Rose call.before.counts.failed_fetches call.now.counts.failed_fetches
  pub reads : ℕ
  pub fetched : call.now.counts.calls ≤ call.before.counts.calls + reads
  pub in_turn : (reads ≡ 1) ⊎ ((reads ≡ 2) × ((spec : Spec) × IsSpecFile call.before (first_read c) spec))

-- a file could not be read, for a cause that was counted, and none changed
pub record WroteUnread (asked : Option Command) (call : Call) (old new : SinkView) : Type 0 where
  pub c : Command
  pub is : asked ≡ Some c
  pub cause : IsFetchFailed c call ⊎ IsNotThere c call
  pub kept : KeepsFiles call
  pub written : new.written ≡ old.written ++ codes "fault read\n"

-- a write failed, which was counted, and of the text of an answer with its cause a front went out that is not the whole
pub record WroteFront (asked : Option Command) (call : Call) (old new : SinkView) : Type 0 where
  pub counted : Rose old.faults new.faults
  pub status : Status
  pub front : List ℕ
  pub rest : List ℕ
  pub answers : Answers (job_of asked) call status (front ++ rest)
  pub unfinished : 0 < length rest
  pub written : new.written ≡ old.written ++ front

-- what holds of a status of any command, where shelf and sink tell
abbrev pub OfAny : Status → (Option Command → Call → SinkView → SinkView → Type 0) → Type 0
OfAny s says = (asked : Option Command) (call : Call) (old new : SinkView) → call.before.tells ≡ true → old.tells ≡ true →
    Tells asked call old new s → says asked call old new

abbrev pub UsageLaw : Type 0
UsageLaw = OfAny status.Usage (λ asked call old new. (asked ≡ None) × KeepsFiles call × (new.written ≡ old.written ++ usage_line))

abbrev pub UnreadLaw : Type 0
UnreadLaw = OfAny status.ReadFault WroteUnread

abbrev pub UnwrittenLaw : Type 0
UnwrittenLaw = OfAny status.WriteFault WroteFront

abbrev pub MemoryLaw : Type 0
MemoryLaw = OfAny status.Memory (λ asked call old new. KeepsFiles call × (new.written ≡ old.written ++ codes "fault memory\n"))

-- no call ends stopped, or with a file that could not be saved
abbrev pub NeverLaw : Type 0
NeverLaw = (asked : Option Command) (call : Call) (old new : SinkView) →
    (Tells asked call old new status.Stopped → ⊥) × (Tells asked call old new status.SaveFault → ⊥)

-- two calls of `check` wrote `true` one behind the other, and every axiom is true throughout the history that the shelf told before the first
pub record WroteTrueTwice (shelf : ShelfView) (s h : List ℕ) (old new : SinkView) : Type 0 where
  pub spec : Spec
  pub table : List ℕ
  pub spec_file : IsSpecFile shelf s spec
  pub history_file : IsHistoryFile shelf h spec (map Some table)
  pub each_true : AllTrue spec table
  pub written : new.written ≡ old.written ++ codes "true\n" ++ codes "true\n"

-- what two calls with these words tell, where both end with status 0: the first begins with `shelf` and `old`, the second ends with `new`
abbrev pub JudgesTwice : Option Command → ShelfView → SinkView → SinkView → Status → Status → Type 0
JudgesTwice asked shelf old new first second = (s h : List ℕ) → asked ≡ Some (command.Check s h) → shelf.tells ≡ true → old.tells ≡ true →
    first ≡ status.Done → second ≡ status.Done → WroteTrueTwice shelf s h old new

-- each command has places for two files, and none saves a file yet
abbrev pub TwoFilesLaw : Type 0
TwoFilesLaw = (c : Command) → files_named (Some c) ≡ 2

abbrev pub SavesNoneLaw : Type 0
SavesNoneLaw = (asked : Option Command) → saved_name asked ≡ None
