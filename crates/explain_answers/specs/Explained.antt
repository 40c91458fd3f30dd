-- What is said of a command, with its status and its cause. `before` and `now` are the shelf before and after the call, `old` and `new` the
-- sink.
use Rattle.std.specs.Prelude.{◌≡◌, ℕ, ◌≤◌, ◌⊎◌, Bool, true, false, List, ◌++◌, length, map, Option, None, Some, codes}
use Rattle.trio_base.specs.declared.limits.TheConstants.{MOST_SPEC_BYTES, MOST_HISTORY_BYTES}
use Rattle.trio_io.specs.Outside.{ShelfView, SinkView, Rose, Holds, IsLonger, HasFetchCause, WritesAll, WritesPart}
use Rattle.trio_text.specs.declared.token.Token.{Token}
use Rattle.trio_types.specs.declared.spec.Spec.{Spec}
use Rattle.trio_types.specs.World.{World}
use Rattle.trio_types.specs.Verdict.{world_of, first_false}
use Rattle.trio_reader.specs.declared.fault.SpecFault.{SpecFault}
use Rattle.trio_reader.specs.Reading.{IsSpecText, HasFault}
use Rattle.history_table.specs.declared.fault.HistFault.{HistFault}
use Rattle.history_table.specs.History.{IsGivenText, HasHistFault}
use Rattle.history_table.specs.Fitting.{first_unknown}
use Rattle.explain_answers.specs.declared.command.Task.{Task}
use Rattle.explain_answers.specs.declared.command.Task.TheVariants as task
use Rattle.explain_answers.specs.declared.status.Status.{Status}
use Rattle.explain_answers.specs.declared.status.Status.TheVariants as status
use Rattle.explain_answers.specs.Command.{Asked}
use Rattle.explain_answers.specs.Sources.{AreTokensOf}
use Rattle.explain_answers.specs.Said.{BeginsWith}
use Rattle.explain_answers.specs.LimitWords.{too_long_line}
use Rattle.explain_answers.specs.SpecWords.{SaysSpecFault}
use Rattle.explain_answers.specs.HistoryWords.{SaysHistoryFault}
use Rattle.explain_answers.specs.VerdictWords.{true_line, false_words, unknown_line, readable_line}

abbrev pub usage_line : List ℕ
usage_line = codes "usage: trio_explain check SPEC HIST | complete SPEC HIST\n"

abbrev pub memory_line : List ℕ
memory_line = codes "there is not memory enough\n"

-- the line on a file that is not there, or cannot be read
abbrev pub unread_line : List ℕ → List ℕ
unread_line name = name ++ codes ": there is no such file, or it cannot be read\n"

-- the most bytes of a specification, or of a history
abbrev pub most_bytes : Bool → ℕ
most_bytes true = MOST_SPEC_BYTES
most_bytes false = MOST_HISTORY_BYTES

-- a file within its limit has these bytes; where the shelf does not tell its files, it is only said that they are within the limit
pub record IsFile (before : ShelfView) (is_spec : Bool) (name bytes : List ℕ) : Type 0 where
  pub there : Holds before name (Some bytes)
  pub within : length bytes ≤ most_bytes is_spec

-- a fetch failed, or there is no such file, and this was counted
pub record IsUnread (before now : ShelfView) (name : List ℕ) (s : Status) (text : List ℕ) : Type 0 where
  pub status_is : s ≡ status.ReadFault
  pub text_is : text ≡ unread_line name
  pub cause : HasFetchCause before now name

-- a file is longer than its limit
pub record IsTooLong (before : ShelfView) (is_spec : Bool) (name : List ℕ) (s : Status) (text : List ℕ) : Type 0 where
  pub status_is : s ≡ status.Refused
  pub text_is : text ≡ too_long_line name is_spec
  pub longer : IsLonger before name (most_bytes is_spec)

-- a file goes no further
abbrev pub FileEnds : Bool → ShelfView → ShelfView → List ℕ → Status → List ℕ → Type 0
FileEnds is_spec before now name s text = IsUnread before now name s text ⊎ IsTooLong before is_spec name s text

-- the text of a specification has this first fault, of which this is said
pub record IsSpecRefused (before : ShelfView) (name : List ℕ) (s : Status) (text : List ℕ) : Type 0 where
  pub bytes : List ℕ
  pub file : IsFile before true name bytes
  pub fault_ : SpecFault
  pub has : HasFault bytes fault_
  pub tokens : List Token
  pub lexed : AreTokensOf bytes tokens
  pub status_is : s ≡ status.Refused
  pub says : SaysSpecFault name bytes tokens fault_ text

-- the specification's file goes no further
abbrev pub SpecEnds : ShelfView → ShelfView → List ℕ → Status → List ℕ → Type 0
SpecEnds before now name s text = FileEnds true before now name s text ⊎ IsSpecRefused before name s text

-- the file is this specification, with this text and these tokens
pub record IsSpecFile (before : ShelfView) (name bytes : List ℕ) (tokens : List Token) (spec : Spec) : Type 0 where
  pub file : IsFile before true name bytes
  pub reads : IsSpecText bytes spec
  pub lexed : AreTokensOf bytes tokens

-- the text of a history has this first fault, of which this is said
pub record IsHistoryRefused (world : World) (before : ShelfView) (name : List ℕ) (s : Status) (text : List ℕ) : Type 0 where
  pub bytes : List ℕ
  pub file : IsFile before false name bytes
  pub fault_ : HistFault
  pub has : HasHistFault world bytes fault_
  pub tokens : List Token
  pub lexed : AreTokensOf bytes tokens
  pub status_is : s ≡ status.Refused
  pub says : SaysHistoryFault world name bytes tokens fault_ text

-- the history's file goes no further
abbrev pub HistoryEnds : World → ShelfView → ShelfView → List ℕ → Status → List ℕ → Type 0
HistoryEnds world before now name s text = FileEnds false before now name s text ⊎ IsHistoryRefused world before name s text

-- the file is this given history
pub record IsHistoryFile (world : World) (before : ShelfView) (name : List ℕ) (given : List (Option ℕ)) : Type 0 where
  pub bytes : List ℕ
  pub file : IsFile before false name bytes
  pub reads : IsGivenText world bytes given

-- what is said of the first axiom that is false and its first instant, or of a specification that is true
abbrev pub SaysVerdict : List ℕ → List ℕ → List Token → Spec → List ℕ → Option (ℕ × ℕ) → Status → List ℕ → Type 0
SaysVerdict file bytes tokens spec history None s text = (s ≡ status.Done) × (text ≡ true_line file history)
SaysVerdict file bytes tokens spec history (Some place) s text =
    (s ≡ status.False) × BeginsWith (false_words file bytes tokens spec place.0 place.1) text

-- what is said of a table
pub record IsVerdict (file bytes : List ℕ) (tokens : List Token) (spec : Spec) (history : List ℕ) (given : List (Option ℕ)) (s : Status) (text : List ℕ) : Type 0 where
  pub table : List ℕ
  pub known : given ≡ map Some table
  pub says : SaysVerdict file bytes tokens spec history (first_false spec table) s text

-- what is said of the first cell whose value is not known
pub record IsUnknown (world : World) (history : List ℕ) (given : List (Option ℕ)) (s : Status) (text : List ℕ) : Type 0 where
  pub cell : ℕ
  pub first : first_unknown given ≡ Some cell
  pub status_is : s ≡ status.Refused
  pub text_is : text ≡ unknown_line world history cell

-- what is said of a specification and a given history of it
abbrev pub Tells : Task → List ℕ → List ℕ → List Token → Spec → List ℕ → List (Option ℕ) → Status → List ℕ → Type 0
Tells task.Check file bytes tokens spec history given s text =
    IsVerdict file bytes tokens spec history given s text ⊎ IsUnknown (world_of spec) history given s text
Tells task.Complete file bytes tokens spec history given s text = (s ≡ status.Done) × (text ≡ readable_line file history given)

-- both files are read, and this is said of them
pub record IsTold (asked : Asked) (before : ShelfView) (spec : Spec) (bytes : List ℕ) (tokens : List Token) (s : Status) (text : List ℕ) : Type 0 where
  pub given : List (Option ℕ)
  pub history : IsHistoryFile (world_of spec) before asked.history given
  pub tells : Tells asked.task_ asked.spec bytes tokens spec asked.history given s text

-- the specification is read, and the history's file goes no further, or both are told
pub record IsServed (asked : Asked) (before now : ShelfView) (s : Status) (text : List ℕ) : Type 0 where
  pub spec : Spec
  pub bytes : List ℕ
  pub tokens : List Token
  pub read : IsSpecFile before asked.spec bytes tokens spec
  pub ends : HistoryEnds (world_of spec) before now asked.history s text ⊎ IsTold asked before spec bytes tokens s text

-- what is said of what is asked for
abbrev pub Serves : Asked → ShelfView → ShelfView → Status → List ℕ → Type 0
Serves asked before now s text = SpecEnds before now asked.spec s text ⊎ IsServed asked before now s text

-- the words are no command, and nothing is fetched
pub record IsUsage (before now : ShelfView) (s : Status) (text : List ℕ) : Type 0 where
  pub status_is : s ≡ status.Usage
  pub text_is : text ≡ usage_line
  pub unfetched : now ≡ before

abbrev pub SaysOf : Option Asked → ShelfView → ShelfView → Status → List ℕ → Type 0
SaysOf None before now s text = IsUsage before now s text
SaysOf (Some asked) before now s text = Serves asked before now s text

-- want of memory, which needs no cause
pub record IsWant (s : Status) (text : List ℕ) : Type 0 where
  pub status_is : s ≡ status.Memory
  pub text_is : text ≡ memory_line

-- a status and a text with their cause
abbrev pub Answers : Option Asked → ShelfView → ShelfView → Status → List ℕ → Type 0
Answers asked before now s text = SaysOf asked before now s text ⊎ IsWant s text

-- the text went out and the status is the answer's, or a write failed and the status says so
abbrev pub Said : Status → List ℕ → SinkView → SinkView → Status → Type 0
Said s text old new result = ((result ≡ s) × WritesAll old new text) ⊎ ((result ≡ status.WriteFault) × WritesPart old new text)

-- an answer with its cause was said
pub record Finishes (asked : Option Asked) (before now : ShelfView) (old new : SinkView) (result : Status) : Type 0 where
  pub s : Status
  pub text : List ℕ
  pub answers : Answers asked before now s text
  pub said : Said s text old new result

-- a failed fetch was counted, or an absence
abbrev pub CountsFetch : ShelfView → ShelfView → Type 0
CountsFetch before now = Rose before.counts.failed_fetches now.counts.failed_fetches ⊎ Rose before.counts.absences now.counts.absences

-- what each status tells: the words are no command, a fetch failed, a write failed, memory was wanting, or what was written is said of the texts
abbrev pub TellsStatus : Option Asked → ShelfView → ShelfView → SinkView → SinkView → Status → Type 0
TellsStatus asked before now old new status.Usage = (asked ≡ None) × (now ≡ before) × WritesAll old new usage_line
TellsStatus asked before now old new status.ReadFault = CountsFetch before now
TellsStatus asked before now old new status.WriteFault = Rose old.faults new.faults
TellsStatus asked before now old new status.Memory = WritesAll old new memory_line
TellsStatus asked before now old new s = (text : List ℕ) × SaysOf asked before now s text × WritesAll old new text
