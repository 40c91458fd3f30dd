-- What is written for each fault, and where the words are no command.
use Rattle.std.specs.Prelude.{◌≡◌, ℕ, List, [], ◌++◌, codes, decimal}
use Rattle.trio_types.specs.declared.spec.Which.{Which}
use Rattle.trio_types.specs.declared.spec.Which.TheVariants as which
use Rattle.trio_reader.specs.declared.fault.SpecFault.{SpecFault}
use Rattle.trio_reader.specs.declared.fault.SpecFault.TheVariants as spec_fault
use Rattle.history_table.specs.declared.fault.HistFault.{HistFault}
use Rattle.history_table.specs.declared.fault.HistFault.TheVariants as history_fault
use Rattle.trio_jobs.specs.declared.status.Status.{Status}
use Rattle.trio_jobs.specs.Fault.{status_of}
use Rattle.trio_jobs.specs.declared.fault.Text.{Text}
use Rattle.trio_jobs.specs.declared.fault.Text.TheVariants as text
use Rattle.trio_jobs.specs.declared.fault.Fault.{Fault}
use Rattle.trio_jobs.specs.declared.fault.Fault.TheVariants as fault

abbrev pub usage_line : List ℕ
usage_line = codes "usage: trio check SPEC HIST | complete SPEC HIST [--workers=N] [--limit=N] [--seconds=N] [--save=NAME] | resume FRONTIER [the same] | cases SPEC HIST GOAL [--workers=N] | play SPEC HIST SCHEDULE | bench NUMBER [--workers=N]\n"

-- a line of words and a number
abbrev pub numbered : List ℕ → ℕ → List ℕ
numbered words number = words ++ decimal number ++ codes "\n"

-- the line of a text that is longer than its limit
abbrev pub long_line : Text → List ℕ
long_line text.Spec = codes "refused spec long\n"
long_line text.History = codes "refused history long\n"

-- the words on a count that is above its limit
abbrev pub limit_words : Which → List ℕ
limit_words which.Items = codes "refused spec limit items "
limit_words which.Cells = codes "refused spec limit cells "
limit_words which.Sizes = codes "refused spec limit sizes "
limit_words which.Bound = codes "refused spec limit bound "
limit_words which.Instances = codes "refused spec limit instances "
limit_words which.Nest = codes "refused spec limit nest "

-- the message of a refused specification
abbrev pub spec_message : SpecFault → List ℕ
spec_message (spec_fault.Lex place) = numbered (codes "refused spec lex ") place
spec_message (spec_fault.Deep place) = numbered (codes "refused spec deep ") place
spec_message (spec_fault.Syntax place) = numbered (codes "refused spec syntax ") place
spec_message (spec_fault.Unknown place) = numbered (codes "refused spec unknown ") place
spec_message (spec_fault.Twice place) = numbered (codes "refused spec twice ") place
spec_message (spec_fault.Kind place) = numbered (codes "refused spec kind ") place
spec_message (spec_fault.Range place) = numbered (codes "refused spec range ") place
spec_message (spec_fault.Limit which count) = numbered (limit_words which) count
spec_message spec_fault.Memory = codes "refused spec memory\n"

-- the message of a refused history
abbrev pub history_message : HistFault → List ℕ
history_message (history_fault.Lex place) = numbered (codes "refused history lex ") place
history_message (history_fault.Syntax line) = numbered (codes "refused history syntax ") line
history_message (history_fault.UnknownRow line) = numbered (codes "refused history unknownrow ") line
history_message (history_fault.TwiceRow line) = numbered (codes "refused history twicerow ") line
history_message (history_fault.Length line) = numbered (codes "refused history length ") line
history_message (history_fault.Value line column) = numbered (codes "refused history value " ++ decimal line ++ codes " ") column
history_message (history_fault.MissingRow row) = numbered (codes "refused history missing ") row
history_message history_fault.Memory = codes "refused history memory\n"

-- the message of a fault; a failed write has none
abbrev pub message : Fault → List ℕ
message fault.Read = codes "fault read\n"
message (fault.TooLong which) = long_line which
message (fault.Spec f) = spec_message f
message (fault.History f) = history_message f
message (fault.Missing row) = codes "refused history missing " ++ row ++ codes "\n"
message (fault.Unknown row instant) = numbered (codes "unknown " ++ row ++ codes " ") instant
message fault.Goal = codes "refused goal\n"
message fault.Write = []
message fault.Memory = codes "fault memory\n"

-- the answer is the message of a fault of this kind
pub record SaysFault (kind : Fault → Type 0) (s : Status) (text : List ℕ) : Type 0 where
  pub named : Fault
  pub has : kind named
  pub status_is : s ≡ status_of named
  pub text_is : text ≡ message named
