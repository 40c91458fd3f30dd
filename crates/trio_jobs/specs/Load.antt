-- What the file under a name yields, a value or a fault, and how the reading of one file after another stops.
use Rattle.std.specs.Prelude.{◌≡◌, ℕ, ◌+◌, ◌≤◌, ◌⊎◌, List, length, Option, None, Some, Result, Ok, Err}
use Rattle.trio_base.specs.declared.limits.TheConstants.{MOST_SPEC_BYTES, MOST_HISTORY_BYTES}
use Rattle.trio_io.specs.Outside.{ShelfView, Holds, IsLonger}
use Rattle.trio_types.specs.declared.spec.Spec.{Spec}
use Rattle.trio_types.specs.World.{World}
use Rattle.trio_types.specs.Verdict.{world_of}
use Rattle.trio_reader.specs.declared.fault.SpecFault.{SpecFault}
use Rattle.trio_reader.specs.Reading.{IsSpecText, HasFault}
use Rattle.history_table.specs.declared.fault.HistFault.{HistFault}
use Rattle.history_table.specs.declared.fault.HistFault.TheVariants as history_fault
use Rattle.history_table.specs.History.{IsGivenText, HasHistFault}
use Rattle.history_table.specs.Printed.{name_of_row}
use Rattle.trio_jobs.specs.declared.fault.Text.{Text}
use Rattle.trio_jobs.specs.declared.fault.Text.TheVariants as text
use Rattle.trio_jobs.specs.declared.fault.Fault.{Fault}
use Rattle.trio_jobs.specs.declared.fault.Fault.TheVariants as fault
use Rattle.trio_jobs.specs.Fault.{spec_refusal, history_refusal}

-- the most bytes that a text may have
abbrev pub most_bytes : Text → ℕ
most_bytes text.Spec = MOST_SPEC_BYTES
most_bytes text.History = MOST_HISTORY_BYTES

-- The file is within its limit, and this is true of its bytes. Where the shelf does not tell its files, it is only said that there are such
-- bytes.
pub record IsFile (which : Text) (shelf : ShelfView) (name : List ℕ) (says : List ℕ → Type 0) : Type 0 where
  pub bytes : List ℕ
  pub there : Holds shelf name (Some bytes)
  pub within : length bytes ≤ most_bytes which
  pub said : says bytes

-- the file is not there, or is longer than its limit
abbrev pub FileFault : Text → ShelfView → List ℕ → Fault → Type 0
FileFault which shelf name f =
    ((f ≡ fault.Read) × Holds shelf name None) ⊎ ((f ≡ fault.TooLong which) × IsLonger shelf name (most_bytes which))

-- What a file yields: a fault of the file, or what its bytes read as.
abbrev pub Yields : {X : Type 0} → (List ℕ → Result X Fault → Type 0) → Text → ShelfView → List ℕ → Result X Fault → Type 0
Yields reads which shelf name r =
    ((f : Fault) × (r ≡ Err f) × FileFault which shelf name f) ⊎ IsFile which shelf name (λ bytes. reads bytes r)

-- the bytes are this specification, or this is their first fault
abbrev pub ReadsSpec : List ℕ → Result Spec Fault → Type 0
ReadsSpec bytes (Ok spec) = IsSpecText bytes spec
ReadsSpec bytes (Err f) = (g : SpecFault) × HasFault bytes g × (f ≡ spec_refusal g)

-- the bytes are this given history, or this is their first fault
abbrev pub ReadsHistory : World → List ℕ → Result (List (Option ℕ)) Fault → Type 0
ReadsHistory world bytes (Ok given) = IsGivenText world bytes given
ReadsHistory world bytes (Err f) = (g : HistFault) × HasHistFault world bytes g × (f ≡ history_refusal world g)

-- what the file under a name yields as a specification
abbrev pub YieldsSpec : ShelfView → List ℕ → Result Spec Fault → Type 0
YieldsSpec = Yields ReadsSpec text.Spec

-- what it yields as a given history over the rows of a specification
abbrev pub YieldsHistory : World → ShelfView → List ℕ → Result (List (Option ℕ)) Fault → Type 0
YieldsHistory world = Yields (ReadsHistory world) text.History

-- these are the bytes of a file within its limit, where the shelf tells its files, and this is true of them
abbrev pub AreBytes : Text → ShelfView → List ℕ → List ℕ → Type 0 → Type 0
AreBytes which shelf name bytes says = Holds shelf name (Some bytes) × (length bytes ≤ most_bytes which) × says

abbrev pub IsSpecBytes : ShelfView → List ℕ → List ℕ → Spec → Type 0
IsSpecBytes shelf name bytes spec = AreBytes text.Spec shelf name bytes (IsSpecText bytes spec)

abbrev pub IsHistoryBytes : World → ShelfView → List ℕ → List ℕ → List (Option ℕ) → Type 0
IsHistoryBytes world shelf name bytes given = AreBytes text.History shelf name bytes (IsGivenText world bytes given)

-- a fault that is one of a text comes with the bytes whose first fault it is
abbrev pub RefusesSpec : ShelfView → List ℕ → List ℕ → Fault → Type 0
RefusesSpec shelf name bytes (fault.Spec g) = AreBytes text.Spec shelf name bytes (HasFault bytes g)
RefusesSpec shelf name bytes f = Unit {0}

abbrev pub RefusesHistory : World → ShelfView → List ℕ → List ℕ → Fault → Type 0
RefusesHistory world shelf name bytes (fault.History g) = AreBytes text.History shelf name bytes (HasHistFault world bytes g)
RefusesHistory world shelf name bytes (fault.Missing row) =
    AreBytes text.History shelf name bytes ((number : ℕ) × HasHistFault world bytes (history_fault.MissingRow number) × (row ≡ name_of_row world number))
RefusesHistory world shelf name bytes f = Unit {0}

-- Files are read one after another. Reading goes past this one, which has a value, and stops behind it; places are counted from 1.
pub record StopsBehind {X : Type 0} (reads : X → Type 0) (behind : X → ℕ → Type 0) (place : ℕ) : Type 0 where
  pub value : X
  pub read : reads value
  pub further : ℕ
  pub stops : behind value further
  pub place_is : place ≡ further + 1

-- the reading of the last file stops, for this cause
abbrev pub StopsAtLast : Type 0 → ℕ → Type 0
StopsAtLast cause place = (place ≡ 1) × cause

-- reading stops at this file, for this cause, or behind it
abbrev pub StopsAt : {X : Type 0} → Type 0 → (X → Type 0) → (X → ℕ → Type 0) → ℕ → Type 0
StopsAt cause reads behind place = StopsAtLast cause place ⊎ StopsBehind reads behind place

-- the reading of a specification and a history stops at the specification, for the first cause, or behind it at the history, for the second
abbrev pub LoadStops : ShelfView → List ℕ → Type 0 → (World → Type 0) → ℕ → Type 0
LoadStops shelf spec_name at_spec at_history =
    StopsAt at_spec (λ spec. YieldsSpec shelf spec_name (Ok spec)) (λ spec. StopsAtLast (at_history (world_of spec)))

-- the first fault of a specification and a history, and how many files it takes to find it
abbrev pub LoadFault : ShelfView → List ℕ → List ℕ → ℕ → Fault → Type 0
LoadFault shelf spec_name history_name reads f =
    LoadStops shelf spec_name (YieldsSpec shelf spec_name (Err f)) (λ world. YieldsHistory world shelf history_name (Err f)) reads

-- the file at this place is the first that is still to be read
abbrev pub LoadReaches : ShelfView → List ℕ → ℕ → Type 0
LoadReaches shelf spec_name place = LoadStops shelf spec_name (Unit {0}) (λ world. Unit {0}) place

-- a specification and a given history of it
pub record IsLoaded (shelf : ShelfView) (spec_name history_name : List ℕ) (spec : Spec) (given : List (Option ℕ)) : Type 0 where
  pub first : YieldsSpec shelf spec_name (Ok spec)
  pub second : YieldsHistory (world_of spec) shelf history_name (Ok given)
