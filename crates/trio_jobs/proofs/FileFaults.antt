-- The faults that files can have, their statuses, and what the refusal of one tells.
use Rattle.std.proofs.Common.{◌≡◌, ◌≢◌, ℕ, ◌+◌, ◌≤◌, ◌⊎◌, inl, inr, List, Err, refl, ◌∙◌}
use Rattle.trio_io.specs.Outside.{ShelfView, SinkView, WritesAll}
use Rattle.trio_types.specs.World.{World}
use Rattle.trio_types.specs.Verdict.{world_of}
use Rattle.trio_reader.specs.declared.fault.SpecFault.{SpecFault}
use Rattle.trio_reader.specs.declared.fault.SpecFault.TheVariants as spec_fault
use Rattle.trio_reader.specs.Reading.{HasFault}
use Rattle.history_table.specs.declared.fault.HistFault.{HistFault}
use Rattle.history_table.specs.declared.fault.HistFault.TheVariants as history_fault
use Rattle.trio_jobs.specs.declared.status.Status.{Status}
use Rattle.trio_jobs.specs.declared.status.Status.TheVariants as status
use Rattle.trio_jobs.specs.declared.fault.Text.{Text}
use Rattle.trio_jobs.specs.declared.fault.Text.TheVariants as text
use Rattle.trio_jobs.specs.declared.fault.Fault.{Fault}
use Rattle.trio_jobs.specs.declared.fault.Fault.TheVariants as fault
use Rattle.trio_jobs.specs.Fault.{status_of, spec_refusal, history_refusal}
use Rattle.trio_jobs.specs.Message.{SaysFault}
use Rattle.trio_jobs.specs.Call.{Call, KeepsFiles}
use Rattle.trio_jobs.specs.Refusal.{TellsRefused}
use Rattle.trio_jobs.specs.Load.{FileFault, YieldsSpec, YieldsHistory, LoadFault}
use Rattle.history_table.proofs.Faults.{no_want}

-- the faults that an answer due can name: those of files
abbrev pub IsOfFile : Fault → Type 0
IsOfFile fault.Write = ⊥
IsOfFile fault.Memory = ⊥
IsOfFile f = Unit {0}

spec_refusal_of_file : (bytes : List ℕ) (g : SpecFault) → HasFault bytes g → IsOfFile (spec_refusal g)
spec_refusal_of_file bytes spec_fault.Memory has = absurd has
spec_refusal_of_file bytes g has = tt

history_refusal_of_file : (world : World) (g : HistFault) → g ≢ history_fault.Memory → IsOfFile (history_refusal world g)
history_refusal_of_file world history_fault.Memory some = some refl
history_refusal_of_file world (history_fault.MissingRow row) some = tt
history_refusal_of_file world g some = tt

file_fault_of_file : (which : Text) (shelf : ShelfView) (name : List ℕ) (f : Fault) → FileFault which shelf name f → IsOfFile f
file_fault_of_file which shelf name f (inl x) = rw x.0 tt
file_fault_of_file which shelf name f (inr x) = rw x.0 tt

spec_of_file : (shelf : ShelfView) (name : List ℕ) (f : Fault) → YieldsSpec shelf name (Err f) → IsOfFile f
spec_of_file shelf name f (inl x) = let same : f ≡ x.0 = cc in rw same (file_fault_of_file text.Spec shelf name x.0 x.2)
spec_of_file shelf name f (inr x) = rw (x.said.2) (spec_refusal_of_file x.bytes x.said.0 x.said.1)

history_of_file : (world : World) (shelf : ShelfView) (name : List ℕ) (f : Fault) → YieldsHistory world shelf name (Err f) → IsOfFile f
history_of_file world shelf name f (inl x) = let same : f ≡ x.0 = cc in rw same (file_fault_of_file text.History shelf name x.0 x.2)
history_of_file world shelf name f (inr x) = rw (x.said.2) (history_refusal_of_file world x.said.0 (no_want world x.bytes x.said.0 x.said.1))

pub load_fault_of_file : (shelf : ShelfView) (s h : List ℕ) (n : ℕ) (f : Fault) → LoadFault shelf s h n f → IsOfFile f
load_fault_of_file shelf s h n f (inl x) = spec_of_file shelf s f x.1
load_fault_of_file shelf s h n f (inr x) = history_of_file (world_of x.value) shelf h f x.stops.1

-- the statuses of an answer due
abbrev pub IsDueStatus : Status → Type 0
IsDueStatus status.Usage = ⊥
IsDueStatus status.Stopped = ⊥
IsDueStatus status.WriteFault = ⊥
IsDueStatus status.Memory = ⊥
IsDueStatus status.SaveFault = ⊥
IsDueStatus s = Unit {0}

pub of_file_status : (f : Fault) → IsOfFile f → IsDueStatus (status_of f)
of_file_status fault.Write never = never
of_file_status fault.Memory never = never
of_file_status f is = tt

refused_or_read : (f : Fault) → IsOfFile f → (status_of f ≡ status.Refused) ⊎ (status_of f ≡ status.ReadFault)
refused_or_read fault.Read is = inr refl
refused_or_read fault.Write never = absurd never
refused_or_read fault.Memory never = absurd never
refused_or_read (fault.TooLong which) is = inl refl
refused_or_read (fault.Spec f) is = inl refl
refused_or_read (fault.History f) is = inl refl
refused_or_read (fault.Missing row) is = inl refl
refused_or_read (fault.Unknown row instant) is = inl refl
refused_or_read fault.Goal is = inl refl

pub read_status : (f : Fault) → status_of f ≡ status.ReadFault → f ≡ fault.Read
read_status fault.Read is = refl
read_status (fault.TooLong which) is = cc
read_status (fault.Spec f) is = cc
read_status (fault.History f) is = cc
read_status (fault.Missing row) is = cc
read_status (fault.Unknown row instant) is = cc
read_status fault.Goal is = cc
read_status fault.Write is = cc
read_status fault.Memory is = cc

-- a fault of the command's files that was written is a refusal, or that a file could not be read
pub fault_tells : (first : ℕ → Fault → Type 0) (call : Call) (old new : SinkView) (n : ℕ) (st : Status) (text : List ℕ) →
    ((f : Fault) → first n f → IsOfFile f) → SaysFault (first n) st text → call.now.counts.calls ≤ call.before.counts.calls + n → KeepsFiles call →
    WritesAll old new text → ((st ≡ status.Refused) × TellsRefused first call old new) ⊎ (st ≡ status.ReadFault)
fault_tells first call old new n st text of_file x fetched kept wrote =
    elim (refused_or_read x.named (of_file x.named x.has)) [
      | inl refused ↦ inl (
        x.status_is ∙ refused,
        record { reads = n; named = x.named; is_refusal = refused; is_first = x.has; fetched = fetched; kept = kept; written = rw (← x.text_is) wrote },
      )
      | inr read ↦ inr (x.status_is ∙ read)
    ]
