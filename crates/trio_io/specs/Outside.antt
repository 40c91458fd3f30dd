-- What the contracts of shelves, sinks and bells say: counts that rise, files by name, bytes that were written.
use Rattle.std.specs.Prelude.{◌≡◌, ℕ, ◌+◌, ◌-◌, ◌^◌, ◌<◌, ◌≤◌, min, Bool, true, false, List, ◌++◌, length, Option, Some, None, ◌⊎◌, IsSomeAnd, Result, Ok, Err}
use Rattle.trio_io.specs.declared.sink.SinkFault.{SinkFault}

-- What a shelf holds: the bytes of the file under each name, where there is one.
abbrev pub FileMap : Type 0
FileMap = List ℕ → Option (List ℕ)

-- One more, up to the last value of 64 bits.
abbrev pub raised : ℕ → ℕ
raised count = min (count + 1) (2 ^ 64 - 1)

-- The count rose. One that stands at the last value of its 64 bits stays there, and has then risen too.
abbrev pub Rose : ℕ → ℕ → Type 0
Rose before now = raised before ≤ now

-- The four counts of a shelf.
pub record ShelfCounts : Type 0 where
  pub absences : ℕ
  pub failed_fetches : ℕ
  pub failed_puts : ℕ
  pub calls : ℕ

-- What a shelf is seen as: whether it tells its files, the files, and its counts. The files say nothing of a shelf that does not tell.
pub record ShelfView : Type 0 where
  pub tells : Bool
  pub file : FileMap
  pub counts : ShelfCounts

-- No count fell, and the count of calls rose by at most this many.
pub record IsLater (most : ℕ) (before now : ShelfCounts) : Type 0 where
  pub absences : before.absences ≤ now.absences
  pub failed_fetches : before.failed_fetches ≤ now.failed_fetches
  pub failed_puts : before.failed_puts ≤ now.failed_puts
  pub calls : before.calls ≤ now.calls
  pub at_most : now.calls ≤ before.calls + most

-- No fault was counted.
pub record SameFaults (before now : ShelfCounts) : Type 0 where
  pub absences : now.absences ≡ before.absences
  pub failed_fetches : now.failed_fetches ≡ before.failed_fetches
  pub failed_puts : now.failed_puts ≡ before.failed_puts

-- What reading leaves: every file, and whether the shelf tells; the count of calls rose by at most this many, and no count fell.
pub record OnlyReads (most : ℕ) (before now : ShelfView) : Type 0 where
  pub files : (name : List ℕ) → now.file name ≡ before.file name
  pub tells : now.tells ≡ before.tells
  pub counts : IsLater most before.counts now.counts

-- Where the shelf tells its files, this is what stands under the name.
abbrev pub Holds : ShelfView → List ℕ → Option (List ℕ) → Type 0
Holds shelf name file = shelf.tells ≡ true → shelf.file name ≡ file

-- Where the shelf tells its files, there is one under the name, and it is longer.
abbrev pub IsLonger : ShelfView → List ℕ → ℕ → Type 0
IsLonger shelf name max = shelf.tells ≡ true → IsSomeAnd (shelf.file name) (λ bytes. max < length bytes)

-- At most `max` bytes were appended, and where the files are told they are the bytes of the file.
pub record Fetched (shelf : ShelfView) (name : List ℕ) (max : ℕ) (old new : List ℕ) : Type 0 where
  pub bytes : List ℕ
  pub added : new ≡ old ++ bytes
  pub within : length bytes ≤ max
  pub told : Holds shelf name (Some bytes)

-- Why a fetch failed: a failure was counted, or an absence was, and where the files are told there is no such file.
abbrev pub HasFetchCause : ShelfView → ShelfView → List ℕ → Type 0
HasFetchCause before now name = Rose before.counts.failed_fetches now.counts.failed_fetches
    ⊎ (Rose before.counts.absences now.counts.absences × Holds before name None)

-- What a sink is seen as: whether it tells what was written, that, and the count of its faults. What was written says nothing of a sink that
-- does not tell.
pub record SinkView : Type 0 where
  pub tells : Bool
  pub written : List ℕ
  pub faults : ℕ

-- The count of faults did not fall, and the sink tells what was written as it did before.
pub record StaysSink (before now : SinkView) : Type 0 where
  pub faults : before.faults ≤ now.faults
  pub tells : now.tells ≡ before.tells

-- Where the sink tells it, exactly these bytes were written.
abbrev pub Writes : SinkView → SinkView → List ℕ → Type 0
Writes before now bytes = before.tells ≡ true → now.written ≡ before.written ++ bytes

-- All the bytes were written, and no fault was counted.
pub record WritesAll (before now : SinkView) (bytes : List ℕ) : Type 0 where
  pub stays : StaysSink before now
  pub written : Writes before now bytes
  pub calm : now.faults ≡ before.faults

-- A front of the bytes was written, and the rest was not.
pub record WritesFront (before now : SinkView) (bytes : List ℕ) : Type 0 where
  pub front : List ℕ
  pub rest : List ℕ
  pub parts : bytes ≡ front ++ rest
  pub written : Writes before now front

-- A write failed: it was counted, and a front of the bytes was written that is not the whole.
pub record WritesPart (before now : SinkView) (bytes : List ℕ) : Type 0 where
  pub stays : StaysSink before now
  pub counted : Rose before.faults now.faults
  pub front : WritesFront before now bytes
  pub unfinished : 0 < length front.rest

-- What a writing of these bytes did: all of them went out and no write failed, or a write failed.
abbrev pub Wrote : SinkView → SinkView → List ℕ → Result (Unit {0}) SinkFault → Type 0
Wrote before now bytes (Ok done) = WritesAll before now bytes
Wrote before now bytes (Err f) = WritesPart before now bytes

-- What a bell is seen as: the seconds that it was armed with, how often it rang, and how many asks it left unanswered.
pub record BellView : Type 0 where
  pub armed : Option ℕ
  pub rings : ℕ
  pub quiet : ℕ

-- the same bell, armed
abbrev pub armed_with : ℕ → BellView → BellView
armed_with seconds bell = record { armed = Some seconds; rings = bell.rings; quiet = bell.quiet }

-- a bell that counts nothing
abbrev pub unrung : Option ℕ → BellView
unrung armed = record { armed = armed; rings = 0; quiet = 0 }

-- What an ask does: it is true only at an armed bell whose count of rings rose; a false one may count as a quiet ask.
abbrev pub Asked : Bool → BellView → BellView → Type 0
Asked true before now = (before.armed ≡ None → ⊥) × (before.rings < now.rings) × (now.quiet ≡ before.quiet)
Asked false before now = (now.rings ≡ before.rings) × (before.quiet ≤ now.quiet) × (now.quiet ≤ before.quiet + 1)
