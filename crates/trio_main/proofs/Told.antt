-- What each status tells, from the clauses' definitions to words.
use Rattle.std.proofs.Common.{◌≡◌, ◌⊎◌, ℕ, ◌+◌, ◌<◌, inl, inr, true, List, Option, None, Some, Ok, Err, length, refl, sym, ap, subst, ◌∙◌, arith}
use Rattle.std.specs.Prelude.{map, IsSomeAnd}
use Rattle.trio_io.specs.Outside.{ShelfView, SinkView}
use Rattle.trio_types.specs.declared.spec.Spec.{Spec}
use Rattle.trio_types.specs.World.{World}
use Rattle.trio_types.specs.Laws.{FirstFalse}
use Rattle.trio_types.specs.Verdict.{world_of, first_false}
use Rattle.trio_types.proofs.Verdicts.{none_is_true, found_is_first}
use Rattle.trio_reader.specs.declared.fault.SpecFault.{SpecFault}
use Rattle.trio_reader.specs.declared.fault.SpecFault.TheVariants as spec_fault
use Rattle.history_table.specs.declared.fault.HistFault.{HistFault}
use Rattle.history_table.specs.declared.fault.HistFault.TheVariants as history_fault
use Rattle.history_table.specs.Printed.{name_of_row}
use Rattle.history_check.specs.declared.checker.Verdict.TheVariants as verdict
use Rattle.history_check.specs.Answers.{verdict_of}
use Rattle.trio_jobs.specs.declared.status.Status.TheVariants as status
use Rattle.trio_jobs.specs.declared.fault.Text.{Text}
use Rattle.trio_jobs.specs.declared.fault.Text.TheVariants as text
use Rattle.trio_jobs.specs.declared.fault.Fault.{Fault}
use Rattle.trio_jobs.specs.declared.fault.Fault.TheVariants as fault
use Rattle.trio_jobs.specs.declared.command.Command.{Command}
use Rattle.trio_jobs.specs.declared.command.Command.TheVariants as command
use Rattle.trio_jobs.specs.Call.{Call}
use Rattle.trio_jobs.specs.Fault.{status_of, spec_refusal, history_refusal}
use Rattle.trio_jobs.specs.Message.{message}
use Rattle.trio_jobs.specs.Load.{most_bytes, FileFault, YieldsSpec, YieldsHistory, LoadFault, LoadReaches}
use Rattle.trio_jobs.specs.Check.{CheckFault, TellsTrue, TellsFalse}
use Rattle.trio_main.specs.Complete.{completions, TellsCompletions}
use Rattle.trio_main.specs.Due.{job_of}
use Rattle.trio_main.specs.Tell.{IsFailed, IsAbsent, TellsUnread}
use Rattle.trio_jobs.specs.Refusal.{TellsRefused}
use Rattle.history_table.specs.FittingLaws.{FirstUnknownLaw}
use Rattle.trio_main.specs.Told.{IsSpecFile, IsHistoryFile, SpecRefused, HistoryRefused, LoadRefused, CheckRefused, IsRead, first_read, IsNotThere, IsFetchFailed, WroteUnread, CheckTrueLaw, CheckFalseLaw, CheckRefusedLaw, CompleteLaw, CompleteRefusedLaw, NeverFalseLaw, UsageLaw, UnreadLaw, UnwrittenLaw, MemoryLaw, NeverLaw, TwoFilesLaw, SavesNoneLaw}
use Rattle.trio_jobs.proofs.FileFaults.{read_status}
use Rattle.trio_jobs.proofs.Checks.{verdict_read}
use Rattle.trio_main.proofs.Completions.{completions_law, completions_sorted}

second_place : (further place : ℕ) → further ≡ 1 → place ≡ further + 1 → place ≡ 2
second_place further place last is = omega (arith, last, is)

spec_file : (shelf : ShelfView) (name : List ℕ) (spec : Spec) → shelf.tells ≡ true → YieldsSpec shelf name (Ok spec) → IsSpecFile shelf name spec
spec_file shelf name spec told (inl x) = absurd (let wrong : Ok spec ≡ Err x.0 = x.1 in cc)
spec_file shelf name spec told (inr x) = record { bytes = x.bytes; there = x.there told; within = x.within; reads = x.said }

history_file : (shelf : ShelfView) (name : List ℕ) (spec : Spec) (given : List (Option ℕ)) → shelf.tells ≡ true →
    YieldsHistory (world_of spec) shelf name (Ok given) → IsHistoryFile shelf name spec given
history_file shelf name spec given told (inl x) = absurd (let wrong : Ok given ≡ Err x.0 = x.1 in cc)
history_file shelf name spec given told (inr x) = record { bytes = x.bytes; there = x.there told; within = x.within; reads = x.said }

true_finds_none : (found : Option (ℕ × ℕ)) → verdict.True ≡ verdict_of found → found ≡ None
true_finds_none None is = refl
true_finds_none (Some p) is = absurd (let wrong : verdict.True ≡ verdict.False p.0 p.1 = is in cc)

false_finds : (found : Option (ℕ × ℕ)) (number instant : ℕ) → verdict.False number instant ≡ verdict_of found → found ≡ Some (number, instant)
false_finds None number instant is = absurd (let wrong : verdict.False number instant ≡ verdict.True = is in cc)
false_finds (Some p) number instant is =
    let same : verdict.False number instant ≡ verdict.False p.0 p.1 = is in
    let numbers : number ≡ p.0 = cc in
    let instants : instant ≡ p.1 = cc in
    rw (numbers, instants) refl

pub check_true : CheckTrueLaw
check_true = λ call s h old new shelf sink tells.
    let x : TellsTrue call.before s h old new = tells s h refl in
    let none : first_false x.spec x.holds.table ≡ None = true_finds_none (first_false x.spec x.holds.table) x.holds.is in
    record {
      spec = x.spec;
      table = x.holds.table;
      spec_file = spec_file call.before s x.spec shelf x.holds.loaded.first;
      history_file = history_file call.before h x.spec (map Some x.holds.table) shelf x.holds.loaded.second;
      each_true = none_is_true x.spec x.holds.table none;
      written = x.written.written sink;
    }

pub check_false : CheckFalseLaw
check_false = λ call s h old new shelf sink tells.
    let x : TellsFalse call.before s h old new = tells s h refl in
    let found : first_false x.spec x.fails.table ≡ Some (x.number, x.instant) =
    false_finds (first_false x.spec x.fails.table) x.number x.instant x.fails.is in
    let first : FirstFalse x.spec x.fails.table x.number x.instant = found_is_first x.spec x.fails.table x.number x.instant found in
    record {
      spec = x.spec;
      table = x.fails.table;
      number = x.number;
      instant = x.instant;
      spec_file = spec_file call.before s x.spec shelf x.fails.loaded.first;
      history_file = history_file call.before h x.spec (map Some x.fails.table) shelf x.fails.loaded.second;
      first = first;
      written = rw first.stands at (x.written.written sink);
    }

pub complete_list : CompleteLaw
complete_list = λ call s h old new shelf sink tells.
    let x : TellsCompletions call.before s h old new = tells s h refl in
    record {
      spec = x.lists.spec;
      given = x.lists.given;
      tables = completions x.lists.spec x.lists.given;
      spec_file = spec_file call.before s x.lists.spec shelf x.lists.loaded.first;
      history_file = history_file call.before h x.lists.spec x.lists.given shelf x.lists.loaded.second;
      each = completions_law x.lists.spec x.lists.given;
      in_order = completions_sorted x.lists.spec x.lists.given;
      written = rw x.lists.is at (x.written.written sink);
    }

pub never_false : NeverFalseLaw
never_false = λ call s h old new shelf sink tells. tells s h refl

pub usage : UsageLaw
usage = λ asked call old new shelf sink x. (x.no_command, x.kept, x.written.written sink)

pub memory : MemoryLaw
memory = λ asked call old new shelf sink x. (x.kept, x.written.written sink)

pub unwritten : UnwrittenLaw
unwritten = λ asked call old new shelf sink x. record {
  counted = x.part.counted;
  status = x.status;
  front = x.part.front.front;
  rest = x.part.front.rest;
  answers = rw (← x.part.front.parts) x.answers;
  unfinished = x.part.unfinished;
  written = x.part.front.written sink;
}

-- where a file is not there

spec_is_no_read : (g : SpecFault) → fault.Read ≡ spec_refusal g → ⊥
spec_is_no_read spec_fault.Memory is = let wrong : fault.Read ≡ fault.Memory = is in cc
spec_is_no_read g is = cc

history_is_no_read : (world : World) (g : HistFault) → fault.Read ≡ history_refusal world g → ⊥
history_is_no_read world history_fault.Memory is = let wrong : fault.Read ≡ fault.Memory = is in cc
history_is_no_read world (history_fault.MissingRow row) is = let wrong : fault.Read ≡ fault.Missing (name_of_row world row) = is in cc
history_is_no_read world g is = cc

none_there : (which : Text) (shelf : ShelfView) (name : List ℕ) (f : Fault) → shelf.tells ≡ true → f ≡ fault.Read → FileFault which shelf name f →
    shelf.file name ≡ None
none_there which shelf name f told is (inl x) = x.1 told
none_there which shelf name f told is (inr x) = absurd (let wrong : fault.TooLong which ≡ fault.Read = sym x.0 ∙ is in cc)

no_spec : (shelf : ShelfView) (name : List ℕ) → shelf.tells ≡ true → YieldsSpec shelf name (Err fault.Read) → shelf.file name ≡ None
no_spec shelf name told (inl x) = none_there text.Spec shelf name x.0 told (let same : x.0 ≡ fault.Read = cc in same) x.2
no_spec shelf name told (inr x) = absurd (spec_is_no_read x.said.0 x.said.2)

no_history : (world : World) (shelf : ShelfView) (name : List ℕ) → shelf.tells ≡ true → YieldsHistory world shelf name (Err fault.Read) →
    shelf.file name ≡ None
no_history world shelf name told (inl x) = none_there text.History shelf name x.0 told (let same : x.0 ≡ fault.Read = cc in same) x.2
no_history world shelf name told (inr x) = absurd (history_is_no_read world x.said.0 x.said.2)

-- one of two files is not there
none_of_two : (shelf : ShelfView) (s h : List ℕ) (n : ℕ) → shelf.tells ≡ true → LoadFault shelf s h n fault.Read →
    (name : List ℕ) × ((name ≡ s) ⊎ (name ≡ h)) × (shelf.file name ≡ None)
none_of_two shelf s h n told (inl x) = (s, inl refl, no_spec shelf s told x.1)
none_of_two shelf s h n told (inr x) = (h, inr refl, no_history (world_of x.value) shelf h told x.stops.1)

check_none : (shelf : ShelfView) (s h : List ℕ) (n : ℕ) → shelf.tells ≡ true → CheckFault shelf s h n fault.Read →
    (name : List ℕ) × ((name ≡ s) ⊎ (name ≡ h)) × (shelf.file name ≡ None)
check_none shelf s h n told (inl x) = none_of_two shelf s h n told x
check_none shelf s h n told (inr x) = absurd (let is = x.1.unknown.is in cc)

due_none : (c : Command) (shelf : ShelfView) (n : ℕ) (text : List ℕ) → shelf.tells ≡ true → (job_of (Some c)).due shelf n status.ReadFault text →
    (name : List ℕ) × IsRead c name × (shelf.file name ≡ None)
due_none (command.Check s h) shelf n text told (inl x) =
    check_none shelf s h n told (subst (CheckFault shelf s h n) (read_status x.named (sym x.status_is)) x.has)
due_none (command.Check s h) shelf n text told (inr x) = absurd (verdict_read x.v (sym x.says.status_is))
due_none (command.Complete s h) shelf n text told (inl x) =
    none_of_two shelf s h n told (subst (LoadFault shelf s h n) (read_status x.named (sym x.status_is)) x.has)
due_none (command.Complete s h) shelf n text told (inr x) = absurd (let wrong : status.ReadFault ≡ status.Done = x.status_is in cc)

-- the first file is still to be read, or it is a specification and the second is
in_turn : (shelf : ShelfView) (s : List ℕ) (n : ℕ) → shelf.tells ≡ true → LoadReaches shelf s n →
    (n ≡ 1) ⊎ ((n ≡ 2) × ((spec : Spec) × IsSpecFile shelf s spec))
in_turn shelf s n told (inl x) = inl x.0
in_turn shelf s n told (inr x) = inr (second_place x.further n x.stops.0 x.place_is, (x.value, spec_file shelf s x.value told x.read))

reached_in_turn : (c : Command) (shelf : ShelfView) (n : ℕ) → shelf.tells ≡ true → (job_of (Some c)).reaches shelf n →
    (n ≡ 1) ⊎ ((n ≡ 2) × ((spec : Spec) × IsSpecFile shelf (first_read c) spec))
reached_in_turn (command.Check s h) shelf n told x = in_turn shelf s n told x
reached_in_turn (command.Complete s h) shelf n told x = in_turn shelf s n told x

unread_cause : (c : Command) (call : Call) → call.before.tells ≡ true → IsFailed (Some c) call ⊎ IsAbsent (Some c) call (message fault.Read) →
    IsFetchFailed c call ⊎ IsNotThere c call
unread_cause c call told (inl x) = inl (record {
  counted = x.counted;
  reads = x.reads;
  fetched = x.fetched;
  in_turn = reached_in_turn c call.before x.reads told x.reached;
})
unread_cause c call told (inr x) =
    let there = due_none c call.before x.reads (message fault.Read) told x.due in
    inr (record { name = there.0; is_read = there.1; none = there.2; counted = x.counted })

no_usage_read : (call : Call) → IsFailed None call ⊎ IsAbsent None call (message fault.Read) → ⊥
no_usage_read call (inl x) = x.reached
no_usage_read call (inr x) = let wrong : status.ReadFault ≡ status.Usage = x.due.status_is in cc

unread_told : (asked : Option Command) (call : Call) (old new : SinkView) → call.before.tells ≡ true → old.tells ≡ true →
    TellsUnread asked call old new → WroteUnread asked call old new
unread_told None call old new shelf sink x = absurd (no_usage_read call x.cause)
unread_told (Some c) call old new shelf sink x =
    record { c = c; is = refl; cause = unread_cause c call shelf x.cause; kept = x.kept; written = x.written.written sink }

pub unread : UnreadLaw
unread = unread_told

-- where a text is refused

is_longer : (file : Option (List ℕ)) (most : ℕ) → IsSomeAnd file (λ bytes. most < length bytes) →
    (bytes : List ℕ) × (file ≡ Some bytes) × (most < length bytes)
is_longer None most is = absurd is
is_longer (Some bytes) most is = (bytes, refl, is)

too_long : (which : Text) (shelf : ShelfView) (name : List ℕ) (f : Fault) → shelf.tells ≡ true → status_of f ≡ status.Refused →
    FileFault which shelf name f → (bytes : List ℕ) × (shelf.file name ≡ Some bytes) × (most_bytes which < length bytes) × (f ≡ fault.TooLong which)
too_long which shelf name f told refused (inl x) =
    absurd (let wrong : status.ReadFault ≡ status.Refused = ap status_of (sym x.0) ∙ refused in cc)
too_long which shelf name f told refused (inr x) =
    let there = is_longer (shelf.file name) (most_bytes which) (x.1 told) in (there.0, there.1, there.2, x.0)

spec_refused : (shelf : ShelfView) (name : List ℕ) (f : Fault) → shelf.tells ≡ true → status_of f ≡ status.Refused →
    YieldsSpec shelf name (Err f) → SpecRefused shelf name (message f)
spec_refused shelf name f told refused (inl x) =
    let same : f ≡ x.0 = cc in
    let long = too_long text.Spec shelf name x.0 told (ap status_of (sym same) ∙ refused) x.2 in
    record { bytes = long.0; there = long.1; why = inl (long.2, ap message (same ∙ long.3)) }
spec_refused shelf name f told refused (inr x) =
    record { bytes = x.bytes; there = x.there told; why = inr (x.within, (x.said.0, x.said.1, ap message x.said.2)) }

history_refused : (world : World) (shelf : ShelfView) (name : List ℕ) (f : Fault) → shelf.tells ≡ true → status_of f ≡ status.Refused →
    YieldsHistory world shelf name (Err f) → HistoryRefused world shelf name (message f)
history_refused world shelf name f told refused (inl x) =
    let same : f ≡ x.0 = cc in
    let long = too_long text.History shelf name x.0 told (ap status_of (sym same) ∙ refused) x.2 in
    record { bytes = long.0; there = long.1; why = inl (long.2, ap message (same ∙ long.3)) }
history_refused world shelf name f told refused (inr x) =
    record { bytes = x.bytes; there = x.there told; why = inr (x.within, (x.said.0, x.said.1, ap message x.said.2)) }

load_refused : (shelf : ShelfView) (s h : List ℕ) (n : ℕ) (f : Fault) → shelf.tells ≡ true → status_of f ≡ status.Refused →
    LoadFault shelf s h n f → LoadRefused shelf s h n (message f)
load_refused shelf s h n f told refused (inl x) = inl (x.0, spec_refused shelf s f told refused x.1)
load_refused shelf s h n f told refused (inr x) =
    inr (
      second_place x.further n x.stops.0 x.place_is,
      record {
        spec = x.value;
        spec_file = spec_file shelf s x.value told x.read;
        refused = history_refused (world_of x.value) shelf h f told refused x.stops.1;
      },
    )

check_fault_refused : FirstUnknownLaw → (shelf : ShelfView) (s h : List ℕ) (n : ℕ) (f : Fault) → shelf.tells ≡ true →
    status_of f ≡ status.Refused → CheckFault shelf s h n f → CheckRefused shelf s h n (message f)
check_fault_refused law shelf s h n f told refused (inl x) = inl (load_refused shelf s h n f told refused x)
check_fault_refused law shelf s h n f told refused (inr x) =
    inr (
      x.0,
      record {
        spec = x.1.spec;
        given = x.1.given;
        cell = x.1.unknown.cell;
        spec_file = spec_file shelf s x.1.spec told x.1.loaded.first;
        history_file = history_file shelf h x.1.spec x.1.given told x.1.loaded.second;
        first = (law x.1.given x.1.unknown.cell).0 x.1.unknown.first;
        named = ap message x.1.unknown.is;
      },
    )

pub check_refused : FirstUnknownLaw → CheckRefusedLaw
check_refused law = λ call s h old new shelf sink tells.
    let x : TellsRefused (CheckFault call.before s h) call old new = tells s h refl in
    record {
      reads = x.reads;
      text = message x.named;
      why = check_fault_refused law call.before s h x.reads x.named shelf x.is_refusal x.is_first;
      fetched = x.fetched;
      kept = x.kept;
      written = x.written.written sink;
    }

pub complete_refused : CompleteRefusedLaw
complete_refused = λ call s h old new shelf sink tells.
    let x : TellsRefused (LoadFault call.before s h) call old new = tells s h refl in
    record {
      reads = x.reads;
      text = message x.named;
      why = load_refused call.before s h x.reads x.named shelf x.is_refusal x.is_first;
      fetched = x.fetched;
      kept = x.kept;
      written = x.written.written sink;
    }

pub two_files : TwoFilesLaw
two_files (command.Check s h) = refl
two_files (command.Complete s h) = refl

pub saves_none : SavesNoneLaw
saves_none None = refl
saves_none (Some (command.Check s h)) = refl
saves_none (Some (command.Complete s h)) = refl

pub never : NeverLaw
never asked call old new = (λ x. x, λ x. x)
