-- What files yield, seen from before an earlier fetch, and the answers that their faults are.
use Rattle.std.proofs.Common.{◌≡◌, ℕ, ◌+◌, ◌≤◌, inl, inr, List, Option, None, Some, Result, Ok, Err, refl, sym, ◌∙◌, ap, arith, subst}
use Rattle.trio_io.specs.Outside.{ShelfView, OnlyReads}
use Rattle.trio_types.specs.declared.spec.Spec.{Spec}
use Rattle.trio_types.specs.World.{World}
use Rattle.trio_types.specs.Verdict.{world_of}
use Rattle.trio_core.specs.declared.nodes.Core.{Core}
use Rattle.derived_ops.specs.Rewritten.{IsRewriting}
use Rattle.branch_state.specs.Posed.{Posed, posed}
use Rattle.trio_jobs.specs.declared.fault.Text.{Text}
use Rattle.trio_jobs.specs.declared.fault.Text.TheVariants as text
use Rattle.trio_jobs.specs.declared.fault.Fault.{Fault}
use Rattle.trio_jobs.specs.declared.fault.Fault.TheVariants as fault
use Rattle.trio_jobs.specs.Call.{Call, KeepsFiles}
use Rattle.trio_jobs.specs.Job.{Job}
use Rattle.trio_jobs.specs.Fault.{status_of}
use Rattle.trio_jobs.specs.Message.{message}
use Rattle.trio_jobs.specs.Answer.{Answers}
use Rattle.trio_jobs.specs.Load.{FileFault, Yields, ReadsHistory, YieldsSpec, YieldsHistory, LoadStops, LoadFault, LoadReaches, IsLoaded}
use Rattle.trio_jobs.specs.Loading.{HasCause, LoadCause, ProblemFault, IsAskedFor, RefusesGoal, IsLoadedProblem}
use Rattle.trio_jobs.proofs.Jobs.{cause_answers}

file_earlier : (which : Text) (before middle : ShelfView) (name : List ℕ) (f : Fault) (most : ℕ) → OnlyReads most before middle →
    FileFault which middle name f → FileFault which before name f
file_earlier which before middle name f most reads (inl gone) = inl (gone.0, λ told. sym (reads.files name) ∙ gone.1 (reads.tells ∙ told))
file_earlier which before middle name f most reads (inr long) = inr (long.0, λ told. rw (reads.files name) at (long.1 (reads.tells ∙ told)))

-- what a file yields after a fetch, it yielded before
pub yields_earlier : {X : Type 0} (parts : List ℕ → Result X Fault → Type 0) (which : Text) (before middle : ShelfView) (name : List ℕ)
    (r : Result X Fault) (most : ℕ) → OnlyReads most before middle → Yields parts which middle name r → Yields parts which before name r
yields_earlier parts which before middle name r most reads (inl x) = inl (x.0, x.1, file_earlier which before middle name x.0 most reads x.2)
yields_earlier parts which before middle name r most reads (inr x) = inr (record {
  bytes = x.bytes;
  there = λ told. sym (reads.files name) ∙ x.there (reads.tells ∙ told);
  within = x.within;
  said = x.said;
})

-- a cause after a fetch is one from before it, of another kind and at another file
pub cause_earlier : (before middle now : ShelfView) (here there : Type 0) (cause early : Fault → Type 0) (f : Fault) (most : ℕ) →
    OnlyReads most before middle → (here → there) → ((g : Fault) → cause g → early g) → HasCause middle now here cause f →
    HasCause before now there early f
cause_earlier before middle now here there cause early f most reads reached back (inl failed) =
    inl (failed.0, reached failed.1, omega (arith, reads.counts.failed_fetches, failed.2))
cause_earlier before middle now here there cause early f most reads reached back (inr (inl want)) = inr (inl want)
cause_earlier before middle now here there cause early f most reads reached back (inr (inr has)) =
    inr (inr (back f has.0, λ is. omega (arith, reads.counts.absences, has.1 is)))

-- the same where nothing was fetched before
pub cause_as : (before now : ShelfView) (here there : Type 0) (cause other : Fault → Type 0) (f : Fault) → (here → there) →
    ((g : Fault) → cause g → other g) → HasCause before now here cause f → HasCause before now there other f
cause_as before now here there cause other f reached turned (inl failed) = inl (failed.0, reached failed.1, failed.2)
cause_as before now here there cause other f reached turned (inr (inl want)) = inr (inl want)
cause_as before now here there cause other f reached turned (inr (inr has)) = inr (inr (turned f has.0, has.1))

-- reading stops behind a specification that was read
pub stops_behind : (shelf : ShelfView) (s : List ℕ) (at_spec : Type 0) (at_history : World → Type 0) (spec : Spec) → YieldsSpec shelf s (Ok spec) →
    at_history (world_of spec) → LoadStops shelf s at_spec at_history 2
stops_behind shelf s at_spec at_history spec first here =
    inr (record { value = spec; read = first; further = 1; stops = (refl, here); place_is = omega arith })

-- the specification has a fault, and no other file was fetched
pub spec_fault_caused : (before now : ShelfView) (s h : List ℕ) (f : Fault) → OnlyReads 1 before now →
    HasCause before now (Unit {0}) (λ g. YieldsSpec before s (Err g)) f → LoadCause before now s (LoadFault before s h) f
spec_fault_caused before now s h f reads cause = record {
  reads = 1;
  cause = cause_as before now (Unit {0}) (LoadReaches before s 1) (λ g. YieldsSpec before s (Err g)) (LoadFault before s h 1) f
      (λ here. inl (refl, here)) (λ g y. inl (refl, y)) cause;
  fetched = reads.counts.at_most;
}

-- the specification has none, and the history has a fault
pub history_fault_caused : (before middle now : ShelfView) (s h : List ℕ) (spec : Spec) (f : Fault) → OnlyReads 1 before middle →
    OnlyReads 1 middle now → YieldsSpec before s (Ok spec) → HasCause middle now (Unit {0}) (λ g. YieldsHistory (world_of spec) middle h (Err g)) f →
    LoadCause before now s (LoadFault before s h) f
history_fault_caused before middle now s h spec f reads later first cause = record {
  reads = 2;
  cause = cause_earlier before middle now (Unit {0}) (LoadReaches before s 2) (λ g. YieldsHistory (world_of spec) middle h (Err g))
      (LoadFault before s h 2) f 1 reads
      (λ here. stops_behind before s (Unit {0}) (λ world. Unit {0}) spec first here)
      (λ g y. stops_behind before s (YieldsSpec before s (Err g)) (λ world. YieldsHistory world before h (Err g)) spec first
      (yields_earlier (ReadsHistory (world_of spec)) text.History before middle h (Err g) 1 reads y)) cause;
  fetched = omega (arith, reads.counts.at_most, later.counts.at_most);
}

-- a cause of one kind is one of a wider kind
pub caused_as : (before now : ShelfView) (s : List ℕ) (first other : ℕ → Fault → Type 0) (f : Fault) →
    ((n : ℕ) (g : Fault) → first n g → other n g) → LoadCause before now s first f → LoadCause before now s other f
caused_as before now s first other f turned caused = record {
  reads = caused.reads;
  cause = cause_as before now (LoadReaches before s caused.reads) (LoadReaches before s caused.reads) (first caused.reads) (other caused.reads) f
      (λ here. here) (turned caused.reads) caused.cause;
  fetched = caused.fetched;
}

-- the specification that is asked for is not to be had, behind the two fetches
pub goal_caused : (before middle now : ShelfView) (s h : List ℕ) (spec : Spec) (given : List (Option ℕ)) (goal : Option (List ℕ)) (f : Fault) →
    OnlyReads 1 before middle → OnlyReads 1 middle now → IsLoaded before s h spec given → RefusesGoal spec goal f →
    LoadCause before now s (ProblemFault before s h goal) f
goal_caused before middle now s h spec given goal f reads later loaded (inl want) =
    record { reads = 2; cause = inr (inl want); fetched = omega (arith, reads.counts.at_most, later.counts.at_most) }
goal_caused before middle now s h spec given goal f reads later loaded (inr none) = record {
  reads = 2;
  cause = inr (inr (
    inr (
      refl,
      record { spec = spec; given = given; loaded = loaded; name = none.1.0; asks = none.1.1; none = none.1.2; is = none.0 },
    ),
    λ is. absurd (let wrong : fault.Goal ≡ fault.Read = sym none.0 ∙ is in cc),
  ));
  fetched = omega (arith, reads.counts.at_most, later.counts.at_most);
}

-- why there is no problem is an answer with its cause
pub load_cause_answers : (job : Job) (call : Call) (s : List ℕ) (first : ℕ → Fault → Type 0) (f : Fault) →
    ((n : ℕ) → LoadReaches call.before s n → job.reaches call.before n) →
    ((n : ℕ) (g : Fault) → first n g → job.due call.before n (status_of g) (message g)) → KeepsFiles call →
    LoadCause call.before call.now s first f → Answers job call (status_of f) (message f)
load_cause_answers job call s first f reached due kept caused =
    cause_answers job call (first caused.reads) caused.reads f (due caused.reads) caused.fetched kept
    (cause_as call.before call.now (LoadReaches call.before s caused.reads) (job.reaches call.before caused.reads) (first caused.reads)
    (first caused.reads) f (reached caused.reads) (λ g x. x) caused.cause)

-- both files are read, one after the other
pub loaded_earlier : (before middle : ShelfView) (s h : List ℕ) (spec : Spec) (given : List (Option ℕ)) → OnlyReads 1 before middle →
    YieldsSpec before s (Ok spec) → YieldsHistory (world_of spec) middle h (Ok given) → IsLoaded before s h spec given
loaded_earlier before middle s h spec given reads first second = record {
  first = first;
  second = yields_earlier (ReadsHistory (world_of spec)) text.History before middle h (Ok given) 1 reads second;
}

-- and the problem is posed
pub posed_loads : (before middle : ShelfView) (s h : List ℕ) (spec asked : Spec) (goal : Option (List ℕ)) (core : Core) (given : List (Option ℕ))
    (p : Posed) → p ≡ posed asked core given → OnlyReads 1 before middle → YieldsSpec before s (Ok spec) →
    YieldsHistory (world_of spec) middle h (Ok given) → IsAskedFor spec goal asked → IsRewriting core asked → IsLoadedProblem before s h goal p
posed_loads before middle s h spec asked goal core given p is reads first second asks exact =
    subst (IsLoadedProblem before s h goal) (sym is)
    (record { spec = spec; loaded = loaded_earlier before middle s h spec given reads first second; asked = asks; rewritten = exact })

-- no goal is asked for, so that none can be missing
pub no_goal_asked : (shelf : ShelfView) (s h : List ℕ) (n : ℕ) (f : Fault) → ProblemFault shelf s h None n f → LoadFault shelf s h n f
no_goal_asked shelf s h n f (inl x) = x
no_goal_asked shelf s h n f (inr x) = absurd (let wrong : None ≡ Some x.1.name = x.1.asks in cc)
