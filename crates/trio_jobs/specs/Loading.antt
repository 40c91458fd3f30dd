-- What loading ends with, as the functions that load and those that call them say it to each other.
use Rattle.std.specs.Prelude.{◌≡◌, ℕ, ◌+◌, ◌≤◌, ◌⊎◌, List, Option, None, Some, Result, Ok, Err, position}
use Rattle.std.specs.Str.{bytes_eq}
use Rattle.trio_io.specs.Outside.{ShelfView, Rose}
use Rattle.trio_types.specs.declared.spec.Spec.{Spec}
use Rattle.trio_types.specs.Verdict.{parts_of}
use Rattle.derived_ops.specs.Goals.{with_goal}
use Rattle.derived_ops.specs.Rewritten.{IsRewriting}
use Rattle.branch_state.specs.Posed.{Posed}
use Rattle.trio_jobs.specs.declared.fault.Fault.{Fault}
use Rattle.trio_jobs.specs.declared.fault.Fault.TheVariants as fault
use Rattle.trio_jobs.specs.Load.{LoadFault, LoadReaches, IsLoaded}

-- Why there is a fault: a fetch failed and that was counted, at a file that reading had reached; memory was wanting; or there is cause for it, where an
-- absence was counted if it is that a file is not there.
abbrev pub HasCause : ShelfView → ShelfView → Type 0 → (Fault → Type 0) → Fault → Type 0
HasCause before now reached cause f =
    ((f ≡ fault.Read) × reached × Rose before.counts.failed_fetches now.counts.failed_fetches)
    ⊎ ((f ≡ fault.Memory) ⊎ (cause f × (f ≡ fault.Read → Rose before.counts.absences now.counts.absences)))

-- what loading one file ends with: what the file yields, or a fault with its cause
abbrev pub Loads : {X : Type 0} → ShelfView → ShelfView → (Result X Fault → Type 0) → Result X Fault → Type 0
Loads before now yields (Ok value) = yields (Ok value)
Loads before now yields (Err f) = HasCause before now (Unit {0}) (λ g. yields (Err g)) f

-- the number of the goal of this name
abbrev pub goal_named : Spec → List ℕ → Option ℕ
goal_named spec name = position (λ goal. bytes_eq goal.name name) spec.goals

-- the specification that is asked for: this one, with the goal of the name among its axioms, if a goal is asked for
abbrev pub IsAskedFor : Spec → Option (List ℕ) → Spec → Type 0
IsAskedFor spec None asked = asked ≡ spec
IsAskedFor spec (Some name) asked = (goal : ℕ) × (goal_named spec name ≡ Some goal) × (parts_of asked ≡ with_goal goal (parts_of spec))

-- why the specification that is asked for is not to be had: it has no goal of that name, or memory was wanting
abbrev pub RefusesGoal : Spec → Option (List ℕ) → Fault → Type 0
RefusesGoal spec goal f = (f ≡ fault.Memory) ⊎ ((f ≡ fault.Goal) × ((name : List ℕ) × (goal ≡ Some name) × (goal_named spec name ≡ None)))

-- both files are read, and the specification has no goal of the name that is asked for
pub record HasNoGoal (shelf : ShelfView) (spec_name history_name : List ℕ) (goal : Option (List ℕ)) (f : Fault) : Type 0 where
  pub spec : Spec
  pub given : List (Option ℕ)
  pub loaded : IsLoaded shelf spec_name history_name spec given
  pub name : List ℕ
  pub asks : goal ≡ Some name
  pub none : goal_named spec name ≡ None
  pub is : f ≡ fault.Goal

-- the first fault of a specification, a history and a goal, and how many files it takes to find it
abbrev pub ProblemFault : ShelfView → List ℕ → List ℕ → Option (List ℕ) → ℕ → Fault → Type 0
ProblemFault shelf spec_name history_name goal reads f =
    LoadFault shelf spec_name history_name reads f ⊎ ((reads ≡ 2) × HasNoGoal shelf spec_name history_name goal f)

-- why there is no problem, with no more files fetched than it takes to know it
pub record LoadCause (before now : ShelfView) (spec_name : List ℕ) (first : ℕ → Fault → Type 0) (f : Fault) : Type 0 where
  pub reads : ℕ
  pub cause : HasCause before now (LoadReaches before spec_name reads) (first reads) f
  pub fetched : now.counts.calls ≤ before.counts.calls + reads

-- the problem that the two files pose, with the goal that is asked for: its core is the rewritten specification
pub record IsLoadedProblem (shelf : ShelfView) (spec_name history_name : List ℕ) (goal : Option (List ℕ)) (p : Posed) : Type 0 where
  pub spec : Spec
  pub loaded : IsLoaded shelf spec_name history_name spec p.given
  pub asked : IsAskedFor spec goal p.spec
  pub rewritten : IsRewriting p.core p.spec

-- what loading a problem ends with
abbrev pub LoadsProblem : ShelfView → ShelfView → List ℕ → List ℕ → Option (List ℕ) → Result Posed Fault → Type 0
LoadsProblem before now spec_name history_name goal (Ok p) = IsLoadedProblem before spec_name history_name goal p
LoadsProblem before now spec_name history_name goal (Err f) =
    LoadCause before now spec_name (ProblemFault before spec_name history_name goal) f
