-- What the answers of a step hold, and their facts.
use Rattle.std.specs.Prelude.{◌≡◌, ℕ, List, [], ◌∷◌, refl}
use Rattle.std.specs.Coded.{Coded, code_by, coded×, coded_ℕ, coded_list}
use Rattle.branch_state.specs.contracts.branch.Branch as the_branch
use Rattle.decompose.specs.contracts.why.Why as the_why
use Rattle.branch_state.specs.declared.branch.Branch.{Branch}
use Rattle.branch_state.specs.Posed.{Posed, posed_code}
use Rattle.branch_state.specs.Branches.{reps, Fits}
use Rattle.decompose.specs.declared.why.Why.{Why}
use Rattle.decompose.specs.Law.{AreHalves}

pub record ShutView : Type 0 where
  pub problem : Posed
  pub start : Branch
  pub why : Why

pub record LeafView : Type 0 where
  pub problem : Posed
  pub start : Branch
  pub table : List ℕ

pub record ForkView : Type 0 where
  pub problem : Posed
  pub start : Branch
  pub left : Branch
  pub right : Branch

abbrev pub shut_view : Posed → Branch → Why → ShutView
shut_view problem start why = record { problem = problem; start = start; why = why }

abbrev pub leaf_view : Posed → Branch → List ℕ → LeafView
leaf_view problem start table = record { problem = problem; start = start; table = table }

abbrev pub fork_view : Posed → Branch → Branch → Branch → ForkView
fork_view problem start left right = record { problem = problem; start = start; left = left; right = right }

-- by which such values are told apart
abbrev branch_code : Coded Branch
branch_code = (the_branch.the_row).coded

abbrev pub shut_code : Coded ShutView
shut_code =
    code_by (Posed × (Branch × Why)) (coded× posed_code (coded× branch_code (the_why.the_row).coded))
    (λ v. (v.problem, (v.start, v.why))) (λ q. shut_view q.0 q.1.0 q.1.1) (λ _. refl)

abbrev pub leaf_code : Coded LeafView
leaf_code =
    code_by (Posed × (Branch × List ℕ)) (coded× posed_code (coded× branch_code (coded_list coded_ℕ)))
    (λ v. (v.problem, (v.start, v.table))) (λ q. leaf_view q.0 q.1.0 q.1.1) (λ _. refl)

abbrev pub fork_code : Coded ForkView
fork_code =
    code_by (Posed × (Branch × (Branch × Branch))) (coded× posed_code (coded× branch_code (coded× branch_code branch_code)))
    (λ v. (v.problem, (v.start, (v.left, v.right)))) (λ q. fork_view q.0 q.1.0 q.1.1.0 q.1.1.1) (λ _. refl)

-- a closed branch fits, and represents no model
pub record IsShut (p : Posed) (start : Branch) : Type 0 where
  pub fits : Fits p start
  pub none : reps p start ≡ []

-- a whole one fits, and represents its table alone
pub record IsLeaf (p : Posed) (start : Branch) (table : List ℕ) : Type 0 where
  pub fits : Fits p start
  pub alone : reps p start ≡ table ∷ []

-- a parted one fits, and the two are its halves
pub record IsFork (p : Posed) (start left right : Branch) : Type 0 where
  pub fits : Fits p start
  pub halves : AreHalves p start left right
