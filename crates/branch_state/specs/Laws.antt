-- The laws of models and branches, in words.
use Rattle.std.specs.Prelude.{◌≡◌, ◌↔◌, ℕ, List, [], ◌∷◌}
use Rattle.std.specs.Cmp.Lexicographic.{slice_cmp}
use Rattle.std.specs.List.{Contains}
use Rattle.std.specs.List.Sorted.{IsStrictlySortedBy}
use Rattle.std.specs.Ordering.{nat_cmp}
use Rattle.branch_state.specs.Posed.{Posed, IsPosed}
use Rattle.branch_state.specs.Models.{models, IsModel}
use Rattle.branch_state.specs.Branches.{reps, root_branch, single_branch, Fits}

-- the models are the tables that extend the given history and make the specification true
abbrev pub ModelsLaw : Type 0
ModelsLaw = (p : Posed) (table : List ℕ) → Contains (models p) table ↔ IsModel p table

-- each stands before those that are greater in the order of lists of indexes, so each stands once
abbrev pub ModelsOrderLaw : Type 0
ModelsOrderLaw = (p : Posed) → IsStrictlySortedBy (slice_cmp nat_cmp) (models p)

-- the root fits and represents the models
abbrev pub RootLaw : Type 0
RootLaw = (p : Posed) → IsPosed p → Fits p (root_branch p) × (reps p (root_branch p) ≡ models p)

-- the branch of a model's single sets fits and represents that model alone
abbrev pub SingleBranchLaw : Type 0
SingleBranchLaw = (p : Posed) → IsPosed p → (table : List ℕ) → IsModel p table → Fits p (single_branch table) × (reps p (single_branch table) ≡ table ∷ [])
