-- The law of completions, in words.
use Rattle.std.specs.Prelude.{◌≡◌, ◌↔◌, ℕ, true, List, Option}
use Rattle.std.specs.Cmp.Lexicographic.{slice_cmp}
use Rattle.std.specs.List.{Contains}
use Rattle.std.specs.List.Sorted.{IsStrictlySortedBy}
use Rattle.std.specs.Ordering.{nat_cmp}
use Rattle.trio_types.specs.declared.spec.Spec.{Spec}
use Rattle.trio_types.specs.Cells.{IsTable}
use Rattle.trio_types.specs.Verdict.{world_of, is_true_in}
use Rattle.history_table.specs.Fitting.{extends}
use Rattle.trio_main.specs.Complete.{completions}

-- a table fits the specification's cells, extends the given history, and the specification is true in it
pub record IsTrueExtension (spec : Spec) (given : List (Option ℕ)) (table : List ℕ) : Type 0 where
  pub is_table : IsTable (world_of spec) table
  pub extends_given : extends given table ≡ true
  pub is_true : is_true_in spec table ≡ true

-- the completions are those tables
abbrev pub CompletionsLaw : Type 0
CompletionsLaw = (spec : Spec) (given : List (Option ℕ)) (table : List ℕ) → Contains (completions spec given) table ↔ IsTrueExtension spec given table

-- each stands before those that are greater in the order of lists of indexes, so each stands once
abbrev pub CompletionsOrder : Type 0
CompletionsOrder = (spec : Spec) (given : List (Option ℕ)) → IsStrictlySortedBy (slice_cmp nat_cmp) (completions spec given)
