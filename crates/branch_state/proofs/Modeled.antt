-- The models: which tables they are, and their order.
use Rattle.std.proofs.Common.{◌↔◌, ℕ, List, map, get_or, All, Contains}
use Rattle.std.specs.List.Sorted.{IsStrictlySortedBy}
use Rattle.std.specs.Cmp.Lexicographic.{slice_cmp}
use Rattle.std.specs.Ordering.{nat_cmp}
use Rattle.std.proofs.lemmas.Bool.{and_parts, and_from}
use Rattle.std.proofs.lemmas.List.Elements.{Contains-get_or}
use Rattle.std.proofs.lemmas.List.Kept.{IsStrictlySortedBy-filter}
use Rattle.trio_types.specs.Cells.{cells_of, cell_size}
use Rattle.trio_types.specs.Verdict.{is_true_in}
use Rattle.history_table.specs.Fitting.{extends}
use Rattle.branch_state.specs.Posed.{Posed, world_of_problem}
use Rattle.branch_state.specs.Models.{is_model, models, IsModel}
use Rattle.trio_types.specs.Tables.{all_tables}
use Rattle.branch_state.proofs.Contained.{contains_filter, filter_contains}
use Rattle.branch_state.proofs.Listed.{tables_are_all, lists_sorted}

pub models_law : (p : Posed) (table : List ℕ) → Contains (models p) table ↔ IsModel p table
unfolding models
models_law p table = (
  λ has.
      let r = filter_contains (is_model p) (all_tables (world_of_problem p)) table has in
      let both = and_parts (extends p.given table) (is_true_in p.spec table) r.1 in
      record { is_table = (tables_are_all (world_of_problem p) table).0 r.0; extends_given = both.0; is_true = both.1 },
  λ is. contains_filter (is_model p) (all_tables (world_of_problem p)) table
      ((tables_are_all (world_of_problem p) table).1 is.is_table)
      (and_from (extends p.given table) (is_true_in p.spec table) is.extends_given is.is_true),
)

-- what holds of each model holds of each element of their list
pub models_are : (p : Posed) → All (IsModel p) (models p)
models_are p = λ k d inside. (models_law p (get_or (models p) k d)).0 (Contains-get_or (models p) k d inside)

pub models_sorted : (p : Posed) → IsStrictlySortedBy (slice_cmp nat_cmp) (models p)
unfolding models
models_sorted p =
    IsStrictlySortedBy-filter (slice_cmp nat_cmp) (is_model p) (all_tables (world_of_problem p)) (lists_sorted (map (cell_size (world_of_problem p)) (cells_of (world_of_problem p))))
