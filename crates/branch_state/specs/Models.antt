-- The models of a problem: they rest on its specification and given history alone, and on no core.
use Rattle.std.specs.Prelude.{◌≡◌, ℕ, Bool, true, ◌&&◌, List, filter}
use Rattle.trio_types.specs.Cells.{IsTable}
use Rattle.trio_types.specs.Tables.{all_tables}
use Rattle.trio_types.specs.Verdict.{is_true_in}
use Rattle.history_table.specs.Fitting.{extends}
use Rattle.branch_state.specs.Posed.{Posed, world_of_problem}

-- a table extends the given history, and makes the specification true
abbrev pub is_model : Posed → List ℕ → Bool
is_model p table = extends p.given table && is_true_in p.spec table

-- all models, in that order
unfoldable pub models : Posed → List (List ℕ)
models p = filter (is_model p) (all_tables (world_of_problem p))

-- the same said of one table
pub record IsModel (p : Posed) (table : List ℕ) : Type 0 where
  pub is_table : IsTable (world_of_problem p) table
  pub extends_given : extends p.given table ≡ true
  pub is_true : is_true_in p.spec table ≡ true
