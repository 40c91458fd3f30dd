-- Specifications with a goal among the axioms.
use Rattle.std.specs.Prelude.{ℕ, ◌++◌, slice_get, option_to_list, remove}
use Rattle.trio_types.specs.Parts.{Parts}

-- the goal of this number stands behind the axioms, and no longer among the goals
abbrev pub with_goal : ℕ → Parts → Parts
with_goal goal parts = record {
  instants = parts.instants;
  domains = parts.domains;
  items = parts.items;
  axioms = parts.axioms ++ option_to_list (slice_get parts.goals goal);
  goals = remove parts.goals goal;
}
