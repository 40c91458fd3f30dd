-- The six counts as code keeps them, and the first above its limit.
use Rattle.std.specs.Prelude.{ℕ, nat_lt, Option, find}
use Rattle.std.specs.Option.{option_map}
use Rattle.trio_types.specs.declared.spec.Which.{Which}
use Rattle.trio_types.specs.declared.spec.Which.TheVariants as which
use Rattle.trio_types.specs.Parts.{Parts}
use Rattle.trio_types.specs.Limits.{count_of, limit_of, counted}
use Rattle.trio_limits.specs.declared.totals.Totals.{Totals}
use Rattle.trio_limits.specs.Given.{given_count}

abbrev pub total_of : Totals → Which → ℕ
total_of totals which.Items = totals.items
total_of totals which.Cells = totals.cells
total_of totals which.Sizes = totals.sizes
total_of totals which.Bound = totals.bound
total_of totals which.Instances = totals.instances
total_of totals which.Nest = totals.nest

unfoldable pub first_above : Totals → Option (Which × ℕ)
first_above totals = option_map (λ w. (w, total_of totals w)) (find (λ w. nat_lt (limit_of w) (total_of totals w)) counted)

-- the six counts of a specification's parts, each as it is given
abbrev pub totals_of : Parts → Totals
totals_of parts = record {
  items = given_count (count_of which.Items parts);
  cells = given_count (count_of which.Cells parts);
  sizes = given_count (count_of which.Sizes parts);
  bound = given_count (count_of which.Bound parts);
  instances = given_count (count_of which.Instances parts);
  nest = given_count (count_of which.Nest parts);
}
