-- The first count above its limit.
use Rattle.std.specs.Prelude.{ℕ, nat_lt, Option, find}
use Rattle.std.specs.Option.{option_map}
use Rattle.trio_types.specs.declared.spec.Which.{Which}
use Rattle.trio_types.specs.Parts.{Parts}
use Rattle.trio_limits.specs.Given.{given_count}
use Rattle.trio_types.specs.Limits.{count_of, limit_of, counted}

-- which count is the first above its limit, and the count
unfoldable pub count_fault : Parts → Option (Which × ℕ)
count_fault parts = option_map (λ w. (w, given_count (count_of w parts))) (find (λ w. nat_lt (limit_of w) (count_of w parts)) counted)
