-- A count as it is given.
use Rattle.std.specs.Prelude.{ℕ, min}

-- the greatest number of 64 bits stands for all above it
abbrev pub given_count : ℕ → ℕ
given_count n = min n 18446744073709551615
