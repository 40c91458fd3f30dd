-- The line and the column that come behind a text.
use Rattle.std.specs.Prelude.{ℕ, ◌+◌, ◌==◌, not, List, length, reverse}
use Rattle.std.specs.List.{filter, take_while}

-- one more than its LFs
abbrev pub line_behind : List ℕ → ℕ
line_behind text = 1 + length (filter (λ b. b == 10) text)

-- one more than the bytes since the last of them
abbrev pub column_behind : List ℕ → ℕ
column_behind text = 1 + length (take_while (λ b. not (b == 10)) (reverse text))
