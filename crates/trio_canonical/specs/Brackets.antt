-- The most brackets that are open at once in a canonical text.
use Rattle.std.specs.Prelude.{◌≡◌, ℕ, ◌+◌, List, length, map, take}
use Rattle.std.specs.List.{range_with_len}
use Rattle.trio_text.specs.declared.lexeme.Lexeme.{Lexeme}
use Rattle.trio_syntax.specs.Depth.{open_behind}
use Rattle.trio_types.specs.declared.spec.Which.TheVariants as which
use Rattle.trio_types.specs.Bounds.{greatest}
use Rattle.trio_types.specs.Limits.{count_of}
use Rattle.trio_types.specs.Parts.{Parts}
use Rattle.trio_print.specs.Pieces.{lexemes_in}
use Rattle.trio_print.specs.Canonical.{spec_pieces}

-- the most that are open behind a token of these, and 0 of none
abbrev pub most_open : List Lexeme → ℕ
most_open tokens = greatest (map (λ k. open_behind (take (k + 1) tokens)) (range_with_len 0 (length tokens)))

-- the Nest of any parts is the most brackets that are open in their text
abbrev pub NestIsMostOpen : Type 0
NestIsMostOpen = (parts : Parts) → most_open (lexemes_in (spec_pieces parts)) ≡ count_of which.Nest parts
