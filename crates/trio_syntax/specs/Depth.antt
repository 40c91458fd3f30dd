-- How many brackets are open.
use Rattle.std.specs.Prelude.{ℕ, ◌+◌, ◌-◌, nat_lt, List, length, take, fold, find, Option}
use Rattle.std.specs.List.{range_with_len}
use Rattle.trio_base.specs.declared.limits.TheConstants.{MOST_OPEN}
use Rattle.trio_text.specs.declared.lexeme.Lexeme.{Lexeme}
use Rattle.trio_text.specs.declared.lexeme.Lexeme.TheVariants as lexeme
use Rattle.trio_text.specs.declared.token.Symbol.TheVariants as symbol

-- `(` and `[` open one; `)` and `]` close one, where one is open
abbrev pub open_after : ℕ → Lexeme → ℕ
open_after open_ (lexeme.Sign symbol.LeftRound) = open_ + 1
open_after open_ (lexeme.Sign symbol.LeftSquare) = open_ + 1
open_after open_ (lexeme.Sign symbol.RightRound) = open_ - 1
open_after open_ (lexeme.Sign symbol.RightSquare) = open_ - 1
open_after open_ token = open_

-- how many are open behind these tokens
unfoldable pub open_behind : List Lexeme → ℕ
open_behind tokens = fold open_after 0 tokens

-- the first token with which more are open than may be
unfoldable pub first_deep : List Lexeme → Option ℕ
first_deep tokens = find (λ k. nat_lt MOST_OPEN (open_behind (take (k + 1) tokens))) (range_with_len 0 (length tokens))
