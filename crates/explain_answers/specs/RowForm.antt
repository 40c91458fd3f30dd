-- The tokens of a history's line, and where its values begin.
use Rattle.std.specs.Prelude.{ℕ, zero, suc, ◌+◌, ◌-◌, nat_lt, nat_le, Bool, true, false, not, if◌then◌else◌, List, length, take_while, slice_get}
use Rattle.trio_text.specs.declared.token.Symbol.TheVariants as symbol
use Rattle.trio_text.specs.declared.token.TokenKind.{TokenKind}
use Rattle.trio_text.specs.declared.token.TokenKind.TheVariants as kind
use Rattle.trio_text.specs.declared.token.Token.{Token}
use Rattle.explain_answers.specs.declared.row_form.Line.{Line}
use Rattle.explain_answers.specs.Sources.{start_of, end_before, is_of}

-- the tokens of the line of this number: those behind the lines before it, up to those behind it
abbrev pub line_at : List Token → ℕ → Line
line_at tokens number = record {
  first = length (take_while (λ token. nat_lt token.line number) tokens);
  end = length (take_while (λ token. nat_le token.line number) tokens);
}

-- the byte at which a token of a line starts, or that behind the line's last token
abbrev pub byte_in : List Token → Line → ℕ → ℕ
byte_in tokens line number = if nat_lt number line.end then start_of tokens number else end_before tokens line.end

abbrev pub is_colon : TokenKind → Bool
is_colon (kind.Sign symbol.Colon) = true
is_colon found = false

abbrev pub is_minus : TokenKind → Bool
is_minus (kind.Sign symbol.Minus) = true
is_minus found = false

-- the first `:` among so many tokens from this one on, or this end
abbrev pub colon_from : List Token → ℕ → ℕ → ℕ → ℕ
colon_from tokens end at zero = end
colon_from tokens end at (suc more) = if is_of is_colon (slice_get tokens at) then at else colon_from tokens end (at + 1) more

-- the `:` of a line, or the token behind its last
abbrev pub colon_of : List Token → Line → ℕ
colon_of tokens line = colon_from tokens line.end line.first (line.end - line.first)

-- whether a value of a row begins at the token of this number: it is no number behind `-`
abbrev pub begins_value : List Token → ℕ → Bool
begins_value tokens at = not (is_of is_minus (slice_get tokens (at - 1)))

-- the first token of the value of this number, from 1, among so many tokens from this one on, or this end
abbrev pub value_from : List Token → ℕ → ℕ → ℕ → ℕ → ℕ
value_from tokens end number at zero = end
value_from tokens end number at (suc more) =
    if not (begins_value tokens at) then value_from tokens end number (at + 1) more
    else (if nat_le number 1 then at else value_from tokens end (number - 1) (at + 1) more)

-- the first token of the value of this number in a line, or the token behind its last
abbrev pub value_of : List Token → Line → ℕ → ℕ
value_of tokens line number = value_from tokens line.end number (colon_of tokens line + 1) (line.end - (colon_of tokens line + 1))
