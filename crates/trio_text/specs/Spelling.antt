-- How tokens are spelled: names, numbers, reserved words and symbols.
use Rattle.std.specs.Prelude.{◌≡◌, ℕ, Bool, true, false, ◌&&◌, ◌||◌, ◌==◌, List, [], ◌∷◌, codes}
use Rattle.std.specs.List.{list_all}
pub use Rattle.trio_base.specs.Names.{is_letter, is_digit, is_name_byte, is_reserved, is_name}
use Rattle.trio_text.specs.declared.token.Reserved.{Reserved}
use Rattle.trio_text.specs.declared.token.Reserved.TheVariants as reserved
use Rattle.trio_text.specs.declared.token.Symbol.{Symbol}
use Rattle.trio_text.specs.declared.token.Symbol.TheVariants as symbol
use Rattle.trio_text.specs.declared.token.TokenKind.{TokenKind}
use Rattle.trio_text.specs.declared.token.TokenKind.TheVariants as kind

-- space, tab, CR or LF
abbrev pub is_blank : ℕ → Bool
is_blank b = b == 32 || b == 9 || b == 13 || b == 10

-- how a reserved word is spelled
abbrev pub word_text : Reserved → List ℕ
word_text reserved.Time = codes "time"
word_text reserved.Domain = codes "domain"
word_text reserved.Item = codes "item"
word_text reserved.Input = codes "input"
word_text reserved.Fixed = codes "fixed"
word_text reserved.Axiom = codes "axiom"
word_text reserved.Goal = codes "goal"
word_text reserved.At = codes "at"
word_text reserved.All = codes "all"
word_text reserved.Ex = codes "ex"
word_text reserved.Bool = codes "bool"
word_text reserved.True = codes "true"
word_text reserved.False = codes "false"
word_text reserved.Dist = codes "Dist"
word_text reserved.Futr = codes "Futr"
word_text reserved.Past = codes "Past"
word_text reserved.Alw = codes "Alw"
word_text reserved.AlwF = codes "AlwF"
word_text reserved.AlwP = codes "AlwP"
word_text reserved.Som = codes "Som"
word_text reserved.SomF = codes "SomF"
word_text reserved.SomP = codes "SomP"
word_text reserved.Until = codes "Until"
word_text reserved.Since = codes "Since"
word_text reserved.NextTime = codes "NextTime"
word_text reserved.LastTime = codes "LastTime"
word_text reserved.Lasts = codes "Lasts"
word_text reserved.LastsIi = codes "Lasts_ii"
word_text reserved.LastsIe = codes "Lasts_ie"
word_text reserved.LastsEi = codes "Lasts_ei"
word_text reserved.Lasted = codes "Lasted"
word_text reserved.LastedIi = codes "Lasted_ii"
word_text reserved.LastedIe = codes "Lasted_ie"
word_text reserved.LastedEi = codes "Lasted_ei"
word_text reserved.WithinF = codes "WithinF"
word_text reserved.WithinFIi = codes "WithinF_ii"
word_text reserved.WithinFIe = codes "WithinF_ie"
word_text reserved.WithinFEi = codes "WithinF_ei"
word_text reserved.WithinP = codes "WithinP"
word_text reserved.WithinPIi = codes "WithinP_ii"
word_text reserved.WithinPIe = codes "WithinP_ie"
word_text reserved.WithinPEi = codes "WithinP_ei"

-- how a symbol is spelled
abbrev pub symbol_text : Symbol → List ℕ
symbol_text symbol.Semi = codes ";"
symbol_text symbol.Colon = codes ":"
symbol_text symbol.Comma = codes ","
symbol_text symbol.LeftRound = codes "("
symbol_text symbol.RightRound = codes ")"
symbol_text symbol.LeftSquare = codes "["
symbol_text symbol.RightSquare = codes "]"
symbol_text symbol.LeftBrace = codes "{"
symbol_text symbol.RightBrace = codes "}"
symbol_text symbol.Eq = codes "="
symbol_text symbol.Ne = codes "!="
symbol_text symbol.Lt = codes "<"
symbol_text symbol.Le = codes "<="
symbol_text symbol.Gt = codes ">"
symbol_text symbol.Ge = codes ">="
symbol_text symbol.Arrow = codes "->"
symbol_text symbol.Both = codes "<->"
symbol_text symbol.And = codes "&"
symbol_text symbol.Or = codes "|"
symbol_text symbol.Not = codes "!"
symbol_text symbol.Plus = codes "+"
symbol_text symbol.Minus = codes "-"
symbol_text symbol.Times = codes "*"
symbol_text symbol.Span = codes ".."
symbol_text symbol.Unknown = codes "?"

-- a number: one or more digits
abbrev pub is_numeral : List ℕ → Bool
is_numeral [] = false
is_numeral (b ∷ bs) = is_digit b && list_all is_digit bs

-- these bytes are the spelling of a token of this kind
abbrev pub Spells : TokenKind → List ℕ → Type 0
Spells kind.Name word = is_name word ≡ true
Spells kind.Number word = is_numeral word ≡ true
Spells (kind.Word r) word = word ≡ word_text r
Spells (kind.Sign s) word = word ≡ symbol_text s
