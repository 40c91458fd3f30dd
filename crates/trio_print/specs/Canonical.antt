-- The canonical text of a specification: one statement a line, in the order time, domains, items, axioms, goals.
use Rattle.std.specs.Prelude.{ℕ, ℤ, pos, negsuc, ◌+◌, ◌==◌, Bool, true, false, if◌then◌else◌, List, [], ◌∷◌, ◌++◌, Option, None, Some, map, drop, slice_get, slice_index_or}
use Rattle.std.specs.List.{flat_map}
use Rattle.trio_text.specs.declared.lexeme.Lexeme.TheVariants as lexeme
use Rattle.trio_text.specs.declared.token.Reserved.{Reserved}
use Rattle.trio_text.specs.declared.token.Reserved.TheVariants as word
use Rattle.trio_text.specs.declared.token.Symbol.{Symbol}
use Rattle.trio_text.specs.declared.token.Symbol.TheVariants as symbol
use Rattle.trio_types.specs.declared.spec.DomainKind.{DomainKind}
use Rattle.trio_types.specs.declared.spec.DomainKind.TheVariants as kind
use Rattle.trio_types.specs.declared.spec.Domain.{Domain}
use Rattle.trio_types.specs.declared.spec.Item.{Item}
use Rattle.trio_types.specs.declared.spec.Axiom.{Axiom}
use Rattle.trio_types.specs.declared.formula.Term.{Term}
use Rattle.trio_types.specs.declared.formula.Term.TheOpen.{Term-F, SignedTerm-F}
use Rattle.trio_types.specs.declared.formula.Term.TheOpen as open_term
use Rattle.trio_types.specs.declared.formula.Term.TheFolds.{fold-Term}
use Rattle.trio_types.specs.declared.formula.Formula.{Formula}
use Rattle.trio_types.specs.declared.formula.Formula.TheOpen.{Formula-F}
use Rattle.trio_types.specs.declared.formula.Formula.TheOpen as open_formula
use Rattle.trio_types.specs.declared.formula.Formula.TheFolds.{fold-Formula}
use Rattle.trio_types.specs.Parts.{Parts}
use Rattle.trio_types.specs.Names.{words_of}
use Rattle.trio_syntax.specs.Words.{rel_sign, one_word, far_word, pair_word, adding_sign, truth_word, item_word, claim_word}
use Rattle.trio_print.specs.Pieces.{Piece, token, blank, line_end}

-- a symbol, a word, a name and a number
abbrev pub sign : Symbol → List Piece
sign s = token (lexeme.Sign s) ∷ []

abbrev pub word_ : Reserved → List Piece
word_ r = token (lexeme.Word r) ∷ []

abbrev pub name_ : List ℕ → List Piece
name_ name = token (lexeme.Name name) ∷ []

abbrev pub number_ : ℕ → List Piece
number_ n = token (lexeme.Number n) ∷ []

-- a symbol with a blank before it and one behind it
abbrev pub spaced : Symbol → List Piece
spaced s = blank ∷ sign s ++ blank ∷ []

abbrev pub in_round : List Piece → List Piece
in_round x = sign symbol.LeftRound ++ x ++ sign symbol.RightRound

abbrev pub in_square : List Piece → List Piece
in_square x = sign symbol.LeftSquare ++ x ++ sign symbol.RightSquare

-- the texts in a row with this between them
abbrev pub joined_pieces : List Piece → List (List Piece) → List Piece
joined_pieces between [] = []
joined_pieces between (x ∷ xs) = x ++ flat_map (λ y. between ++ y) xs

-- `, `
abbrev pub comma : List Piece
comma = sign symbol.Comma ++ blank ∷ []

-- nothing, or the texts in `(` and `)` with `, ` between them
abbrev pub listed_pieces : List (List Piece) → List Piece
listed_pieces [] = []
listed_pieces (x ∷ xs) = in_round (joined_pieces comma (x ∷ xs))

abbrev pub integer : ℤ → List Piece
integer (pos n) = number_ n
integer (negsuc n) = sign symbol.Minus ++ number_ (n + 1)

abbrev pub domain_name : Option Domain → List ℕ
domain_name None = []
domain_name (Some domain) = domain.name

-- `bool`, or the name of the domain of this number
abbrev pub ref_pieces : Parts → ℕ → List Piece
ref_pieces parts d = if d == 0 then word_ word.Bool else name_ (domain_name (slice_get parts.domains d))

abbrev pub word_name : Option Domain → ℕ → List ℕ
word_name None v = []
word_name (Some domain) v = slice_index_or (words_of domain.kind) v []

abbrev pub item_name : Option Item → List ℕ
item_name None = []
item_name (Some item) = item.name

-- `false`, `true` or a word
abbrev pub constant : Parts → ℕ → ℕ → List Piece
constant parts d v = if d == 0 then word_ (truth_word (v == 1)) else name_ (word_name (slice_get parts.domains d) v)

-- a text, under the names of the variables in whose bodies it stands, from the outermost on
abbrev pub Printed : Type 0
Printed = List (List ℕ) → List Piece

-- a term by itself, as a part of a sum, where a sum stands in `[` and `]`, and as a factor, where a product does too
pub record TermText : Type 0 where
  pub plain : Printed
  pub as_part : Printed
  pub as_factor : Printed

-- a part of a sum, with its sign
pub record PartText : Type 0 where
  pub minus : Bool
  pub text : Printed

abbrev pub same_text : Printed → TermText
same_text p = record { plain = p; as_part = p; as_factor = p }

abbrev pub first_part : List (List ℕ) → PartText → List Piece
first_part names p = (if p.minus then sign symbol.Minus else []) ++ p.text names

abbrev pub later_part : List (List ℕ) → PartText → List Piece
later_part names p = spaced (adding_sign p.minus) ++ p.text names

abbrev pub sum_text : List PartText → Printed
sum_text [] names = []
sum_text (p ∷ ps) names = first_part names p ++ flat_map (later_part names) ps

abbrev pub read_text : Parts → ℕ → List TermText → Printed
read_text parts number args names =
    name_ (item_name (slice_get parts.items number)) ++ listed_pieces (map (λ a. a.plain names) args)

abbrev pub product_text : ℕ → TermText → Printed
product_text n x names = number_ n ++ spaced symbol.Times ++ x.as_factor names

abbrev pub term_text : Parts → Term-F TermText PartText → TermText
term_text parts (open_term.Number n) = same_text (λ names. number_ n)
term_text parts (open_term.Value d v) = same_text (λ names. constant parts d v)
term_text parts (open_term.Var level) = same_text (λ names. name_ (slice_index_or names level []))
term_text parts (open_term.Read number args) = same_text (read_text parts number args)
term_text parts (open_term.Sum ps) =
    record { plain = sum_text ps; as_part = λ names. in_square (sum_text ps names); as_factor = λ names. in_square (sum_text ps names) }
term_text parts (open_term.Times n x) =
    record { plain = product_text n x; as_part = product_text n x; as_factor = λ names. in_square (product_text n x names) }

abbrev pub part_text : SignedTerm-F TermText PartText → PartText
part_text p = record { minus = p.minus; text = p.term.as_part }

unfoldable pub text_of_term : Parts → Term → TermText
text_of_term parts = fold-Term TermText PartText (term_text parts) part_text

abbrev pub term_plain : Parts → Term → Printed
term_plain parts x = (text_of_term parts x).plain

-- a formula by itself, and as a group, where all but a lone term, a quantifier and an operator stand in `(` and `)`
pub record FormulaText : Type 0 where
  pub plain : Printed
  pub grouped : Printed

abbrev pub own_group : Printed → FormulaText
own_group p = record { plain = p; grouped = p }

abbrev pub in_group : Printed → FormulaText
in_group p = record { plain = p; grouped = λ names. in_round (p names) }

abbrev pub many_text : Symbol → List FormulaText → Printed
many_text s fs names = joined_pieces (spaced s) (map (λ f. f.grouped names) fs)

abbrev pub quantified_text : Parts → Reserved → List ℕ → ℕ → FormulaText → Printed
quantified_text parts q name d f names =
    word_ q ++ blank ∷ name_ name ++ spaced symbol.Colon ++ ref_pieces parts d ++ blank ∷ in_round (f.plain (names ++ name ∷ []))

abbrev pub formula_text : Parts → Formula-F FormulaText → FormulaText
formula_text parts (open_formula.Lone x) = own_group (term_plain parts x)
formula_text parts (open_formula.Compare r x y) = in_group (λ names. term_plain parts x names ++ spaced (rel_sign r) ++ term_plain parts y names)
formula_text parts (open_formula.Not f) = in_group (λ names. sign symbol.Not ++ f.grouped names)
formula_text parts (open_formula.And fs) = in_group (many_text symbol.And fs)
formula_text parts (open_formula.Or fs) = in_group (many_text symbol.Or fs)
formula_text parts (open_formula.Implies f g) = in_group (λ names. f.grouped names ++ spaced symbol.Arrow ++ g.grouped names)
formula_text parts (open_formula.Iff f g) = in_group (λ names. f.grouped names ++ spaced symbol.Both ++ g.grouped names)
formula_text parts (open_formula.All name d f) = own_group (quantified_text parts word.All name d f)
formula_text parts (open_formula.Ex name d f) = own_group (quantified_text parts word.Ex name d f)
formula_text parts (open_formula.One o f) = own_group (λ names. word_ (one_word o) ++ in_round (f.plain names))
formula_text parts (open_formula.Far o f x) = own_group (λ names. word_ (far_word o) ++ in_round (f.plain names ++ comma ++ term_plain parts x names))
formula_text parts (open_formula.Pair o f g) = own_group (λ names. word_ (pair_word o) ++ in_round (f.plain names ++ comma ++ g.plain names))

unfoldable pub text_of_formula : Parts → Formula → FormulaText
text_of_formula parts = fold-Formula FormulaText (formula_text parts)

-- `;` and the end of the line
abbrev pub ended : List Piece → List Piece
ended x = x ++ sign symbol.Semi ++ line_end ∷ []

abbrev pub values_pieces : DomainKind → List Piece
values_pieces kind.Bool = word_ word.Bool
values_pieces (kind.Range low high) = integer low ++ sign symbol.Span ++ integer high
values_pieces (kind.Words words) = sign symbol.LeftBrace ++ joined_pieces comma (map name_ words) ++ sign symbol.RightBrace

abbrev pub domain_text : Domain → List Piece
domain_text domain = ended (word_ word.Domain ++ blank ∷ name_ domain.name ++ spaced symbol.Eq ++ values_pieces domain.kind)

abbrev pub item_text : Parts → Item → List Piece
item_text parts item =
    ended (word_ (item_word item.input) ++ blank ∷ name_ item.name ++ listed_pieces (map (ref_pieces parts) item.args) ++ spaced symbol.Colon ++ ref_pieces parts item.value)

-- nothing, or ` at ` and the instant
abbrev pub at_text : Option ℕ → List Piece
at_text None = []
at_text (Some k) = blank ∷ word_ word.At ++ blank ∷ number_ k

-- an axiom, or a goal
abbrev pub claim_text : Parts → Bool → Axiom → List Piece
claim_text parts is_goal claim =
    ended (word_ (claim_word is_goal) ++ blank ∷ name_ claim.name ++ at_text claim.at ++ spaced symbol.Colon
    ++ (text_of_formula parts claim.formula).plain [])

-- the canonical text; domain 0 is `bool` and needs no statement
unfoldable pub spec_pieces : Parts → List Piece
spec_pieces parts =
    ended (word_ word.Time ++ blank ∷ number_ parts.instants)
    ++ flat_map domain_text (drop 1 parts.domains)
    ++ flat_map (item_text parts) parts.items
    ++ flat_map (claim_text parts false) parts.axioms
    ++ flat_map (claim_text parts true) parts.goals
