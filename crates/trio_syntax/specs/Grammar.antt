-- The grammar of specification texts: which tokens, from a place on, are which tree.
use Rattle.std.specs.Prelude.{ℕ, zero, suc, Bool, true, false, List, [], ◌∷◌, Option, None, Some}
use Rattle.trio_base.specs.declared.operators.Rel.{Rel}
use Rattle.trio_text.specs.declared.lexeme.Lexeme.{Lexeme}
use Rattle.trio_text.specs.declared.token.Reserved.{Reserved}
use Rattle.trio_text.specs.declared.token.Reserved.TheVariants as words
use Rattle.trio_text.specs.declared.token.Symbol.{Symbol}
use Rattle.trio_text.specs.declared.token.Symbol.TheVariants as signs
use Rattle.trio_syntax.specs.declared.tree.Mention.{Mention}
use Rattle.trio_syntax.specs.declared.tree.Written.{Written}
use Rattle.trio_syntax.specs.declared.tree.TermTree.{TermTree}
use Rattle.trio_syntax.specs.declared.tree.TermShape.TheVariants as shape
use Rattle.trio_syntax.specs.declared.tree.PartTree.{PartTree}
use Rattle.trio_syntax.specs.declared.tree.RefTree.{RefTree}
use Rattle.trio_syntax.specs.declared.tree.RefTree.TheVariants as ref_to
use Rattle.trio_syntax.specs.declared.tree.FormulaTree.{FormulaTree}
use Rattle.trio_syntax.specs.declared.tree.FormulaTree.TheVariants as formulas
use Rattle.trio_syntax.specs.declared.tree.IntTree.{IntTree}
use Rattle.trio_syntax.specs.declared.tree.ValuesTree.{ValuesTree}
use Rattle.trio_syntax.specs.declared.tree.ValuesTree.TheVariants as values
use Rattle.trio_syntax.specs.declared.tree.DeclarationTree.{DeclarationTree}
use Rattle.trio_syntax.specs.declared.tree.DeclarationTree.TheVariants as declared
use Rattle.trio_syntax.specs.declared.tree.ClaimTree.{ClaimTree}
use Rattle.trio_syntax.specs.declared.tree.SpecTree.{SpecTree}
use Rattle.trio_syntax.specs.Reading.{Language}
use Rattle.trio_syntax.specs.Forms.{Sort, SortValue, sign, word, number, name, relation, adding, arrow, truth, quantifier, one_operator, far_operator, pair_operator, item_kind, claim_kind}
use Rattle.trio_syntax.specs.Forms.{Nonterminal, formula, disj, conj, unary, primary, term, summand, factor, basic, Tree}
use Rattle.trio_syntax.specs.Forms.{Form, empty, one, row, seq, either, many, Under}

-- a symbol, a word, a number and a name, the last two with their places
abbrev pub a_sign : Symbol → Form (Unit {0})
a_sign s = one (sign s) (λ p m. m)

abbrev pub a_number : Form Written
a_number = one number (λ p n. record { number = n; place = p })

abbrev pub a_name : Form Mention
a_name = one name (λ p n. record { name = n; place = p })

-- a word, a token of another sort
abbrev pub a_word : Reserved → Form (Unit {0})
a_word w = one (word w) (λ p m. m)

abbrev pub a : (sort : Sort) → Form (SortValue sort)
a sort = one sort (λ p m. m)

-- two texts, which stand for a pair
abbrev pub both : {A B : Type 0} → Form A → Form B → Form (A × B)
both g h = seq g h (λ p v w. (v, w))

-- what stands behind a symbol, and before one
abbrev pub behind_sign : {A : Type 0} → Symbol → Form A → Form A
behind_sign s g = seq (a_sign s) g (λ p u v. v)

abbrev pub before_sign : {A : Type 0} → Form A → Symbol → Form A
before_sign g s = seq g (a_sign s) (λ p v u. v)

-- ( g )
abbrev pub round : {A : Type 0} → Form A → Form A
round g = behind_sign signs.LeftRound (before_sign g signs.RightRound)

-- g { sign g }
abbrev pub listed : {A : Type 0} → Symbol → Form A → Form (List A)
listed s g = seq g (many (behind_sign s g)) (λ p v vs. v ∷ vs)

-- [ g ]
abbrev pub optional : {A : Type 0} → Form (Option A) → Form (Option A)
optional g = either g (empty None)

-- [ - ]: whether it is there
abbrev pub signed : Form Bool
signed = either (one (sign signs.Minus) (λ p u. true)) (empty false)

-- A number is itself, or the one side of a product.
abbrev pub product : ℕ → Written → Option TermTree → TermTree
product p n None = record { place = p; shape = shape.Number n }
product p n (Some t) = record { place = p; shape = shape.Times n t }

-- A name alone, or with arguments.
abbrev pub named : ℕ → Mention → Option (List TermTree) → TermTree
named p m None = record { place = p; shape = shape.Named m }
named p m (Some ts) = record { place = p; shape = shape.Call m ts }

-- One summand without a sign is itself; every other term is a sum.
abbrev pub sum : ℕ → Bool → TermTree → List PartTree → TermTree
sum p false t [] = t
sum p minus t parts = record { place = p; shape = shape.Sum (record { minus = minus; term = t } ∷ parts) }

-- A term alone, or a comparison.
abbrev pub compared : TermTree → Option (Rel × ℕ × TermTree) → FormulaTree
compared t None = formulas.Lone t
compared t (Some r) = formulas.Compare r.0 r.1 t r.2

-- One part is itself.
abbrev pub and_of : List FormulaTree → FormulaTree
and_of (f ∷ []) = f
and_of fs = formulas.And fs

abbrev pub or_of : List FormulaTree → FormulaTree
or_of (f ∷ []) = f
or_of fs = formulas.Or fs

abbrev pub arrowed : Bool → FormulaTree → FormulaTree → FormulaTree
arrowed false f g = formulas.Implies f g
arrowed true f g = formulas.Iff f g

abbrev pub connected : List FormulaTree → Option (Bool × List FormulaTree) → FormulaTree
connected fs None = or_of fs
connected fs (Some r) = arrowed r.0 (or_of fs) (or_of r.1)

-- ref = bool, or name
abbrev pub ref : Form RefTree
ref = either (one (word words.Bool) (λ p u. ref_to.Bool)) (one name (λ p n. ref_to.Named (record { name = n; place = p })))

-- the rest of a quantifier: name : ref ( formula )
abbrev pub bound : Form (Mention × (RefTree × FormulaTree))
bound = both a_name (behind_sign signs.Colon (both ref (round (row formula))))

-- the rest of an operator with a distance: ( formula , term )
abbrev pub distant : Form (FormulaTree × TermTree)
distant = behind_sign signs.LeftRound (both (before_sign (row formula) signs.Comma) (before_sign (row term) signs.RightRound))

-- the rest of an operator on two formulas: ( formula , formula )
abbrev pub paired : Form (FormulaTree × FormulaTree)
paired = behind_sign signs.LeftRound (both (before_sign (row formula) signs.Comma) (before_sign (row formula) signs.RightRound))

-- a quantifier, and the operators: on one formula, with a distance, and on two formulas
abbrev pub quantification : Form FormulaTree
quantification = seq (a quantifier) bound (λ p q r. formulas.Quantified q r.0 r.1.0 r.1.1)

abbrev pub one_operation : Form FormulaTree
one_operation = seq (a one_operator) (round (row formula)) (λ p op f. formulas.One op f)

abbrev pub far_operation : Form FormulaTree
far_operation = seq (a far_operator) distant (λ p op r. formulas.Far op r.0 r.1)

abbrev pub pair_operation : Form FormulaTree
pair_operation = seq (a pair_operator) paired (λ p op r. formulas.Pair op r.0 r.1)

-- atom = term [ rel term ]
abbrev pub atom : Form FormulaTree
atom = seq (row term) (optional (seq (a relation) (row term) (λ p r t. Some (r, p, t)))) (λ p t r. compared t r)

-- [ ( term { , term } ) ]
abbrev pub arguments : Form (Option (List TermTree))
arguments = optional (seq (a_sign signs.LeftRound) (before_sign (listed signs.Comma (row term)) signs.RightRound) (λ p u ts. Some ts))

-- { ( + or - ) summand }
abbrev pub more_summands : Form (List PartTree)
more_summands = many (seq (a adding) (row summand) (λ p minus t. record { minus = minus; term = t }))

abbrev pub production : (r : Nonterminal) → Form (Tree r)
-- formula = disj [ ( -> or <-> ) disj ]
production formula = seq (row disj) (optional (seq (a arrow) (row disj) (λ p both gs. Some (both, gs)))) (λ p fs r. connected fs r)
-- disj = conj { | conj }
production disj = seq (row conj) (many (seq (a_sign signs.Or) (row conj) (λ p u fs. and_of fs))) (λ p fs gs. and_of fs ∷ gs)
-- conj = unary { & unary }
production conj = listed signs.And (row unary)
-- unary = [ ! ] primary
production unary = either (seq (a_sign signs.Not) (row primary) (λ p u f. formulas.Not f)) (row primary)
-- primary = ( formula ), or quantifier, or operator, or atom
production primary = either (round (row formula)) (either quantification (either one_operation (either far_operation (either pair_operation atom))))
-- term = [ - ] summand { ( + or - ) summand }
production term = seq signed (both (row summand) more_summands) (λ p minus r. sum p minus r.0 r.1)
-- summand = number [ * factor ], or what else is a factor
production summand = either (seq a_number (optional (seq (a_sign signs.Times) (row factor) (λ p u t. Some t))) product) (row basic)
-- factor = number, or what else is a factor
production factor = either (one number (λ p n. record { place = p; shape = shape.Number (record { number = n; place = p }) })) (row basic)
-- what else is a factor: true, or false, or [ term ], or name, or name ( term { , term } )
production basic =
    either (one truth (λ p b. record { place = p; shape = shape.Truth b }))
    (either (seq (a_sign signs.LeftSquare) (before_sign (row term) signs.RightSquare) (λ p u t. record { place = p; shape = t.shape }))
    (seq a_name arguments named))

-- int = [ - ] number
abbrev pub int : Form IntTree
int = seq signed a_number (λ p minus n. record { minus = minus; number = n })

-- { name { , name } }, or int .. int
abbrev pub domain_values : Form ValuesTree
domain_values =
    either (seq (a_sign signs.LeftBrace) (before_sign (listed signs.Comma a_name) signs.RightBrace) (λ p u ws. values.Words ws))
    (seq int (behind_sign signs.Span int) (λ p least greatest. values.Range least greatest))

-- domain name = values ;
abbrev pub domain_rest : Form (Mention × ValuesTree)
domain_rest = both a_name (behind_sign signs.Eq (before_sign domain_values signs.Semi))

abbrev pub domain : Form DeclarationTree
domain = seq (a_word words.Domain) domain_rest (λ p u r. declared.Domain (record { name = r.0; values = r.1 }))

-- [ ( ref { , ref } ) ]
abbrev pub refs : Form (List RefTree)
refs = either (round (listed signs.Comma ref)) (empty [])

-- ( item or input ) name [ ( ref { , ref } ) ] : ref ;
abbrev pub item_rest : Form (Mention × (List RefTree × RefTree))
item_rest = both a_name (both refs (behind_sign signs.Colon (before_sign ref signs.Semi)))

abbrev pub item : Form DeclarationTree
item = seq (a item_kind) item_rest (λ p input r. declared.Item (record { input = input; name = r.0; args = r.1.0; value = r.1.1 }))

-- [ at number ]
abbrev pub instant : Form (Option Written)
instant = optional (seq (a_word words.At) a_number (λ p u n. Some n))

-- ( axiom or goal ) name [ at number ] : formula ;
abbrev pub claim_rest : Form (Mention × (Option Written × FormulaTree))
claim_rest = both a_name (both instant (behind_sign signs.Colon (before_sign (row formula) signs.Semi)))

abbrev pub claim : Form ClaimTree
claim = seq (a claim_kind) claim_rest (λ p goal r. record { goal = goal; name = r.0; at = r.1.0; formula = r.1.1 })

-- { domain or item } { axiom or goal }
abbrev pub declaring : Form (List DeclarationTree)
declaring = many (either item domain)

abbrev pub claims : Form (List ClaimTree)
claims = many claim

-- spec = time number ; { domain or item } { axiom or goal }
abbrev pub spec : Form SpecTree
spec =
    seq (a_word words.Time) (both a_number (behind_sign signs.Semi (both declaring claims)))
    (λ p u r. record { instants = r.0; declarations = r.1.0; claims = r.1.1 })

-- the texts of a row in which so many rows at most stand inside one another
unfoldable pub rows_within : ℕ → (r : Nonterminal) → ℕ → Language (Tree r)
rows_within zero r p x v = ⊥
rows_within (suc n) r p x v = Under (rows_within n) (production r) p x v

-- from this place on, the tokens are a text of the form and stand for this value
pub record Derives {A : Type 0} (g : Form A) (p : ℕ) (tokens : List Lexeme) (v : A) : Type 0 where
  pub depth : ℕ
  pub reading : Under (rows_within depth) g p tokens v

-- the tokens are this specification
abbrev pub IsSpec : List Lexeme → SpecTree → Type 0
IsSpec tokens tree = Derives spec 0 tokens tree
