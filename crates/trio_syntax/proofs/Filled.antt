-- Every form has a text at every place.
use Rattle.std.proofs.Common.{ℕ, ◌+◌, false, List, [], ◌∷◌, ◌++◌, length}
use Rattle.trio_text.specs.declared.lexeme.Lexeme.{Lexeme}
use Rattle.trio_base.specs.declared.operators.Rel.TheVariants as rel
use Rattle.trio_base.specs.declared.operators.OneOp.TheVariants as op
use Rattle.trio_base.specs.declared.operators.FarOp.TheVariants as far
use Rattle.trio_base.specs.declared.operators.PairOp.TheVariants as pair
use Rattle.trio_syntax.specs.declared.tree.Quantifier.TheVariants as quant
use Rattle.trio_syntax.specs.Forms.{Sort, sign, word, number, name, relation, adding, arrow, truth, quantifier, one_operator, far_operator, pair_operator, item_kind, claim_kind}
use Rattle.trio_syntax.specs.Forms.{SortValue, token_of, Nonterminal, formula, disj, conj, unary, primary, term, summand, factor, basic, Form, empty, one, row, seq, either, many}
use Rattle.trio_syntax.specs.Grammar.{Derives, production}
use Rattle.trio_syntax.proofs.Says.{says_empty, says_one, says_row, says_seq, says_left, says_right, says_none}

pub some_meaning : (sort : Sort) → SortValue sort
some_meaning (sign s) = tt
some_meaning (word w) = tt
some_meaning number = 0
some_meaning name = []
some_meaning relation = rel.Eq
some_meaning adding = false
some_meaning arrow = false
some_meaning truth = false
some_meaning quantifier = quant.All
some_meaning one_operator = op.Alw
some_meaning far_operator = far.Dist
some_meaning pair_operator = pair.Until
some_meaning item_kind = false
some_meaning claim_kind = false

abbrev pub Filled : {A : Type 0} → Form A → Type 0
Filled {A} g = (p : ℕ) → (y : List Lexeme) × (v : A) × Derives g p y v

some_one : {A : Type 0} {sort : Sort} {value : ℕ → SortValue sort → A} → Filled (one sort value)
some_one {sort = sort} {value = value} p = (token_of sort (some_meaning sort) ∷ [], value p (some_meaning sort), says_one p (some_meaning sort))

some_seq : {A B C : Type 0} {g : Form B} {h : Form C} {value : ℕ → B → C → A} → Filled g → Filled h → Filled (seq g h value)
some_seq {value = value} some_g some_h p =
    let front = some_g p in
    let rest = some_h (p + length front.0) in
    (front.0 ++ rest.0, value p front.1 rest.1, says_seq front.2 rest.2)

some_left : {A : Type 0} {g h : Form A} → Filled g → Filled (either g h)
some_left some_g p = let front = some_g p in (front.0, front.1, says_left front.2)

some_right : {A : Type 0} {g h : Form A} → Filled h → Filled (either g h)
some_right some_h p = let front = some_h p in (front.0, front.1, says_right front.2)

some_row : (r : Nonterminal) → Filled (production r) → Filled (row r)
some_row r some_body p = let front = some_body p in (front.0, front.1, says_row front.2)

some_empty : {A : Type 0} {v : A} → Filled (empty v)
some_empty {v = v} p = ([], v, says_empty p)

some_many : {A : Type 0} {g : Form A} → Filled (many g)
some_many p = ([], [], says_none p)

some_basic : Filled (row basic)
some_basic = some_row basic (some_left some_one)

some_summand : Filled (row summand)
some_summand = some_row summand (some_right some_basic)

some_term : Filled (row term)
some_term = some_row term (some_seq (some_right some_empty) (some_seq some_summand some_many))

some_primary : Filled (row primary)
some_primary = some_row primary (some_right (some_right (some_right (some_right (some_right (some_seq some_term (some_right some_empty)))))))

some_unary : Filled (row unary)
some_unary = some_row unary (some_right some_primary)

some_conj : Filled (row conj)
some_conj = some_row conj (some_seq some_unary some_many)

some_disj : Filled (row disj)
some_disj = some_row disj (some_seq some_conj some_many)

rows : (r : Nonterminal) → Filled (row r)
rows formula = some_row formula (some_seq some_disj (some_right some_empty))
rows disj = some_disj
rows conj = some_conj
rows unary = some_unary
rows primary = some_primary
rows term = some_term
rows summand = some_summand
rows factor = some_row factor (some_left some_one)
rows basic = some_basic

-- the first of two, and none of many
pub fill : {A : Type 0} (g : Form A) → Filled g
fill (empty v) p = some_empty p
fill (one sort value) p = some_one p
fill (row r) p = rows r p
fill (seq g h value) p = some_seq (fill g) (fill h) p
fill (either g h) p = some_left (fill g) p
fill (many g) p = some_many p
