-- Of what the rows of a grammar are made, and which tokens are a text of such a form.
use Rattle.std.specs.Prelude.{◌≡◌, ℕ, ◌+◌, ◌⊎◌, Bool, List, [], ◌∷◌, ◌++◌, length}
use Rattle.trio_base.specs.declared.operators.Rel.{Rel}
use Rattle.trio_base.specs.declared.operators.OneOp.{OneOp}
use Rattle.trio_base.specs.declared.operators.FarOp.{FarOp}
use Rattle.trio_base.specs.declared.operators.PairOp.{PairOp}
use Rattle.trio_text.specs.declared.lexeme.Lexeme.{Lexeme}
use Rattle.trio_text.specs.declared.lexeme.Lexeme.TheVariants as lexeme
use Rattle.trio_text.specs.declared.token.Reserved.{Reserved}
use Rattle.trio_text.specs.declared.token.Symbol.{Symbol}
use Rattle.trio_syntax.specs.declared.tree.Quantifier.{Quantifier}
use Rattle.trio_syntax.specs.declared.tree.TermTree.{TermTree}
use Rattle.trio_syntax.specs.declared.tree.FormulaTree.{FormulaTree}
use Rattle.trio_syntax.specs.Reading.{Language}
use Rattle.trio_syntax.specs.Words.{rel_sign, one_word, far_word, pair_word, quantifier_word, truth_word, item_word, claim_word, arrow_sign, adding_sign}

-- the sorts of tokens that the grammar tells apart
pub data Sort : Type 0 where
  sign : Symbol → Sort
  word : Reserved → Sort
  number : Sort
  name : Sort
  relation : Sort
  adding : Sort
  arrow : Sort
  truth : Sort
  quantifier : Sort
  one_operator : Sort
  far_operator : Sort
  pair_operator : Sort
  item_kind : Sort
  claim_kind : Sort

-- what a token of a sort stands for
abbrev pub SortValue : Sort → Type 0
SortValue (sign s) = Unit {0}
SortValue (word w) = Unit {0}
SortValue number = ℕ
SortValue name = List ℕ
SortValue relation = Rel
SortValue adding = Bool
SortValue arrow = Bool
SortValue truth = Bool
SortValue quantifier = Quantifier
SortValue one_operator = OneOp
SortValue far_operator = FarOp
SortValue pair_operator = PairOp
SortValue item_kind = Bool
SortValue claim_kind = Bool

-- the token that stands for it
abbrev pub token_of : (sort : Sort) → SortValue sort → Lexeme
token_of (sign s) m = lexeme.Sign s
token_of (word w) m = lexeme.Word w
token_of number n = lexeme.Number n
token_of name m = lexeme.Name m
token_of relation r = lexeme.Sign (rel_sign r)
token_of adding minus = lexeme.Sign (adding_sign minus)
token_of arrow both = lexeme.Sign (arrow_sign both)
token_of truth b = lexeme.Word (truth_word b)
token_of quantifier q = lexeme.Word (quantifier_word q)
token_of one_operator op = lexeme.Word (one_word op)
token_of far_operator op = lexeme.Word (far_word op)
token_of pair_operator op = lexeme.Word (pair_word op)
token_of item_kind input = lexeme.Word (item_word input)
token_of claim_kind goal = lexeme.Word (claim_word goal)

-- the nonterminals: the rows of the grammar that lead back to themselves
pub data Nonterminal : Type 0 where
  formula : Nonterminal
  disj : Nonterminal
  conj : Nonterminal
  unary : Nonterminal
  primary : Nonterminal
  term : Nonterminal
  summand : Nonterminal
  factor : Nonterminal
  basic : Nonterminal

-- what a text of a nonterminal stands for; a disjunction and a conjunction stand for the list of their parts
abbrev pub Tree : Nonterminal → Type 0
Tree formula = FormulaTree
Tree disj = List FormulaTree
Tree conj = List FormulaTree
Tree unary = FormulaTree
Tree primary = FormulaTree
Tree term = TermTree
Tree summand = TermTree
Tree factor = TermTree
Tree basic = TermTree

-- A form of texts, each of which stands for a value. A value may tell at which token its text begins.
pub data Form : Type 0 → Type 1 where
  -- no token
  empty : {A : Type 0} → A → Form A
  -- one token of a sort
  one : {A : Type 0} (sort : Sort) → (ℕ → SortValue sort → A) → Form A
  -- a text of a nonterminal
  row : (r : Nonterminal) → Form (Tree r)
  -- one behind the other
  seq : {A B C : Type 0} → Form B → Form C → (ℕ → B → C → A) → Form A
  -- one of two
  either : {A : Type 0} → Form A → Form A → Form A
  -- none or more
  many : {A : Type 0} → Form A → Form (List A)

-- two texts behind one another
pub record Joined {A B C : Type 0} (G : ℕ → Language B) (H : ℕ → Language C) (value : ℕ → B → C → A) (p : ℕ) (tokens : List Lexeme) (v : A) : Type 0 where
  pub front : List Lexeme
  pub rest : List Lexeme
  pub first : B
  pub second : C
  pub one : G p front first
  pub two : H (p + length front) rest second
  pub whole : tokens ≡ front ++ rest
  pub is : v ≡ value p first second

-- texts of one form behind one another
pub data Many {A : Type 0} (G : ℕ → Language A) : ℕ → List Lexeme → List A → Type 0 where
  none : {p : ℕ} → Many G p [] []
  more : {p : ℕ} {x y : List Lexeme} {v : A} {vs : List A} → G p x v → Many G (p + length x) y vs → Many G p (x ++ y) (v ∷ vs)

-- From this place on the tokens are a text of the form and stand for this value, where the texts of rows are these.
unfoldable pub Under : {A : Type 0} → ((r : Nonterminal) → ℕ → Language (Tree r)) → Form A → ℕ → Language A
Under rows (empty a) p x v = (x ≡ []) × (v ≡ a)
Under rows (one sort value) p x v = (m : SortValue sort) × (x ≡ token_of sort m ∷ []) × (v ≡ value p m)
Under rows (row r) p x v = rows r p x v
Under rows (seq g h value) p x v = Joined (Under rows g) (Under rows h) value p x v
Under rows (either g h) p x v = Under rows g p x v ⊎ Under rows h p x v
Under rows (many g) p x v = Many (Under rows g) p x v
