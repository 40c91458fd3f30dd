-- What a function that reads a form of texts promises: the only text of the form, or where no text of it can go on.
use Rattle.std.specs.Prelude.{◌≡◌, ℕ, ◌+◌, Bool, true, false, not, ◌&&◌, ◌||◌, List, [], ◌∷◌, ◌++◌, length, map, codes, Option, None, Some, option_map, Result, Ok, Err}
use Rattle.std.specs.List.{list_any, list_all, find}
use Rattle.std.specs.Str.{bytes_eq}
use Rattle.trio_text.specs.declared.lexeme.Lexeme.{Lexeme}
use Rattle.trio_text.specs.declared.lexeme.Lexeme.TheVariants as lexeme
use Rattle.trio_text.specs.declared.token.Reserved.{Reserved}
use Rattle.trio_text.specs.declared.token.Symbol.{Symbol}
use Rattle.trio_text.specs.Spelling.{word_text, symbol_text}
use Rattle.trio_syntax.specs.declared.refusal.Refusal.{Refusal}
use Rattle.trio_syntax.specs.declared.refusal.Refusal.TheVariants as refusal
use Rattle.trio_syntax.specs.declared.parser.Parser.{Parser}
use Rattle.trio_syntax.specs.declared.words.TheConstants.{REL_SIGNS, ADDING_SIGNS, ARROW_SIGNS, TRUTH_WORDS, QUANTIFIER_WORDS, ITEM_WORDS, CLAIM_WORDS, ONE_WORDS, FAR_WORDS, PAIR_WORDS}
use Rattle.trio_syntax.specs.Forms.{Sort, sign, word, number, name, relation, adding, arrow, truth, quantifier, one_operator, far_operator, pair_operator, item_kind, claim_kind, SortValue, token_of}
use Rattle.trio_syntax.specs.Forms.{Nonterminal, formula, disj, conj, unary, primary, term, summand, factor, basic}
use Rattle.trio_syntax.specs.Forms.{Form, empty, one, row, seq, either, many}
use Rattle.trio_syntax.specs.Grammar.{Derives}

-- where a parser stands: so many tokens are read, and these are left
pub record Spot : Type 0 where
  pub at : ℕ
  pub rest : List Lexeme

abbrev pub spot : Parser → Spot
spot parser = record { at = parser.at; rest = parser.rest.now }

-- tokens as the grammar tells them apart: words and symbols by their spelling, a name as `a` and a number as `0`
abbrev pub class : Lexeme → List ℕ
class (lexeme.Name n) = codes "a"
class (lexeme.Number n) = codes "0"
class (lexeme.Word w) = word_text w
class (lexeme.Sign s) = symbol_text s

-- a token among these
abbrev pub has : List (List ℕ) → Lexeme → Bool
has set token = list_any (bytes_eq (class token)) set

abbrev pub texts_of_words : {A : Type 0} → List (Reserved × A) → List (List ℕ)
texts_of_words table = map (λ line. word_text line.0) table

abbrev pub texts_of_signs : {A : Type 0} → List (Symbol × A) → List (List ℕ)
texts_of_signs table = map (λ line. symbol_text line.0) table

-- what a word and a symbol stand for by a table
abbrev pub by_word : {A : Type 0} → List (Reserved × A) → Reserved → Option A
by_word table w = option_map (λ line. line.1) (find (λ line. bytes_eq (word_text line.0) (word_text w)) table)

abbrev pub by_sign : {A : Type 0} → List (Symbol × A) → Symbol → Option A
by_sign table s = option_map (λ line. line.1) (find (λ line. bytes_eq (symbol_text line.0) (symbol_text s)) table)

-- the tokens of a sort
abbrev pub tokens_of : Sort → List (List ℕ)
tokens_of (sign s) = symbol_text s ∷ []
tokens_of (word w) = word_text w ∷ []
tokens_of number = codes "0" ∷ []
tokens_of name = codes "a" ∷ []
tokens_of relation = texts_of_signs REL_SIGNS
tokens_of adding = texts_of_signs ADDING_SIGNS
tokens_of arrow = texts_of_signs ARROW_SIGNS
tokens_of truth = texts_of_words TRUTH_WORDS
tokens_of quantifier = texts_of_words QUANTIFIER_WORDS
tokens_of one_operator = texts_of_words ONE_WORDS
tokens_of far_operator = texts_of_words FAR_WORDS
tokens_of pair_operator = texts_of_words PAIR_WORDS
tokens_of item_kind = texts_of_words ITEM_WORDS
tokens_of claim_kind = texts_of_words CLAIM_WORDS

-- the tokens that a text of a row begins with
abbrev pub opens : Nonterminal → List (List ℕ)
opens basic = tokens_of truth ++ (codes "[" ∷ codes "a" ∷ [])
opens factor = codes "0" ∷ (tokens_of truth ++ (codes "[" ∷ codes "a" ∷ []))
opens summand = codes "0" ∷ (tokens_of truth ++ (codes "[" ∷ codes "a" ∷ []))
opens term = codes "-" ∷ codes "0" ∷ (tokens_of truth ++ (codes "[" ∷ codes "a" ∷ []))
opens primary =
    codes "(" ∷ (tokens_of quantifier ++ (tokens_of one_operator ++ (tokens_of far_operator ++ (tokens_of pair_operator ++
    (codes "-" ∷ codes "0" ∷ (tokens_of truth ++ (codes "[" ∷ codes "a" ∷ [])))))))
opens r =
    codes "!" ∷ codes "(" ∷ (tokens_of quantifier ++ (tokens_of one_operator ++ (tokens_of far_operator ++ (tokens_of pair_operator ++
    (codes "-" ∷ codes "0" ∷ (tokens_of truth ++ (codes "[" ∷ codes "a" ∷ [])))))))

-- the tokens with which a text of a row goes on inside a longer text of it
abbrev pub term_goes_on : List (List ℕ)
term_goes_on = codes "+" ∷ codes "-" ∷ codes "*" ∷ codes "(" ∷ []

abbrev pub goes_on : Nonterminal → List (List ℕ)
goes_on basic = codes "(" ∷ []
goes_on factor = codes "(" ∷ []
goes_on summand = codes "*" ∷ codes "(" ∷ []
goes_on term = term_goes_on
goes_on primary = tokens_of relation ++ term_goes_on
goes_on unary = tokens_of relation ++ term_goes_on
goes_on conj = codes "&" ∷ (tokens_of relation ++ term_goes_on)
goes_on disj = codes "|" ∷ codes "&" ∷ (tokens_of relation ++ term_goes_on)
goes_on formula = tokens_of arrow ++ (codes "|" ∷ codes "&" ∷ (tokens_of relation ++ term_goes_on))

-- whether no token is a text of a form
abbrev pub may_be_empty : {A : Type 0} → Form A → Bool
may_be_empty (empty v) = true
may_be_empty (one sort value) = false
may_be_empty (row r) = false
may_be_empty (seq g h value) = may_be_empty g && may_be_empty h
may_be_empty (either g h) = may_be_empty g || may_be_empty h
may_be_empty (many g) = true

abbrev pub where_empty : Bool → List (List ℕ) → List (List ℕ)
where_empty false tokens = []
where_empty true tokens = tokens

-- the tokens that a text of a form begins with
abbrev pub first : {A : Type 0} → Form A → List (List ℕ)
first (empty v) = []
first (one sort value) = tokens_of sort
first (row r) = opens r
first (seq g h value) = first g ++ where_empty (may_be_empty g) (first h)
first (either g h) = first g ++ first h
first (many g) = first g

-- the tokens with which a text of a form goes on inside a longer text of it
abbrev pub follow : {A : Type 0} → Form A → List (List ℕ)
follow (empty v) = []
follow (one sort value) = []
follow (row r) = goes_on r
follow (seq g h value) = follow h ++ where_empty (may_be_empty h) (first h ++ follow g)
follow (either g h) = (follow g ++ follow h) ++ (where_empty (may_be_empty g) (first h) ++ where_empty (may_be_empty h) (first g))
follow (many g) = first g ++ follow g

-- no token is in both sets
abbrev pub apart : List (List ℕ) → List (List ℕ) → Bool
apart set other = list_all (λ c. not (list_any (bytes_eq c) other)) set

-- no token of the set stands in front
abbrev pub Stops : List (List ℕ) → List Lexeme → Type 0
Stops set [] = Unit {0}
Stops set (t ∷ x) = has set t ≡ false

-- the same token stands in front, or none
abbrev pub Alike : List Lexeme → List Lexeme → Type 0
Alike [] [] = Unit {0}
Alike [] (u ∷ y) = ⊥
Alike (t ∷ x) [] = ⊥
Alike (t ∷ x) (u ∷ y) = t ≡ u

-- what stands between the two spots is a text of the form, and with the next token there is no other text and value of it
pub record ReadsForm {A : Type 0} (g : Form A) (old new : Spot) (v : A) : Type 0 where
  pub text : List Lexeme
  pub whole : old.rest ≡ text ++ new.rest
  pub place : new.at ≡ old.at + length text
  pub reading : Derives g old.at text v
  pub only : (x : List Lexeme) (w : A) (s z : List Lexeme) → Derives g old.at x w → Stops (follow g) s → x ++ s ≡ text ++ z → Alike z new.rest → (x ≡ text) × (w ≡ v)

-- what stands between the two spots begins a text of the form, and with the next token it begins none
pub record Stuck {A : Type 0} (g : Form A) (old new : Spot) : Type 0 where
  pub text : List Lexeme
  pub whole : old.rest ≡ text ++ new.rest
  pub place : new.at ≡ old.at + length text
  pub more : List Lexeme
  pub value : A
  pub begins : Derives g old.at (text ++ more) value
  pub dead : (x : List Lexeme) (w : A) (s z : List Lexeme) → Derives g old.at x w → Stops (follow g) s → x ++ s ≡ text ++ z → Alike z new.rest → ⊥

-- the only text of the form is gone over, or what stands before where no text of it goes on
abbrev pub ExactAt : {A : Type 0} → Form A → Spot → Spot → Result A Refusal → Type 0
ExactAt g old new (Ok v) = ReadsForm g old new v
ExactAt g old new (Err refusal.Syntax) = Stuck g old new
ExactAt g old new (Err refusal.Memory) = Unit {0}

abbrev pub Exact : {A : Type 0} → Form A → Parser → Parser → Result A Refusal → Type 0
Exact g old new result = ExactAt g (spot old) (spot new) result

-- a token of the set stands in front
pub record Fronts (set : List (List ℕ)) (x : List Lexeme) : Type 0 where
  pub token : Lexeme
  pub tail : List Lexeme
  pub whole : x ≡ token ∷ tail
  pub is : has set token ≡ true

-- a parser goes over the token of a sort that stands for this
pub record Takes (sort : Sort) (m : SortValue sort) (old new : Spot) : Type 0 where
  pub whole : old.rest ≡ token_of sort m ∷ new.rest
  pub place : new.at ≡ old.at + 1

-- a parser stands still, since no token of the set stands in front
pub record Stays (set : List (List ℕ)) (old new : Spot) : Type 0 where
  pub same : new ≡ old
  pub stops : Stops set old.rest

-- a parser goes over one token
pub record Steps (token : Lexeme) (old new : Spot) : Type 0 where
  pub whole : old.rest ≡ token ∷ new.rest
  pub place : new.at ≡ old.at + 1

-- a parser goes over the next token where it stands in a table of words, or of symbols
abbrev pub FindsWord : {A : Type 0} → List (Reserved × A) → Parser → Parser → Option A → Type 0
FindsWord table old new (Some m) = (w : Reserved) × (by_word table w ≡ Some m) × Steps (lexeme.Word w) (spot old) (spot new)
FindsWord table old new None = Stays (texts_of_words table) (spot old) (spot new)

abbrev pub FindsSign : {A : Type 0} → List (Symbol × A) → Parser → Parser → Option A → Type 0
FindsSign table old new (Some m) = (s : Symbol) × (by_sign table s ≡ Some m) × Steps (lexeme.Sign s) (spot old) (spot new)
FindsSign table old new None = Stays (texts_of_signs table) (spot old) (spot new)

-- a parser goes over the next token where it is of this sort
abbrev pub Finds : (sort : Sort) → Parser → Parser → Option (SortValue sort) → Type 0
Finds sort old new (Some m) = Takes sort m (spot old) (spot new)
Finds sort old new None = Stays (tokens_of sort) (spot old) (spot new)

-- a parser goes over a text of the form, where one begins here
abbrev pub ExactNextAt : {A : Type 0} → Form A → Spot → Spot → Result (Option A) Refusal → Type 0
ExactNextAt g old new (Ok None) = Stays (first g) old new
ExactNextAt g old new (Ok (Some v)) = Fronts (first g) old.rest × ReadsForm g old new v
ExactNextAt g old new (Err refusal.Syntax) = Fronts (first g) old.rest × Stuck g old new
ExactNextAt g old new (Err refusal.Memory) = Unit {0}

abbrev pub ExactNext : {A : Type 0} → Form A → Parser → Parser → Result (Option A) Refusal → Type 0
ExactNext g old new result = ExactNextAt g (spot old) (spot new) result
