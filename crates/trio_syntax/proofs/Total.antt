-- Every list of tokens has a text of a form in front, or a place where none goes on.
use Rattle.std.proofs.Common.{◌≡◌, ℕ, zero, suc, ◌+◌, ◌*◌, ◌<◌, ◌≤◌, ◌⊎◌, inl, inr, ⊎_elim, Bool, true, false, not, ◌&&◌, ◌||◌, List, [], ◌∷◌, length, refl, sym, ap, ◌∙◌, arith, Some}
use Rattle.std.specs.Prelude.{nat_lt, codes}
use Rattle.std.specs.List.{list_all}
use Rattle.std.specs.Str.{bytes_eq}
use Rattle.std.proofs.lemmas.Bool.{and_parts, and_from, true≢false, ltb-true}
use Rattle.std.proofs.lemmas.Slice.Eq.{bytes_eq-Decides}
use Rattle.trio_text.specs.declared.lexeme.Lexeme.{Lexeme}
use Rattle.trio_text.specs.declared.lexeme.Lexeme.TheVariants as lexeme
use Rattle.trio_text.specs.declared.token.Reserved.{Reserved}
use Rattle.trio_text.specs.declared.token.Symbol.{Symbol}
use Rattle.trio_text.specs.declared.token.TokenKind.TheVariants as kind
use Rattle.trio_text.specs.Spelling.{word_text, symbol_text}
use Rattle.trio_text.proofs.Spellings.{kind_of, kind_of-word, kind_of-symbol}
use Rattle.trio_syntax.specs.declared.words.TheConstants.{REL_SIGNS, ADDING_SIGNS, ARROW_SIGNS, TRUTH_WORDS, QUANTIFIER_WORDS, ITEM_WORDS, CLAIM_WORDS, ONE_WORDS, FAR_WORDS, PAIR_WORDS}
use Rattle.trio_syntax.specs.declared.tree.SpecTree.{SpecTree}
use Rattle.trio_syntax.specs.Words.{rel_sign, one_word, far_word, pair_word, quantifier_word, truth_word, item_word, claim_word, arrow_sign, adding_sign}
use Rattle.trio_syntax.specs.Reading.{IsReading, IsSyntaxFault}
use Rattle.trio_syntax.specs.Forms.{Sort, sign, word, number, name, relation, adding, arrow, truth, quantifier, one_operator, far_operator, pair_operator, item_kind, claim_kind}
use Rattle.trio_syntax.specs.Forms.{SortValue, token_of, Nonterminal, formula, disj, conj, unary, primary, term, summand, factor, basic, Form, empty, one, row, seq, either, many}
use Rattle.trio_syntax.specs.Grammar.{production, spec, IsSpec}
use Rattle.trio_syntax.specs.Exact.{Spot, class, has, tokens_of, texts_of_words, texts_of_signs, may_be_empty, first, follow, apart, ReadsForm, Stuck, Fronts, Stays}
use Rattle.trio_syntax.proofs.Sets.{either_true}
use Rattle.trio_syntax.proofs.Tokens.{sign_spelled, word_spelled, stays_end, stays_at}
use Rattle.trio_syntax.proofs.Left.{Left, left_left, left_read, left_stuck, left_row, left_right, left_first, left_seq, seq_stuck, left_many, many_end, reads_one, stuck_one, reads_empty}
use Rattle.trio_syntax.proofs.Filled.{fill, some_meaning}
use Rattle.trio_syntax.proofs.Loops.{reads_less, some_less}
use Rattle.trio_syntax.proofs.Places.{whole_read, stuck_ends, unread_ends, fault_here}
use Rattle.trio_syntax.proofs.Faults.{fault_no_tree}

-- what stands for something is among the tokens of its sort, and nothing else is
abbrev Found : Sort → Lexeme → Type 0
Found sort t = (m : SortValue sort) × (t ≡ token_of sort m)

in_words : {A : Type 0} (table : List (Reserved × A)) (of : A → Reserved) (t : Lexeme) → list_all (λ line. bytes_eq (word_text line.0) (word_text (of line.1))) table ≡ true →
    has (texts_of_words table) t ≡ true → (m : A) × (t ≡ lexeme.Word (of m))
in_words [] of t all is = absurd (true≢false (sym is))
in_words (line ∷ table) of t all is =
    let both = and_parts (bytes_eq (word_text line.0) (word_text (of line.1))) (list_all (λ l. bytes_eq (word_text l.0) (word_text (of l.1))) table) all in
    ⊎_elim
    (λ (here : bytes_eq (class t) (word_text line.0) ≡ true).
    (line.1, word_spelled t (of line.1) ((bytes_eq-Decides (class t) (word_text line.0)).0 here ∙ (bytes_eq-Decides (word_text line.0) (word_text (of line.1))).0 both.0)))
    (λ (later : has (texts_of_words table) t ≡ true). in_words table of t both.1 later)
    (either_true (bytes_eq (class t) (word_text line.0)) (has (texts_of_words table) t) is)

in_signs : {A : Type 0} (table : List (Symbol × A)) (of : A → Symbol) (t : Lexeme) → list_all (λ line. bytes_eq (symbol_text line.0) (symbol_text (of line.1))) table ≡ true →
    has (texts_of_signs table) t ≡ true → (m : A) × (t ≡ lexeme.Sign (of m))
in_signs [] of t all is = absurd (true≢false (sym is))
in_signs (line ∷ table) of t all is =
    let both = and_parts (bytes_eq (symbol_text line.0) (symbol_text (of line.1))) (list_all (λ l. bytes_eq (symbol_text l.0) (symbol_text (of l.1))) table) all in
    ⊎_elim
    (λ (here : bytes_eq (class t) (symbol_text line.0) ≡ true).
    (line.1, sign_spelled t (of line.1) ((bytes_eq-Decides (class t) (symbol_text line.0)).0 here ∙ (bytes_eq-Decides (symbol_text line.0) (symbol_text (of line.1))).0 both.0)))
    (λ (later : has (texts_of_signs table) t ≡ true). in_signs table of t both.1 later)
    (either_true (bytes_eq (class t) (symbol_text line.0)) (has (texts_of_signs table) t) is)

one_text : (text : List ℕ) (t : Lexeme) → has (text ∷ []) t ≡ true → class t ≡ text
one_text text t is =
    ⊎_elim
    (λ (here : bytes_eq (class t) text ≡ true). (bytes_eq-Decides (class t) text).0 here)
    (λ (later : false ≡ true). absurd (true≢false (sym later)))
    (either_true (bytes_eq (class t) text) false is)

number_found : (t : Lexeme) → class t ≡ codes "0" → Found number t
number_found (lexeme.Name n) same = let kinds : Some kind.Name ≡ Some kind.Number = ap kind_of same in cc kinds
number_found (lexeme.Number n) same = (n, refl)
number_found (lexeme.Word w) same = let kinds : Some (kind.Word w) ≡ Some kind.Number = sym (kind_of-word w) ∙ ap kind_of same in cc kinds
number_found (lexeme.Sign s) same = let kinds : Some (kind.Sign s) ≡ Some kind.Number = sym (kind_of-symbol s) ∙ ap kind_of same in cc kinds

name_found : (t : Lexeme) → class t ≡ codes "a" → Found name t
name_found (lexeme.Name n) same = (n, refl)
name_found (lexeme.Number n) same = let kinds : Some kind.Number ≡ Some kind.Name = ap kind_of same in cc kinds
name_found (lexeme.Word w) same = let kinds : Some (kind.Word w) ≡ Some kind.Name = sym (kind_of-word w) ∙ ap kind_of same in cc kinds
name_found (lexeme.Sign s) same = let kinds : Some (kind.Sign s) ≡ Some kind.Name = sym (kind_of-symbol s) ∙ ap kind_of same in cc kinds

found_in : (sort : Sort) (t : Lexeme) → has (tokens_of sort) t ≡ true → Found sort t
found_in (sign s) t is = (tt, sign_spelled t s (one_text (symbol_text s) t is))
found_in (word w) t is = (tt, word_spelled t w (one_text (word_text w) t is))
found_in number t is = number_found t (one_text (codes "0") t is)
found_in name t is = name_found t (one_text (codes "a") t is)
found_in relation t is = in_signs REL_SIGNS rel_sign t refl is
found_in adding t is = in_signs ADDING_SIGNS adding_sign t refl is
found_in arrow t is = in_signs ARROW_SIGNS arrow_sign t refl is
found_in truth t is = in_words TRUTH_WORDS truth_word t refl is
found_in quantifier t is = in_words QUANTIFIER_WORDS quantifier_word t refl is
found_in one_operator t is = in_words ONE_WORDS one_word t refl is
found_in far_operator t is = in_words FAR_WORDS far_word t refl is
found_in pair_operator t is = in_words PAIR_WORDS pair_word t refl is
found_in item_kind t is = in_words ITEM_WORDS item_word t refl is
found_in claim_kind t is = in_words CLAIM_WORDS claim_word t refl is

-- a token of the set stands in front, or not
fronts_or : (set : List (List ℕ)) (old : Spot) → Fronts set old.rest ⊎ Stays set old old
fronts_or set old = cases old.rest refl
  where
    cases : (x : List Lexeme) → old.rest ≡ x → Fronts set old.rest ⊎ Stays set old old
    cases [] end = inr (stays_end end)
    cases (t ∷ x) whole = by_token (has set t) refl
      where
        by_token : (b : Bool) → has set t ≡ b → Fronts set old.rest ⊎ Stays set old old
        by_token true is = inl (record { token = t; tail = x; whole = whole; is = is })
        by_token false is = inr (stays_at t x whole is)

-- what a parser does at a spot
data Outcome {A : Type 0} (g : Form A) (old : Spot) : Type 0 where
  read : (new : Spot) (v : A) → ReadsForm g old new v → Outcome g old
  stuck : (new : Spot) → Stuck g old new → Outcome g old

one_outcome : {A : Type 0} (sort : Sort) (value : ℕ → SortValue sort → A) (old : Spot) → Outcome (one sort value) old
one_outcome sort value old =
    ⊎_elim
    (λ (front : Fronts (tokens_of sort) old.rest).
    let m = found_in sort front.token front.is in
    read (record { at = old.at + 1; rest = front.tail }) (value old.at m.0) (reads_one (record { whole = front.whole ∙ ap (λ t. t ∷ front.tail) m.1; place = refl })))
    (λ (stays : Stays (tokens_of sort) old old). stuck old (stuck_one (some_meaning sort) stays))
    (fronts_or (tokens_of sort) old)

-- by the next token alone a parser knows how to go on
abbrev is_clear : {A : Type 0} → Form A → Bool
is_clear (empty v) = true
is_clear (one sort value) = true
is_clear (row r) = true
is_clear (seq g h value) = apart (follow g) (first h) && (is_clear g && is_clear h)
is_clear (either g h) = not (may_be_empty g) && (apart (first g) (first h) && (is_clear g && is_clear h))
is_clear (many g) = not (may_be_empty g) && (apart (follow g) (first g) && is_clear g)

row_is_clear : (r : Nonterminal) → is_clear (production r) ≡ true
row_is_clear formula = refl
row_is_clear disj = refl
row_is_clear conj = refl
row_is_clear unary = refl
row_is_clear primary = refl
row_is_clear term = refl
row_is_clear summand = refl
row_is_clear factor = refl
row_is_clear basic = refl

-- how high a row stands: it begins with lower rows
abbrev rank : Nonterminal → ℕ
rank formula = 8
rank disj = 7
rank conj = 6
rank unary = 5
rank primary = 4
rank term = 3
rank summand = 2
rank factor = 2
rank basic = 1

-- the rows in front of a form stand lower than this
abbrev begins_below : {A : Type 0} → ℕ → Form A → Bool
begins_below n (empty v) = true
begins_below n (one sort value) = true
begins_below n (row r) = nat_lt (rank r) n
begins_below n (seq g h value) = begins_below n g && (not (may_be_empty g) || begins_below n h)
begins_below n (either g h) = begins_below n g && begins_below n h
begins_below n (many g) = begins_below n g

row_begins_below : (r : Nonterminal) → begins_below (rank r) (production r) ≡ true
row_begins_below formula = refl
row_begins_below disj = refl
row_begins_below conj = refl
row_begins_below unary = refl
row_begins_below primary = refl
row_begins_below term = refl
row_begins_below summand = refl
row_begins_below factor = refl
row_begins_below basic = refl

rank_below : (r : Nonterminal) → nat_lt (rank r) 9 ≡ true
rank_below formula = refl
rank_below disj = refl
rank_below conj = refl
rank_below unary = refl
rank_below primary = refl
rank_below term = refl
rank_below summand = refl
rank_below factor = refl
rank_below basic = refl

or_true : (x y : Bool) → y ≡ true → (x || y) ≡ true
or_true true y is = refl
or_true false y is = is

all_below : {A : Type 0} (g : Form A) → begins_below 9 g ≡ true
all_below (empty v) = refl
all_below (one sort value) = refl
all_below (row r) = rank_below r
all_below (seq g h value) = and_from (begins_below 9 g) (not (may_be_empty g) || begins_below 9 h) (all_below g) (or_true (not (may_be_empty g)) (begins_below 9 h) (all_below h))
all_below (either g h) = and_from (begins_below 9 g) (begins_below 9 h) (all_below g) (all_below h)
all_below (many g) = all_below g

not_true : (b : Bool) → not b ≡ true → b ≡ false
not_true true is = absurd (true≢false (sym is))
not_true false is = refl

after_not : (b c : Bool) → (not b || c) ≡ true → b ≡ true → c ≡ true
after_not true c is here = is
after_not false c is here = absurd (true≢false (sym here))

-- rows are known below a bound: nine for each token that is left, and the rank
abbrev Rows : ℕ → Type 0
Rows bound = (r : Nonterminal) (old : Spot) → 9 * length old.rest + rank r < bound → Outcome (row r) old

lift : {A B : Type 0} {g : Form A} {h : Form B} {value : B → A} {old middle : Spot} → Left g old h value middle → Outcome h middle → Outcome g old
lift {value = value} left (read new v r) = read new (value v) (left_read left r)
lift left (stuck new s) = stuck new (left_stuck left s)

-- none or more texts, by how many tokens are left at most
many_outcome : {A : Type 0} (g : Form A) → may_be_empty g ≡ false → apart (follow g) (first g) ≡ true → (bound n : ℕ) → ((old : Spot) → 9 * length old.rest + n ≤ bound → Outcome g old) →
    (k : ℕ) (old : Spot) → length old.rest < k → 9 * length old.rest + n ≤ bound → Outcome (many g) old
many_outcome g some other bound n each zero old few inside = absurd (omega (arith, few))
many_outcome {A} g some other bound n each (suc k) old few inside =
    ⊎_elim
    (λ (front : Fronts (first g) old.rest). one_more (many_outcome g some other bound n each k) front (each old inside))
    (λ (stays : Stays (first g) old old). read old [] (many_end some stays))
    (fronts_or (first g) old)
  where
    one_more : ((middle : Spot) → length middle.rest < k → 9 * length middle.rest + n ≤ bound → Outcome (many g) middle) → Fronts (first g) old.rest → Outcome g old → Outcome (many g) old
    one_more later front (stuck new s) = stuck new (left_stuck (left_many other front) (seq_stuck (fill (many g)) other s))
    one_more later front (read middle v r) =
        let less = some_less some r in
        lift (left_left (left_many other front) (left_seq other r)) (later middle (omega (arith, less, few)) (omega (arith, less, inside)))

seq_outcome : {A B C : Type 0} (g : Form B) (h : Form C) (value : ℕ → B → C → A) → apart (follow g) (first h) ≡ true → (bound n : ℕ) → (not (may_be_empty g) || begins_below n h) ≡ true →
    ((m : ℕ) → begins_below m h ≡ true → (middle : Spot) → 9 * length middle.rest + m ≤ bound → Outcome h middle) →
    (old : Spot) → 9 * length old.rest + n ≤ bound → Outcome g old → Outcome (seq g h value) old
seq_outcome g h value other bound n below later old inside (stuck new s) = stuck new (seq_stuck (fill h) other s)
seq_outcome {A} g h value other bound n below later old inside (read middle v r) = lift (left_seq {value = value} other r) (by_length (may_be_empty g) refl)
  where
    by_length : (b : Bool) → may_be_empty g ≡ b → Outcome h middle
    by_length true is = later n (after_not (may_be_empty g) (begins_below n h) below is) middle (omega (arith, reads_less r, inside))
    by_length false is = later 9 (all_below h) middle (omega (arith, some_less is r, inside))

either_outcome : {A : Type 0} (g h : Form A) → may_be_empty g ≡ false → apart (first g) (first h) ≡ true → (old : Spot) → Outcome g old → Outcome h old → Outcome (either g h) old
either_outcome g h some other old one_ two_ =
    ⊎_elim
    (λ (front : Fronts (first g) old.rest). lift (left_first other front) one_)
    (λ (stays : Stays (first g) old old). lift (left_right some stays) two_)
    (fronts_or (first g) old)

form_outcome : {A : Type 0} (bound : ℕ) → Rows bound → (g : Form A) → is_clear g ≡ true → (n : ℕ) → begins_below n g ≡ true → (old : Spot) → 9 * length old.rest + n ≤ bound → Outcome g old
form_outcome bound rows (empty v) clear n below old inside = read old v reads_empty
form_outcome bound rows (one sort value) clear n below old inside = one_outcome sort value old
form_outcome bound rows (row r) clear n below old inside = rows r old (omega (arith, ltb-true (rank r) n below, inside))
form_outcome bound rows (seq g h value) clear n below old inside =
    let c = and_parts (apart (follow g) (first h)) (is_clear g && is_clear h) clear in
    let d = and_parts (is_clear g) (is_clear h) c.1 in
    let b = and_parts (begins_below n g) (not (may_be_empty g) || begins_below n h) below in
    seq_outcome g h value c.0 bound n b.1 (form_outcome bound rows h d.1) old inside (form_outcome bound rows g d.0 n b.0 old inside)
form_outcome bound rows (either g h) clear n below old inside =
    let c = and_parts (not (may_be_empty g)) (apart (first g) (first h) && (is_clear g && is_clear h)) clear in
    let d = and_parts (apart (first g) (first h)) (is_clear g && is_clear h) c.1 in
    let e = and_parts (is_clear g) (is_clear h) d.1 in
    let b = and_parts (begins_below n g) (begins_below n h) below in
    either_outcome g h (not_true (may_be_empty g) c.0) d.0 old (form_outcome bound rows g e.0 n b.0 old inside) (form_outcome bound rows h e.1 n b.1 old inside)
form_outcome bound rows (many g) clear n below old inside =
    let c = and_parts (not (may_be_empty g)) (apart (follow g) (first g) && is_clear g) clear in
    let d = and_parts (apart (follow g) (first g)) (is_clear g) c.1 in
    many_outcome g (not_true (may_be_empty g) c.0) d.0 bound n (form_outcome bound rows g d.1 n below) (suc (length old.rest)) old (omega arith) inside

rows_outcome : (bound : ℕ) → Rows bound
rows_outcome zero r old less = absurd (omega (arith, less))
rows_outcome (suc bound) r old less = lift (left_row r) (form_outcome bound (rows_outcome bound) (production r) (row_is_clear r) (rank r) (row_begins_below r) old (omega (arith, less)))

spec_outcome : (tokens : List Lexeme) → Outcome spec (record { at = 0; rest = tokens })
spec_outcome tokens =
    let bound : ℕ = 9 * length tokens + 9 in
    form_outcome bound (rows_outcome bound) spec refl 9 (all_below spec) (record { at = 0; rest = tokens }) (omega arith)

-- every list of tokens has a tree or a fault
pub tree_or_fault : (tokens : List Lexeme) → ((tree : SpecTree) × IsReading IsSpec tokens tree) ⊎ ((place : ℕ) × IsSyntaxFault IsSpec tokens place)
tree_or_fault tokens = cases (spec_outcome tokens)
  where
    cases : Outcome spec (record { at = 0; rest = tokens }) → ((tree : SpecTree) × IsReading IsSpec tokens tree) ⊎ ((place : ℕ) × IsSyntaxFault IsSpec tokens place)
    cases (stuck new s) = inr (new.at, fault_here refl (stuck_ends s))
    cases (read new v r) = by_rest new.rest refl
      where
        by_rest : (rest : List Lexeme) → new.rest ≡ rest → ((tree : SpecTree) × IsReading IsSpec tokens tree) ⊎ ((place : ℕ) × IsSyntaxFault IsSpec tokens place)
        by_rest [] end = inl (v, whole_read end r)
        by_rest (t ∷ rest) more = inr (new.at, fault_here refl (unread_ends (λ none. let same : t ∷ rest ≡ [] = sym more ∙ none in cc same) r))

-- a list of tokens is one tree at most
pub one_tree : (tokens : List Lexeme) (a b : SpecTree) → IsSpec tokens a → IsSpec tokens b → a ≡ b
one_tree tokens a b one_ two_ =
    ⊎_elim
    (λ (found : (tree : SpecTree) × IsReading IsSpec tokens tree). found.1.only a one_ ∙ sym (found.1.only b two_))
    (λ (fault : (place : ℕ) × IsSyntaxFault IsSpec tokens place). absurd (fault_no_tree IsSpec tokens fault.0 a fault.1 one_))
    (tree_or_fault tokens)
