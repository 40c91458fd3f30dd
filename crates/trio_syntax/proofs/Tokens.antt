-- Which token stands for what, backwards: each token has one meaning of a sort at most.
use Rattle.std.proofs.Common.{◌≡◌, ℕ, Bool, true, false, List, [], ◌∷◌, map, refl, sym, ap, subst, ◌∙◌, Option, None, Some}
use Rattle.std.specs.Prelude.{codes}
use Rattle.std.specs.Str.{bytes_eq}
use Rattle.std.proofs.lemmas.Bool.{or_from, false_from_ne_true}
use Rattle.std.proofs.lemmas.Slice.Eq.{bytes_eq-Decides}
use Rattle.trio_text.specs.declared.lexeme.Lexeme.{Lexeme}
use Rattle.trio_text.specs.declared.lexeme.Lexeme.TheVariants as lexeme
use Rattle.trio_text.specs.declared.token.Reserved.{Reserved}
use Rattle.trio_text.specs.declared.token.Symbol.{Symbol}
use Rattle.trio_text.specs.declared.token.TokenKind.TheVariants as kind
use Rattle.trio_text.specs.Spelling.{word_text, symbol_text}
use Rattle.trio_text.proofs.Spellings.{kind_of, kind_of-word, kind_of-symbol}
use Rattle.trio_base.specs.declared.operators.Rel.TheVariants as rel
use Rattle.trio_base.specs.declared.operators.Ends.TheVariants as ends
use Rattle.trio_base.specs.declared.operators.OneOp.TheVariants as op
use Rattle.trio_base.specs.declared.operators.FarOp.TheVariants as far
use Rattle.trio_base.specs.declared.operators.PairOp.TheVariants as pair
use Rattle.trio_syntax.specs.declared.tree.Quantifier.TheVariants as quant
use Rattle.trio_syntax.specs.declared.words.TheConstants.{REL_SIGNS, ADDING_SIGNS, ARROW_SIGNS, TRUTH_WORDS, QUANTIFIER_WORDS, ITEM_WORDS, CLAIM_WORDS, ONE_WORDS, FAR_WORDS, PAIR_WORDS}
use Rattle.trio_base.specs.declared.operators.FarOp.{FarOp}
use Rattle.trio_syntax.specs.declared.parser.Parser.{Parser}
use Rattle.trio_syntax.specs.Words.{far_word}
use Rattle.trio_syntax.specs.Exact.{by_word, by_sign, class, has, texts_of_words, texts_of_signs, tokens_of, Spot, Stops, Stays, FindsWord, Finds}
use Rattle.trio_syntax.proofs.Lines.{found}
use Rattle.trio_syntax.specs.Forms.{Sort, sign, word, number, name, relation, adding, arrow, truth, quantifier, one_operator, far_operator, pair_operator, item_kind, claim_kind, SortValue, token_of}

abbrev pub word_in : {A : Type 0} → List (Reserved × A) → Lexeme → Option A
word_in table (lexeme.Word w) = by_word table w
word_in table token = None

abbrev pub sign_in : {A : Type 0} → List (Symbol × A) → Lexeme → Option A
sign_in table (lexeme.Sign s) = by_sign table s
sign_in table token = None

abbrev pub number_in : Lexeme → Option ℕ
number_in (lexeme.Number n) = Some n
number_in token = None

abbrev pub name_in : Lexeme → Option (List ℕ)
name_in (lexeme.Name n) = Some n
name_in token = None

abbrev pub meaning_in : (sort : Sort) → Lexeme → Option (SortValue sort)
meaning_in (sign s) token = sign_in ((s, tt) ∷ []) token
meaning_in (word w) token = word_in ((w, tt) ∷ []) token
meaning_in number token = number_in token
meaning_in name token = name_in token
meaning_in relation token = sign_in REL_SIGNS token
meaning_in adding token = sign_in ADDING_SIGNS token
meaning_in arrow token = sign_in ARROW_SIGNS token
meaning_in truth token = word_in TRUTH_WORDS token
meaning_in quantifier token = word_in QUANTIFIER_WORDS token
meaning_in one_operator token = word_in ONE_WORDS token
meaning_in far_operator token = word_in FAR_WORDS token
meaning_in pair_operator token = word_in PAIR_WORDS token
meaning_in item_kind token = word_in ITEM_WORDS token
meaning_in claim_kind token = word_in CLAIM_WORDS token

-- every token that stands for something is found
relation_found : (m : SortValue relation) → meaning_in relation (token_of relation m) ≡ Some m
relation_found rel.Eq = refl
relation_found rel.Ne = refl
relation_found rel.Lt = refl
relation_found rel.Le = refl
relation_found rel.Gt = refl
relation_found rel.Ge = refl

one_found : (m : SortValue one_operator) → meaning_in one_operator (token_of one_operator m) ≡ Some m
one_found op.Alw = refl
one_found op.AlwF = refl
one_found op.AlwP = refl
one_found op.Som = refl
one_found op.SomF = refl
one_found op.SomP = refl

far_found : (m : SortValue far_operator) → meaning_in far_operator (token_of far_operator m) ≡ Some m
far_found far.Dist = refl
far_found far.Futr = refl
far_found far.Past = refl
far_found far.NextTime = refl
far_found far.LastTime = refl
far_found (far.Lasts ends.Bare) = refl
far_found (far.Lasts ends.Ii) = refl
far_found (far.Lasts ends.Ie) = refl
far_found (far.Lasts ends.Ei) = refl
far_found (far.Lasted ends.Bare) = refl
far_found (far.Lasted ends.Ii) = refl
far_found (far.Lasted ends.Ie) = refl
far_found (far.Lasted ends.Ei) = refl
far_found (far.WithinF ends.Bare) = refl
far_found (far.WithinF ends.Ii) = refl
far_found (far.WithinF ends.Ie) = refl
far_found (far.WithinF ends.Ei) = refl
far_found (far.WithinP ends.Bare) = refl
far_found (far.WithinP ends.Ii) = refl
far_found (far.WithinP ends.Ie) = refl
far_found (far.WithinP ends.Ei) = refl

same_by : {A B : Type 0} (find_in : B → Option A) (of : A → B) → ((m : A) → find_in (of m) ≡ Some m) → (m n : A) → of m ≡ of n → m ≡ n
same_by find_in of found m n same = let some : Some m ≡ Some n = sym (found m) ∙ ap find_in same ∙ found n in cc some

bool_found : (find_in : Lexeme → Option Bool) (of : Bool → Lexeme) → find_in (of false) ≡ Some false → find_in (of true) ≡ Some true → (m : Bool) → find_in (of m) ≡ Some m
bool_found find_in of one two false = one
bool_found find_in of one two true = two

quantifier_found : (m : SortValue quantifier) → meaning_in quantifier (token_of quantifier m) ≡ Some m
quantifier_found quant.All = refl
quantifier_found quant.Ex = refl

pair_found : (m : SortValue pair_operator) → meaning_in pair_operator (token_of pair_operator m) ≡ Some m
pair_found pair.Until = refl
pair_found pair.Since = refl

-- a token has one meaning of a sort
pub same_meaning : (sort : Sort) (m n : SortValue sort) → token_of sort m ≡ token_of sort n → m ≡ n
same_meaning (sign s) m n same = refl
same_meaning (word w) m n same = refl
same_meaning number m n same = cc
same_meaning name m n same = cc
same_meaning relation m n same = same_by (meaning_in relation) (token_of relation) relation_found m n same
same_meaning adding m n same = same_by (meaning_in adding) (token_of adding) (bool_found (meaning_in adding) (token_of adding) refl refl) m n same
same_meaning arrow m n same = same_by (meaning_in arrow) (token_of arrow) (bool_found (meaning_in arrow) (token_of arrow) refl refl) m n same
same_meaning truth m n same = same_by (meaning_in truth) (token_of truth) (bool_found (meaning_in truth) (token_of truth) refl refl) m n same
same_meaning quantifier m n same = same_by (meaning_in quantifier) (token_of quantifier) quantifier_found m n same
same_meaning one_operator m n same = same_by (meaning_in one_operator) (token_of one_operator) one_found m n same
same_meaning far_operator m n same = same_by (meaning_in far_operator) (token_of far_operator) far_found m n same
same_meaning pair_operator m n same = same_by (meaning_in pair_operator) (token_of pair_operator) pair_found m n same
same_meaning item_kind m n same = same_by (meaning_in item_kind) (token_of item_kind) (bool_found (meaning_in item_kind) (token_of item_kind) refl refl) m n same
same_meaning claim_kind m n same = same_by (meaning_in claim_kind) (token_of claim_kind) (bool_found (meaning_in claim_kind) (token_of claim_kind) refl refl) m n same

-- a token with the text of a symbol, or of a word, is it
pub sign_spelled : (t : Lexeme) (s : Symbol) → class t ≡ symbol_text s → t ≡ lexeme.Sign s
sign_spelled (lexeme.Name n) s same = let kinds : Some kind.Name ≡ Some (kind.Sign s) = ap kind_of same ∙ kind_of-symbol s in cc kinds
sign_spelled (lexeme.Number n) s same = let kinds : Some kind.Number ≡ Some (kind.Sign s) = ap kind_of same ∙ kind_of-symbol s in cc kinds
sign_spelled (lexeme.Word w) s same = let kinds : Some (kind.Word w) ≡ Some (kind.Sign s) = sym (kind_of-word w) ∙ ap kind_of same ∙ kind_of-symbol s in cc kinds
sign_spelled (lexeme.Sign u) s same = let kinds : Some (kind.Sign u) ≡ Some (kind.Sign s) = sym (kind_of-symbol u) ∙ ap kind_of same ∙ kind_of-symbol s in cc kinds

pub word_spelled : (t : Lexeme) (w : Reserved) → class t ≡ word_text w → t ≡ lexeme.Word w
word_spelled (lexeme.Name n) w same = let kinds : Some kind.Name ≡ Some (kind.Word w) = ap kind_of same ∙ kind_of-word w in cc kinds
word_spelled (lexeme.Number n) w same = let kinds : Some kind.Number ≡ Some (kind.Word w) = ap kind_of same ∙ kind_of-word w in cc kinds
word_spelled (lexeme.Word u) w same = let kinds : Some (kind.Word u) ≡ Some (kind.Word w) = sym (kind_of-word u) ∙ ap kind_of same ∙ kind_of-word w in cc kinds
word_spelled (lexeme.Sign s) w same = let kinds : Some (kind.Sign s) ≡ Some (kind.Word w) = sym (kind_of-symbol s) ∙ ap kind_of same ∙ kind_of-word w in cc kinds

-- a token with none of the texts
none_of : {W A : Type 0} (text : W → List ℕ) (table : List (W × A)) (t : Lexeme) → ((w : W) → class t ≡ text w → ⊥) → has (map (λ line. text line.0) table) t ≡ false
none_of text [] t other = refl
none_of text (line ∷ table) t other =
    or_from (bytes_eq (class t) (text line.0)) (has (map (λ l. text l.0) table) t)
    (false_from_ne_true (bytes_eq (class t) (text line.0)) (λ is. other line.0 ((bytes_eq-Decides (class t) (text line.0)).0 is)))
    (none_of text table t other)

pub no_sign : {A : Type 0} (table : List (Symbol × A)) (t : Lexeme) → ((s : Symbol) → t ≡ lexeme.Sign s → ⊥) → has (texts_of_signs table) t ≡ false
no_sign table t other = none_of symbol_text table t (λ s same. other s (sign_spelled t s same))

pub no_word : {A : Type 0} (table : List (Reserved × A)) (t : Lexeme) → ((w : Reserved) → t ≡ lexeme.Word w → ⊥) → has (texts_of_words table) t ≡ false
no_word table t other = none_of word_text table t (λ w same. other w (word_spelled t w same))

-- the parser stays, by what stands in front
pub stays_at : {set : List (List ℕ)} {old : Spot} (t : Lexeme) (more : List Lexeme) → old.rest ≡ t ∷ more → has set t ≡ false → Stays set old old
stays_at {set} t more whole other = record { same = refl; stops = subst (λ (y : List Lexeme). Stops set y) (sym whole) other }

pub stays_end : {set : List (List ℕ)} {old : Spot} → old.rest ≡ [] → Stays set old old
stays_end {set} end = record { same = refl; stops = subst (λ (y : List Lexeme). Stops set y) (sym end) tt }

-- a word of the table of the operators with a distance
pub finds_far : (old new : Parser) (r : Option FarOp) → FindsWord FAR_WORDS old new r → Finds far_operator old new r
finds_far old new None finds = finds
finds_far old new (Some m) finds =
    let w = finds.0 in
    let same : lexeme.Word w ≡ lexeme.Word (far_word m) = word_spelled (lexeme.Word w) (far_word m) (sym (found word_text far_word FAR_WORDS (word_text w) m refl finds.1)) in
    record { whole = finds.2.whole ∙ ap (λ t. t ∷ new.rest.now) same; place = finds.2.place }

pub no_name : (t : Lexeme) → ((n : List ℕ) → t ≡ lexeme.Name n → ⊥) → has (tokens_of name) t ≡ false
no_name (lexeme.Name n) other = absurd (other n refl)
no_name (lexeme.Number n) other = refl
no_name (lexeme.Word w) other =
    or_from (bytes_eq (word_text w) (codes "a")) false (false_from_ne_true (bytes_eq (word_text w) (codes "a"))
    (λ is. let kinds : Some (kind.Word w) ≡ Some kind.Name = sym (kind_of-word w) ∙ ap kind_of ((bytes_eq-Decides (word_text w) (codes "a")).0 is) in cc kinds)) refl
no_name (lexeme.Sign s) other =
    or_from (bytes_eq (symbol_text s) (codes "a")) false (false_from_ne_true (bytes_eq (symbol_text s) (codes "a"))
    (λ is. let kinds : Some (kind.Sign s) ≡ Some kind.Name = sym (kind_of-symbol s) ∙ ap kind_of ((bytes_eq-Decides (symbol_text s) (codes "a")).0 is) in cc kinds)) refl
