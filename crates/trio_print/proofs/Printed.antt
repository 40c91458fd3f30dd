-- A text of pieces that stand apart has exactly the tokens that were printed.
use Rattle.std.proofs.Common.{◌≡◌, ℕ, ◌+◌, Bool, true, false, not, ◌&&◌, ◌||◌, nat_eq, List, [], ◌∷◌, ◌++◌, length, drop, map, Some, refl, sym, ap, subst, ◌∙◌, arith, append_assoc, length-append, leb-true}
use Rattle.std.specs.Prelude.{decimal}
use Rattle.std.specs.List.{list_all, starts_with}
use Rattle.std.proofs.lemmas.Bool.{false≢true}
use Rattle.std.proofs.lemmas.Bool.Decides.{Decides-eqb, nat_tests}
use Rattle.std.proofs.lemmas.Slice.Eq.{starts_is}
use Rattle.trio_text.specs.declared.lexeme.Lexeme.{Lexeme}
use Rattle.trio_text.specs.declared.lexeme.Lexeme.TheVariants as lexeme
use Rattle.trio_text.specs.declared.spelling.TheConstants.{SYMBOLS}
use Rattle.trio_text.specs.declared.token.Symbol.{Symbol}
use Rattle.trio_text.specs.declared.token.Token.{Token}
use Rattle.trio_text.specs.declared.token.TokenKind.{TokenKind}
use Rattle.trio_text.specs.declared.token.TokenKind.TheVariants as kind
use Rattle.trio_text.specs.Spelling.{is_letter, is_digit, is_name_byte, word_text, symbol_text, Spells}
use Rattle.trio_text.specs.Tokens.{IsLongest, Lexes, IsTokens}
use Rattle.trio_text.specs.Tokens.Lexes.{nothing, token as lexes_token, blank as lexes_blank}
use Rattle.trio_text.specs.Lexemes.{lexeme_of_kind, lexeme_of, lexemes_of}
use Rattle.trio_text.proofs.Runs.{and_left, and_right, not_true, Ends}
use Rattle.trio_text.proofs.Spellings.{begins_with, is_sign_byte, symbol_listed, word_letter, word_is_word, name_word, number_digit, sign_symbol}
use Rattle.trio_text.proofs.Longest.{drop_seam, longest_word, longest_number}
use Rattle.trio_text.proofs.Spans.{part_between}
use Rattle.trio_print.specs.Pieces.{Piece, token, blank, line_end, lexeme_text, pieces_text, lexemes_in}
use Rattle.trio_print.proofs.Numbers.{decimal_number, decimal_value}
use Rattle.trio_print.proofs.Spaced.{can_grow, grows_by, stand_apart, is_lexeme, can_meet, first_of, are_spaced}

abbrev pub lexeme_kind : Lexeme → TokenKind
lexeme_kind (lexeme.Name name) = kind.Name
lexeme_kind (lexeme.Number n) = kind.Number
lexeme_kind (lexeme.Word r) = kind.Word r
lexeme_kind (lexeme.Sign s) = kind.Sign s

-- the tokens of these pieces, from this place and line on
abbrev pub tokens_of : ℕ → ℕ → List Piece → List Token
tokens_of place line [] = []
tokens_of place line (token x ∷ ps) =
    record { kind = lexeme_kind x; start = place; end = place + length (lexeme_text x); line = line } ∷ tokens_of (place + length (lexeme_text x)) line ps
tokens_of place line (blank ∷ ps) = tokens_of (place + 1) line ps
tokens_of place line (line_end ∷ ps) = tokens_of (place + 1) (line + 1) ps

-- ---- each lexeme is spelled by its text

spells : (x : Lexeme) → is_lexeme x ≡ true → Spells (lexeme_kind x) (lexeme_text x)
spells (lexeme.Name name) is = is
spells (lexeme.Number n) is = decimal_number n (leb-true _ _ is)
spells (lexeme.Word r) is = refl
spells (lexeme.Sign s) is = refl

pub lexeme_back : (x : Lexeme) → is_lexeme x ≡ true → lexeme_of_kind (lexeme_kind x) (lexeme_text x) ≡ x
lexeme_back (lexeme.Name name) is = refl
lexeme_back (lexeme.Number n) is = ap lexeme.Number (decimal_value n (leb-true _ _ is))
lexeme_back (lexeme.Word r) is = refl
lexeme_back (lexeme.Sign s) is = refl

-- ---- what goes on with a token

-- the bytes that would go on with the token
goes_on_by : Lexeme → ℕ → Bool
goes_on_by (lexeme.Name name) = is_name_byte
goes_on_by (lexeme.Number n) = is_digit
goes_on_by (lexeme.Word r) = is_name_byte
goes_on_by (lexeme.Sign s) = λ b. can_grow s && grows_by b

-- nothing is left, or a byte by which a symbol grows, where it does
stops : Bool → List ℕ → Bool
stops g [] = true
stops g (b ∷ bs) = g && grows_by b

-- where one symbol goes on with another, it grows
grows_so : Symbol → Symbol → Bool
grows_so s r = not (starts_with nat_eq (symbol_text r) (symbol_text s)) || stops (can_grow s) (drop (length (symbol_text s)) (symbol_text r))

all_grow_so : (s r : Symbol) → grows_so s r ≡ true
unfolding grows_so stops
all_grow_so s r = symbol_listed r (grows_so s) (symbol_listed s (λ q. list_all (grows_so q) SYMBOLS) refl)

starting : (a b : Bool) → a ≡ true → (not a || b) ≡ true → b ≡ true
starting true b is holds = holds
starting false b is holds = absurd (false≢true is)

no_more : (g : Bool) (rest more after : List ℕ) → Ends (λ b. g && grows_by b) rest → rest ≡ more ++ after → stops g more ≡ true → more ≡ []
unfolding stops
no_more g rest [] after ends is stop = refl
no_more g rest (m ∷ more) after ends is stop =
    let fails : (g && grows_by m) ≡ false = subst (Ends (λ b. g && grows_by b)) is ends in absurd (false≢true (sym fails ∙ stop))

sign_ends : (s : Symbol) (rest : List ℕ) → Ends (λ b. can_grow s && grows_by b) rest → (k : TokenKind) (more after : List ℕ) → rest ≡ more ++ after →
    Spells k (symbol_text s ++ more) → more ≡ []
unfolding grows_so
sign_ends s rest ends k more after is spelled =
    let begins : begins_with is_sign_byte (symbol_text s ++ more) ≡ true = symbol_listed s (λ q. begins_with is_sign_byte (symbol_text q ++ more)) refl in
    let r = sign_symbol k (symbol_text s ++ more) spelled begins in
    let whole : symbol_text r.0 ≡ symbol_text s ++ more = sym r.1 in
    let starts : starts_with nat_eq (symbol_text r.0) (symbol_text s) ≡ true =
    (starts_is Decides-eqb (symbol_text r.0) (symbol_text s) (starts_with nat_eq (symbol_text r.0) (symbol_text s)) refl).1 more whole in
    let left : drop (length (symbol_text s)) (symbol_text r.0) ≡ more = ap (drop (length (symbol_text s))) whole ∙ drop_seam (symbol_text s) more in
    no_more (can_grow s) rest more after ends is
    (ap (stops (can_grow s)) (sym left)
    ∙ starting (starts_with nat_eq (symbol_text r.0) (symbol_text s)) (stops (can_grow s) (drop (length (symbol_text s)) (symbol_text r.0))) starts (all_grow_so s r.0))

longest : (x : Lexeme) (rest : List ℕ) → is_lexeme x ≡ true → Ends (goes_on_by x) rest → IsLongest (lexeme_text x) rest
unfolding goes_on_by
longest (lexeme.Name name) rest is ends = longest_word name rest (name_word name is) ends
longest (lexeme.Number n) rest is ends = longest_number (decimal n) rest (decimal_number n (leb-true _ _ is)) ends
longest (lexeme.Word r) rest is ends = longest_word (word_text r) rest (word_is_word r) ends
longest (lexeme.Sign s) rest is ends = record { longest = λ k more after whole spelled. sign_ends s rest ends k more after whole spelled }

-- ---- what stands behind a token does not go on with it

ends_from : (test other : ℕ → Bool) (word rest : List ℕ) → ((b : ℕ) → other b ≡ true → test b ≡ false) → begins_with other word ≡ true → Ends test (word ++ rest)
ends_from test other [] rest never begins = absurd (false≢true begins)
ends_from test other (b ∷ word) rest never begins = never b begins

and_no : (a b : Bool) → b ≡ false → (a && b) ≡ false
and_no true b fails = fails
and_no false b fails = refl

letter_stays : (b : ℕ) → is_letter b ≡ true → grows_by b ≡ false
letter_stays b letter = grind (arith, nat_tests)

digit_stays : (b : ℕ) → is_digit b ≡ true → grows_by b ≡ false
digit_stays b digit = grind (arith, nat_tests)

sign_behind : (test : ℕ → Bool) (t : Symbol) (rest : List ℕ) → list_all (λ q. begins_with (λ b. not (test b)) (symbol_text q)) SYMBOLS ≡ true →
    Ends test (symbol_text t ++ rest)
sign_behind test t rest none =
    ends_from test (λ b. not (test b)) (symbol_text t) rest (λ b. not_true (test b)) (symbol_listed t (λ q. begins_with (λ b. not (test b)) (symbol_text q)) none)

grown : (g : Bool) (word rest : List ℕ) → begins_with is_sign_byte word ≡ true → not (g && begins_with grows_by word) ≡ true → Ends (λ b. g && grows_by b) (word ++ rest)
grown g [] rest begins holds = absurd (false≢true begins)
grown g (b ∷ word) rest begins holds = not_true (g && grows_by b) holds

token_behind : (x y : Lexeme) (rest : List ℕ) → stand_apart x y ≡ true → is_lexeme y ≡ true → Ends (goes_on_by x) (lexeme_text y ++ rest)
unfolding goes_on_by
token_behind (lexeme.Name name) (lexeme.Sign t) rest stand is = sign_behind is_name_byte t rest refl
token_behind (lexeme.Number n) (lexeme.Sign t) rest stand is = sign_behind is_digit t rest refl
token_behind (lexeme.Word r) (lexeme.Sign t) rest stand is = sign_behind is_name_byte t rest refl
token_behind (lexeme.Sign s) (lexeme.Name name) rest stand is =
    ends_from _ is_letter name rest (λ b letter. and_no (can_grow s) (grows_by b) (letter_stays b letter)) (word_letter name (name_word name is))
token_behind (lexeme.Sign s) (lexeme.Number n) rest stand is =
    ends_from _ is_digit (decimal n) rest (λ b digit. and_no (can_grow s) (grows_by b) (digit_stays b digit))
    (number_digit (decimal n) (decimal_number n (leb-true _ _ is)))
token_behind (lexeme.Sign s) (lexeme.Word r) rest stand is =
    ends_from _ is_letter (word_text r) rest (λ b letter. and_no (can_grow s) (grows_by b) (letter_stays b letter)) (word_letter (word_text r) (word_is_word r))
token_behind (lexeme.Sign s) (lexeme.Sign t) rest stand is =
    grown (can_grow s) (symbol_text t) rest (symbol_listed t (λ q. begins_with is_sign_byte (symbol_text q)) refl) stand
token_behind x y rest stand is = absurd (false≢true stand)

blank_behind : (x : Lexeme) (rest : List ℕ) → Ends (goes_on_by x) (32 ∷ rest)
unfolding goes_on_by
blank_behind (lexeme.Name name) rest = refl
blank_behind (lexeme.Number n) rest = refl
blank_behind (lexeme.Word r) rest = refl
blank_behind (lexeme.Sign s) rest = and_no (can_grow s) false refl

line_end_behind : (x : Lexeme) (rest : List ℕ) → Ends (goes_on_by x) (10 ∷ rest)
unfolding goes_on_by
line_end_behind (lexeme.Name name) rest = refl
line_end_behind (lexeme.Number n) rest = refl
line_end_behind (lexeme.Word r) rest = refl
line_end_behind (lexeme.Sign s) rest = and_no (can_grow s) false refl

pieces_behind : (x : Lexeme) (ps : List Piece) → can_meet (Some (token x)) (first_of ps) ≡ true → are_spaced ps ≡ true → Ends (goes_on_by x) (pieces_text ps)
pieces_behind x [] met spaced = tt
pieces_behind x (token y ∷ ps) met spaced = token_behind x y (pieces_text ps) met (and_left (is_lexeme y) _ spaced)
pieces_behind x (blank ∷ ps) met spaced = blank_behind x (pieces_text ps)
pieces_behind x (line_end ∷ ps) met spaced = line_end_behind x (pieces_text ps)

-- ---- the lexemes among pieces

pub lexemes-append : (x y : List Piece) → lexemes_in (x ++ y) ≡ lexemes_in x ++ lexemes_in y
lexemes-append [] y = refl
lexemes-append (token t ∷ x) y = ap (λ ts. t ∷ ts) (lexemes-append x y)
lexemes-append (blank ∷ x) y = lexemes-append x y
lexemes-append (line_end ∷ x) y = lexemes-append x y

pub lexemes-tokens : (xs : List Lexeme) → lexemes_in (map token xs) ≡ xs
lexemes-tokens [] = refl
lexemes-tokens (x ∷ xs) = ap (λ ts. x ∷ ts) (lexemes-tokens xs)

-- ---- the whole text

pub spaced_lexes : (place line : ℕ) (ps : List Piece) → are_spaced ps ≡ true → Lexes place line (pieces_text ps) (tokens_of place line ps) []
spaced_lexes place line [] spaced = nothing
spaced_lexes place line (token x ∷ ps) spaced =
    let is : is_lexeme x ≡ true = and_left (is_lexeme x) _ spaced in
    let behind = and_right (is_lexeme x) _ spaced in
    let met : can_meet (Some (token x)) (first_of ps) ≡ true = and_left (can_meet (Some (token x)) (first_of ps)) _ behind in
    let more : are_spaced ps ≡ true = and_right (can_meet (Some (token x)) (first_of ps)) _ behind in
    lexes_token {word = lexeme_text x} {text = pieces_text ps} {kind = lexeme_kind x} (spells x is)
    (longest x (pieces_text ps) is (pieces_behind x ps met more)) (spaced_lexes (place + length (lexeme_text x)) line ps more)
spaced_lexes place line (blank ∷ ps) spaced = lexes_blank {b = 32} refl (spaced_lexes (place + 1) line ps spaced)
spaced_lexes place line (line_end ∷ ps) spaced = lexes_blank {b = 10} refl (spaced_lexes (place + 1) (line + 1) ps spaced)

pub spaced_tokens : (ps : List Piece) → are_spaced ps ≡ true → IsTokens (pieces_text ps) (tokens_of 0 1 ps)
spaced_tokens ps spaced = spaced_lexes 0 1 ps spaced

lexemes_from : (text front : List ℕ) (place line : ℕ) (ps : List Piece) → text ≡ front ++ pieces_text ps → length front ≡ place → are_spaced ps ≡ true →
    lexemes_of text (tokens_of place line ps) ≡ lexemes_in ps
lexemes_from text front place line [] whole long spaced = refl
lexemes_from text front place line (token x ∷ ps) whole long spaced =
    let is : is_lexeme x ≡ true = and_left (is_lexeme x) _ spaced in
    let more : are_spaced ps ≡ true = and_right (can_meet (Some (token x)) (first_of ps)) _ (and_right (is_lexeme x) _ spaced) in
    let here : lexeme_of text (record { kind = lexeme_kind x; start = place; end = place + length (lexeme_text x); line = line }) ≡ x =
    ap (lexeme_of_kind (lexeme_kind x)) (part_between text front (lexeme_text x) (pieces_text ps) place whole long) ∙ lexeme_back x is in
    let rest = lexemes_from text (front ++ lexeme_text x) (place + length (lexeme_text x)) line ps (whole ∙ sym (append_assoc front (lexeme_text x) (pieces_text ps)))
    (length-append front (lexeme_text x) ∙ ap (λ n. n + length (lexeme_text x)) long) more in
    (λ i. here i ∷ rest i)
lexemes_from text front place line (blank ∷ ps) whole long spaced =
    lexemes_from text (front ++ 32 ∷ []) (place + 1) line ps (whole ∙ sym (append_assoc front (32 ∷ []) (pieces_text ps)))
    (length-append front (32 ∷ []) ∙ ap (λ n. n + 1) long) spaced
lexemes_from text front place line (line_end ∷ ps) whole long spaced =
    lexemes_from text (front ++ 10 ∷ []) (place + 1) (line + 1) ps (whole ∙ sym (append_assoc front (10 ∷ []) (pieces_text ps)))
    (length-append front (10 ∷ []) ∙ ap (λ n. n + 1) long) spaced

pub spaced_lexemes : (ps : List Piece) → are_spaced ps ≡ true → lexemes_of (pieces_text ps) (tokens_of 0 1 ps) ≡ lexemes_in ps
spaced_lexemes ps spaced = lexemes_from (pieces_text ps) [] 0 1 ps refl refl spaced
