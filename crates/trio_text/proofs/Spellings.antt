-- How each kind of token is spelled: with which bytes it begins and goes on, and that a spelling has one kind.
use Rattle.std.proofs.Common.{◌≡◌, ℕ, Bool, true, false, not, ◌&&◌, ◌||◌, ◌==◌, List, [], ◌∷◌, refl, sym, ap, ◌∙◌, arith, lit<}
use Rattle.std.specs.Prelude.{Option, Some, None, if◌then◌else◌, option_map, bytes_eq}
use Rattle.std.specs.List.{list_all}
use Rattle.std.proofs.lemmas.Bool.{false≢true}
use Rattle.std.proofs.lemmas.Bool.Decides.{nat_tests}
use Rattle.std.proofs.lemmas.Slice.Eq.{bytes_eq-Decides}
use Rattle.trio_text.specs.declared.token.Reserved.{Reserved}
use Rattle.trio_text.specs.declared.token.Reserved.TheVariants as word
use Rattle.trio_text.specs.declared.token.Symbol.{Symbol}
use Rattle.trio_text.specs.declared.token.Symbol.TheVariants as symbol
use Rattle.trio_text.specs.declared.token.TokenKind.{TokenKind}
use Rattle.trio_text.specs.declared.token.TokenKind.TheVariants as kind
use Rattle.trio_text.specs.Spelling.{is_letter, is_digit, is_name_byte, is_blank, is_reserved, is_name, is_numeral, word_text, symbol_text, Spells}
use Rattle.trio_text.specs.declared.spelling.TheConstants.{RESERVED, SYMBOLS}
use Rattle.trio_text.specs.Reading.{is_word, reserved_of, symbol_of}
use Rattle.trio_text.proofs.Runs.{and_left, and_right, and_both, or_left, not_true, all_at, find_none, find_nothing, found_passes, fails_each}

-- the first byte passes the test
abbrev pub begins_with : (ℕ → Bool) → List ℕ → Bool
begins_with test [] = false
begins_with test (b ∷ bs) = test b

-- a byte that is no letter, digit, blank or slash
abbrev pub is_sign_byte : ℕ → Bool
is_sign_byte b = not (is_letter b) && (not (is_digit b) && (not (is_blank b) && not (b == 47)))

-- a byte that is no blank and no slash
abbrev pub begins_token : ℕ → Bool
begins_token b = not (is_blank b) && not (b == 47)

-- the kind of a word or a name, by the reserved word that it is
abbrev pub kind_by : Option Reserved → TokenKind
kind_by None = kind.Name
kind_by (Some r) = kind.Word r

-- the kind that a spelling has
abbrev pub kind_of : List ℕ → Option TokenKind
kind_of word =
    if begins_with is_letter word then Some (kind_by (reserved_of word)) else
    (if begins_with is_digit word then Some kind.Number else option_map kind.Sign (symbol_of word))

-- a reserved word is spelled by a letter and bytes that go on with names
pub word_is_word : (r : Reserved) → is_word (word_text r) ≡ true
word_is_word word.Time = refl
word_is_word r = refl

-- a reserved word's spelling is that of no other kind
pub kind_of-word : (r : Reserved) → kind_of (word_text r) ≡ Some (kind.Word r)
kind_of-word word.Time = refl
kind_of-word r = refl

-- a symbol begins with a byte with which nothing else begins
pub symbol_begins : (s : Symbol) → begins_with is_sign_byte (symbol_text s) ≡ true
symbol_begins symbol.Semi = refl
symbol_begins s = refl

-- a symbol's spelling is that of no other kind
pub kind_of-symbol : (s : Symbol) → kind_of (symbol_text s) ≡ Some (kind.Sign s)
kind_of-symbol symbol.Semi = refl
kind_of-symbol s = refl

-- every symbol is listed
pub symbol_listed : (s : Symbol) (test : Symbol → Bool) → list_all test SYMBOLS ≡ true → test s ≡ true
symbol_listed symbol.Semi test all = all_at test SYMBOLS 6 symbol.Semi all (lit< tt)
symbol_listed symbol.Colon test all = all_at test SYMBOLS 7 symbol.Semi all (lit< tt)
symbol_listed symbol.Comma test all = all_at test SYMBOLS 8 symbol.Semi all (lit< tt)
symbol_listed symbol.LeftRound test all = all_at test SYMBOLS 9 symbol.Semi all (lit< tt)
symbol_listed symbol.RightRound test all = all_at test SYMBOLS 10 symbol.Semi all (lit< tt)
symbol_listed symbol.LeftSquare test all = all_at test SYMBOLS 11 symbol.Semi all (lit< tt)
symbol_listed symbol.RightSquare test all = all_at test SYMBOLS 12 symbol.Semi all (lit< tt)
symbol_listed symbol.LeftBrace test all = all_at test SYMBOLS 13 symbol.Semi all (lit< tt)
symbol_listed symbol.RightBrace test all = all_at test SYMBOLS 14 symbol.Semi all (lit< tt)
symbol_listed symbol.Eq test all = all_at test SYMBOLS 15 symbol.Semi all (lit< tt)
symbol_listed symbol.Ne test all = all_at test SYMBOLS 1 symbol.Semi all (lit< tt)
symbol_listed symbol.Lt test all = all_at test SYMBOLS 16 symbol.Semi all (lit< tt)
symbol_listed symbol.Le test all = all_at test SYMBOLS 2 symbol.Semi all (lit< tt)
symbol_listed symbol.Gt test all = all_at test SYMBOLS 17 symbol.Semi all (lit< tt)
symbol_listed symbol.Ge test all = all_at test SYMBOLS 3 symbol.Semi all (lit< tt)
symbol_listed symbol.Arrow test all = all_at test SYMBOLS 4 symbol.Semi all (lit< tt)
symbol_listed symbol.Both test all = all_at test SYMBOLS 0 symbol.Semi all (lit< tt)
symbol_listed symbol.And test all = all_at test SYMBOLS 18 symbol.Semi all (lit< tt)
symbol_listed symbol.Or test all = all_at test SYMBOLS 19 symbol.Semi all (lit< tt)
symbol_listed symbol.Not test all = all_at test SYMBOLS 20 symbol.Semi all (lit< tt)
symbol_listed symbol.Plus test all = all_at test SYMBOLS 21 symbol.Semi all (lit< tt)
symbol_listed symbol.Minus test all = all_at test SYMBOLS 22 symbol.Semi all (lit< tt)
symbol_listed symbol.Times test all = all_at test SYMBOLS 23 symbol.Semi all (lit< tt)
symbol_listed symbol.Span test all = all_at test SYMBOLS 5 symbol.Semi all (lit< tt)
symbol_listed symbol.Unknown test all = all_at test SYMBOLS 24 symbol.Semi all (lit< tt)

-- ---- the classes of bytes

pub letter_no_digit : (b : ℕ) → is_letter b ≡ true → is_digit b ≡ true → ⊥
letter_no_digit b letter digit = grind (arith, nat_tests)

pub letter_begins : (b : ℕ) → is_letter b ≡ true → begins_token b ≡ true
letter_begins b letter = grind (arith, nat_tests)

pub digit_begins : (b : ℕ) → is_digit b ≡ true → begins_token b ≡ true
digit_begins b digit = grind (arith, nat_tests)

pub digit_no_letter : (b : ℕ) → is_digit b ≡ true → is_letter b ≡ false
digit_no_letter b digit = grind (arith, nat_tests)

-- ---- words

pub reserved_spells : (spelled : List ℕ) (r : Reserved) → reserved_of spelled ≡ Some r → spelled ≡ word_text r
reserved_spells spelled r found =
    (bytes_eq-Decides spelled (word_text r)).0 (found_passes (λ s. bytes_eq spelled (word_text s)) r RESERVED found)

-- a word that is not reserved is a name
pub word_name : (spelled : List ℕ) → is_word spelled ≡ true → reserved_of spelled ≡ None → is_name spelled ≡ true
word_name [] word none = word
word_name (b ∷ bs) word none =
    let free : is_reserved (b ∷ bs) ≡ false = fails_each (λ r. bytes_eq (b ∷ bs) (word_text r)) RESERVED (find_none (λ r. bytes_eq (b ∷ bs) (word_text r)) RESERVED none) in
    and_both _ _ (and_left (is_letter b) _ word) (and_both _ _ (and_right (is_letter b) _ word) (ap not free))

-- the words that are no names are the spellings of the reserved words
reserved_one : (spelled : List ℕ) (found : Option Reserved) → is_reserved spelled ≡ true → reserved_of spelled ≡ found → (r : Reserved) × (spelled ≡ word_text r)
reserved_one spelled None reserved none =
    let free : is_reserved spelled ≡ false = fails_each (λ r. bytes_eq spelled (word_text r)) RESERVED (find_none (λ r. bytes_eq spelled (word_text r)) RESERVED none) in
    cc
reserved_one spelled (Some r) reserved found = (r, reserved_spells spelled r found)

pub reserved_is_word : (spelled : List ℕ) → is_reserved spelled ≡ true → (r : Reserved) × (spelled ≡ word_text r)
reserved_is_word spelled reserved = reserved_one spelled (reserved_of spelled) reserved refl

word_text_is_reserved : (r : Reserved) → is_reserved (word_text r) ≡ true
word_text_is_reserved word.Time = refl
word_text_is_reserved r = refl

pub word_is_reserved : (spelled : List ℕ) → ((r : Reserved) × (spelled ≡ word_text r)) → is_reserved spelled ≡ true
word_is_reserved spelled is = ap is_reserved is.1 ∙ word_text_is_reserved is.0

pub name_word : (spelled : List ℕ) → is_name spelled ≡ true → is_word spelled ≡ true
name_word [] name = name
name_word (b ∷ bs) name =
    and_both _ _ (and_left (is_letter b) _ name) (and_left (list_all is_name_byte bs) _ (and_right (is_letter b) _ name))

pub name_free : (spelled : List ℕ) → is_name spelled ≡ true → reserved_of spelled ≡ None
name_free [] name = absurd (false≢true name)
name_free (b ∷ bs) name =
    find_nothing (λ r. bytes_eq (b ∷ bs) (word_text r)) RESERVED (not_true _ (and_right (list_all is_name_byte bs) _ (and_right (is_letter b) _ name)))

pub word_letter : (spelled : List ℕ) → is_word spelled ≡ true → begins_with is_letter spelled ≡ true
word_letter [] word = word
word_letter (b ∷ bs) word = and_left (is_letter b) _ word

pub word_bytes : (spelled : List ℕ) → is_word spelled ≡ true → list_all is_name_byte spelled ≡ true
word_bytes [] word = refl
word_bytes (b ∷ bs) word =
    and_both _ _ (or_left (is_letter b || is_digit b) _ (or_left (is_letter b) _ (and_left (is_letter b) _ word))) (and_right (is_letter b) _ word)

pub number_digit : (spelled : List ℕ) → is_numeral spelled ≡ true → begins_with is_digit spelled ≡ true
number_digit [] number = number
number_digit (b ∷ bs) number = and_left (is_digit b) _ number

pub number_bytes : (spelled : List ℕ) → is_numeral spelled ≡ true → list_all is_digit spelled ≡ true
number_bytes [] number = refl
number_bytes (b ∷ bs) number = number

-- ---- what begins with a letter, a digit or a sign

-- one byte is not of two classes
pub apart : (test other : ℕ → Bool) (spelled : List ℕ) → ((b : ℕ) → test b ≡ true → other b ≡ true → ⊥) →
    begins_with test spelled ≡ true → begins_with other spelled ≡ true → ⊥
apart test other [] never begins also = false≢true begins
apart test other (b ∷ bs) never begins also = never b begins also

pub sign_no_letter : (b : ℕ) → is_sign_byte b ≡ true → is_letter b ≡ true → ⊥
sign_no_letter b sign letter = false≢true (sym (not_true _ (and_left (not (is_letter b)) _ sign)) ∙ letter)

pub sign_no_digit : (b : ℕ) → is_sign_byte b ≡ true → is_digit b ≡ true → ⊥
sign_no_digit b sign digit =
    false≢true (sym (not_true _ (and_left (not (is_digit b)) _ (and_right (not (is_letter b)) _ sign))) ∙ digit)

pub sign_begins : (b : ℕ) → is_sign_byte b ≡ true → begins_token b ≡ true
sign_begins b sign = and_right (not (is_digit b)) _ (and_right (not (is_letter b)) _ sign)

symbol_spelled : (s : Symbol) (spelled : List ℕ) → spelled ≡ symbol_text s → begins_with is_sign_byte spelled ≡ true
symbol_spelled s spelled is = ap (begins_with is_sign_byte) is ∙ symbol_begins s

pub letter_word : (k : TokenKind) (spelled : List ℕ) → Spells k spelled → begins_with is_letter spelled ≡ true → is_word spelled ≡ true
letter_word kind.Name spelled spells letter = name_word spelled spells
letter_word kind.Number spelled spells letter =
    absurd (apart is_letter is_digit spelled letter_no_digit letter (number_digit spelled spells))
letter_word (kind.Word r) spelled spells letter = ap is_word spells ∙ word_is_word r
letter_word (kind.Sign s) spelled spells letter =
    absurd (apart is_sign_byte is_letter spelled sign_no_letter (symbol_spelled s spelled spells) letter)

pub digit_number : (k : TokenKind) (spelled : List ℕ) → Spells k spelled → begins_with is_digit spelled ≡ true → is_numeral spelled ≡ true
digit_number kind.Name spelled spells digit =
    absurd (apart is_letter is_digit spelled letter_no_digit (word_letter spelled (name_word spelled spells)) digit)
digit_number kind.Number spelled spells digit = spells
digit_number (kind.Word r) spelled spells digit =
    absurd (apart is_letter is_digit spelled letter_no_digit (word_letter spelled (ap is_word spells ∙ word_is_word r)) digit)
digit_number (kind.Sign s) spelled spells digit =
    absurd (apart is_sign_byte is_digit spelled sign_no_digit (symbol_spelled s spelled spells) digit)

pub sign_symbol : (k : TokenKind) (spelled : List ℕ) → Spells k spelled → begins_with is_sign_byte spelled ≡ true → (s : Symbol) × (spelled ≡ symbol_text s)
sign_symbol kind.Name spelled spells sign =
    absurd (apart is_sign_byte is_letter spelled sign_no_letter sign (word_letter spelled (name_word spelled spells)))
sign_symbol kind.Number spelled spells sign =
    absurd (apart is_sign_byte is_digit spelled sign_no_digit sign (number_digit spelled spells))
sign_symbol (kind.Word r) spelled spells sign =
    absurd (apart is_sign_byte is_letter spelled sign_no_letter sign (word_letter spelled (ap is_word spells ∙ word_is_word r)))
sign_symbol (kind.Sign s) spelled spells sign = (s, spells)

begins_by : (test : ℕ → Bool) (spelled : List ℕ) → ((b : ℕ) → test b ≡ true → begins_token b ≡ true) → begins_with test spelled ≡ true → begins_with begins_token spelled ≡ true
begins_by test [] more begins = begins
begins_by test (b ∷ bs) more begins = more b begins

-- a token is not empty, and begins with no blank and no slash
pub token_begins : (k : TokenKind) (spelled : List ℕ) → Spells k spelled → begins_with begins_token spelled ≡ true
token_begins kind.Name spelled spells = begins_by is_letter spelled letter_begins (word_letter spelled (name_word spelled spells))
token_begins kind.Number spelled spells = begins_by is_digit spelled digit_begins (number_digit spelled spells)
token_begins (kind.Word r) spelled spells = begins_by is_letter spelled letter_begins (word_letter spelled (ap is_word spells ∙ word_is_word r))
token_begins (kind.Sign s) spelled spells = begins_by is_sign_byte spelled sign_begins (symbol_spelled s spelled spells)

-- ---- a spelling has one kind

kind_of-letter : (spelled : List ℕ) → begins_with is_letter spelled ≡ true → kind_of spelled ≡ Some (kind_by (reserved_of spelled))
kind_of-letter spelled letter =
    ap (λ t. if t then Some (kind_by (reserved_of spelled)) else (if begins_with is_digit spelled then Some kind.Number else option_map kind.Sign (symbol_of spelled))) letter

kind_of-digit : (spelled : List ℕ) → begins_with is_letter spelled ≡ false → begins_with is_digit spelled ≡ true → kind_of spelled ≡ Some kind.Number
kind_of-digit spelled letter digit =
    ap (λ t. if t then Some (kind_by (reserved_of spelled)) else (if begins_with is_digit spelled then Some kind.Number else option_map kind.Sign (symbol_of spelled))) letter
    ∙ ap (λ t. if t then Some kind.Number else option_map kind.Sign (symbol_of spelled)) digit

digits_no_letter : (spelled : List ℕ) → begins_with is_digit spelled ≡ true → begins_with is_letter spelled ≡ false
digits_no_letter [] digit = refl
digits_no_letter (b ∷ bs) digit = digit_no_letter b digit

pub kind_of-spells : (k : TokenKind) (spelled : List ℕ) → Spells k spelled → kind_of spelled ≡ Some k
kind_of-spells kind.Name spelled spells =
    kind_of-letter spelled (word_letter spelled (name_word spelled spells)) ∙ ap (λ o. Some (kind_by o)) (name_free spelled spells)
kind_of-spells kind.Number spelled spells =
    let digit = number_digit spelled spells in kind_of-digit spelled (digits_no_letter spelled digit) digit
kind_of-spells (kind.Word r) spelled spells = ap kind_of spells ∙ kind_of-word r
kind_of-spells (kind.Sign s) spelled spells = ap kind_of spells ∙ kind_of-symbol s

pub one_kind : (k l : TokenKind) (spelled : List ℕ) → Spells k spelled → Spells l spelled → k ≡ l
one_kind k l spelled a b = let e : Some k ≡ Some l = sym (kind_of-spells k spelled a) ∙ kind_of-spells l spelled b in cc
