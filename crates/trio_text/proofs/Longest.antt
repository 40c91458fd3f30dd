-- The token that stands at the front of a text, and that it is the longest that fits.
use Rattle.std.proofs.Common.{◌≡◌, ℕ, ◌<◌, ◌≤◌, Bool, true, false, not, ◌||◌, ◌==◌, nat_eq, nat_le, List, [], ◌∷◌, ◌++◌, length, take, drop, refl, sym, ap, subst, ◌∙◌, arith, append_assoc, length-append, leb-true}
use Rattle.std.specs.Prelude.{Some, None, take_while, slice_get}
use Rattle.std.specs.List.{list_all, starts_with}
use Rattle.std.proofs.lemmas.Bool.{false≢true}
use Rattle.std.proofs.lemmas.Bool.Decides.{Decides-eqb}
use Rattle.std.proofs.lemmas.Slice.Eq.{starts_is}
use Rattle.std.proofs.Math.Seq.{take-append_seam}
use Rattle.trio_text.specs.declared.token.Symbol.{Symbol}
use Rattle.trio_text.specs.declared.token.TokenKind.{TokenKind}
use Rattle.trio_text.specs.declared.token.TokenKind.TheVariants as kind
use Rattle.trio_text.specs.Spelling.{is_letter, is_digit, is_name_byte, is_numeral, symbol_text, Spells}
use Rattle.trio_text.specs.Tokens.{IsLongest}
use Rattle.trio_text.specs.declared.spelling.TheConstants.{SYMBOLS}
use Rattle.trio_text.specs.Reading.{is_word, symbol_of, IsFront, BeginsNoToken}
use Rattle.trio_text.proofs.Runs.{and_right, and_both, or_left, not_true, passes_at, find_none, found_passes, found_greatest, Ends, IsRun, run, none_longer}
use Rattle.trio_text.proofs.Spellings.{begins_with, is_sign_byte, begins_token, symbol_begins, symbol_listed, word_letter, word_bytes, number_digit, number_bytes, letter_word, digit_number, name_word, word_is_word, sign_symbol, token_begins}

pub drop_seam : (xs ys : List ℕ) → drop (length xs) (xs ++ ys) ≡ ys
drop_seam [] ys = refl
drop_seam (x ∷ xs) ys = drop_seam xs ys

-- a token at the front, in two parts of the text
pub front_of : (text word rest : List ℕ) (k : TokenKind) (n : ℕ) → text ≡ word ++ rest → n ≡ length word → Spells k word → IsLongest word rest → IsFront text k n
front_of text word rest k n whole is spells longest =
    let front : take n text ≡ word = (λ i. take (is i) (whole i)) ∙ take-append_seam word rest in
    let back : drop n text ≡ rest = (λ i. drop (is i) (whole i)) ∙ drop_seam word rest in
    record {
      within = omega (arith, ap length whole, length-append word rest);
      spells = subst (Spells k) (sym front) spells;
      longest = subst (λ (w : List ℕ). IsLongest w (drop n text)) (sym front) (subst (IsLongest word) (sym back) longest);
    }

begins_more : (test : ℕ → Bool) (word more : List ℕ) → begins_with test word ≡ true → begins_with test (word ++ more) ≡ true
begins_more test [] more begins = absurd (false≢true begins)
begins_more test (b ∷ bs) more begins = begins

-- what goes on with a run goes on with a byte that fails
run_whole : (test : ℕ → Bool) (word rest more after : List ℕ) → Ends test rest → rest ≡ more ++ after → list_all test (word ++ more) ≡ true → more ≡ []
run_whole test word rest [] after ends is all = refl
run_whole test word rest (m ∷ more) after ends is all =
    let stops : test m ≡ false = subst (Ends test) is ends in
    absurd (false≢true (sym stops ∙ passes_at test word more m all))

pub longest_word : (word rest : List ℕ) → is_word word ≡ true → Ends is_name_byte rest → IsLongest word rest
longest_word word rest spelled ends = record {
  longest = λ k more after is spells.
      run_whole is_name_byte word rest more after ends is
      (word_bytes (word ++ more) (letter_word k (word ++ more) spells (begins_more is_letter word more (word_letter word spelled))));
}

pub longest_number : (word rest : List ℕ) → is_numeral word ≡ true → Ends is_digit rest → IsLongest word rest
longest_number word rest spelled ends = record {
  longest = λ k more after is spells.
      run_whole is_digit word rest more after ends is
      (number_bytes (word ++ more) (digit_number k (word ++ more) spells (begins_more is_digit word more (number_digit word spelled))));
}

-- ---- symbols

starts_so : (text word rest : List ℕ) → text ≡ word ++ rest → starts_with nat_eq text word ≡ true
starts_so text word rest is = (starts_is Decides-eqb text word (starts_with nat_eq text word) refl).1 rest is

pub symbol_stands : (text : List ℕ) (s : Symbol) → symbol_of text ≡ Some s → text ≡ symbol_text s ++ drop (length (symbol_text s)) text
symbol_stands text s found =
    (starts_is Decides-eqb text (symbol_text s) (starts_with nat_eq text (symbol_text s)) refl).0
    (found_passes (λ r. starts_with nat_eq text (symbol_text r)) s SYMBOLS found)

-- no symbol at the front is longer than the one that is found
symbol_greatest : (text : List ℕ) (s r : Symbol) (rest : List ℕ) → symbol_of text ≡ Some s → text ≡ symbol_text r ++ rest → length (symbol_text r) ≤ length (symbol_text s)
symbol_greatest text s r rest found is =
    let starts : Symbol → Bool = λ q. starts_with nat_eq text (symbol_text q) in
    let weight : Symbol → ℕ = λ q. length (symbol_text q) in
    let all = found_greatest starts weight s SYMBOLS found refl in
    let holds : (not (starts r) || nat_le (weight r) (weight s)) ≡ true = symbol_listed r (λ q. not (starts q) || nat_le (weight q) (weight s)) all in
    leb-true _ _ (ap (λ t. not t || nat_le (weight r) (weight s)) (sym (starts_so text (symbol_text r) rest is)) ∙ holds)

pub longest_symbol : (text rest : List ℕ) (s : Symbol) → symbol_of text ≡ Some s → text ≡ symbol_text s ++ rest → IsLongest (symbol_text s) rest
longest_symbol text rest s found whole = record {
  longest = λ k more after is spells.
      let longer = sign_symbol k (symbol_text s ++ more) spells (begins_more is_sign_byte (symbol_text s) more (symbol_begins s)) in
      let other : text ≡ symbol_text longer.0 ++ after =
      whole ∙ ap (λ r. symbol_text s ++ r) is ∙ sym (append_assoc (symbol_text s) more after) ∙ ap (λ w. w ++ after) longer.1 in
      let bound : length (symbol_text longer.0) ≤ length (symbol_text s) = symbol_greatest text s longer.0 after found other in
      none_longer more (omega (arith, length-append (symbol_text s) more, ap length longer.1, bound));
}

-- ---- the three kinds of front

-- a run that begins with a letter is a word, and one that begins with a digit a number
run_word : (text word rest : List ℕ) → IsRun is_name_byte text word rest → begins_with is_letter text ≡ true → is_word word ≡ true
run_word text [] [] r letter = absurd (false≢true (sym (ap (begins_with is_letter) r.whole) ∙ letter))
run_word text [] (b ∷ rest) r letter =
    let first : is_letter b ≡ true = sym (ap (begins_with is_letter) r.whole) ∙ letter in
    absurd (false≢true (sym r.ends ∙ or_left _ (b == 95) (or_left _ (is_digit b) first)))
run_word text (b ∷ bs) rest r letter =
    and_both _ _ (sym (ap (begins_with is_letter) r.whole) ∙ letter) (and_right (is_name_byte b) _ r.all)

run_number : (text word rest : List ℕ) → IsRun is_digit text word rest → begins_with is_digit text ≡ true → is_numeral word ≡ true
run_number text [] [] r digit = absurd (false≢true (sym (ap (begins_with is_digit) r.whole) ∙ digit))
run_number text [] (b ∷ rest) r digit =
    let first : is_digit b ≡ true = sym (ap (begins_with is_digit) r.whole) ∙ digit in absurd (false≢true (sym r.ends ∙ first))
run_number text (b ∷ bs) rest r digit = r.all

front_taken : (test : ℕ → Bool) (text : List ℕ) (n : ℕ) → n ≡ length (take_while test text) → take n text ≡ take_while test text
front_taken test text n is =
    let runs = run test text in (λ i. take (is i) (runs.1.whole i)) ∙ take-append_seam (take_while test text) runs.0

pub word_front : (text : List ℕ) (n : ℕ) → n ≡ length (take_while is_name_byte text) → begins_with is_letter text ≡ true → is_word (take n text) ≡ true
word_front text n is letter =
    let runs = run is_name_byte text in
    ap is_word (front_taken is_name_byte text n is) ∙ run_word text (take_while is_name_byte text) runs.0 runs.1 letter

pub front_word : (text : List ℕ) (n : ℕ) (k : TokenKind) → n ≡ length (take_while is_name_byte text) → begins_with is_letter text ≡ true →
    Spells k (take n text) → IsFront text k n
front_word text n k is letter spells =
    let runs = run is_name_byte text in
    let word : List ℕ = take_while is_name_byte text in
    front_of text word runs.0 k n runs.1.whole is (subst (Spells k) (front_taken is_name_byte text n is) spells)
    (longest_word word runs.0 (run_word text word runs.0 runs.1 letter) runs.1.ends)

pub front_number : (text : List ℕ) (n : ℕ) → n ≡ length (take_while is_digit text) → begins_with is_digit text ≡ true → IsFront text kind.Number n
front_number text n is digit =
    let runs = run is_digit text in
    let word : List ℕ = take_while is_digit text in
    let spelled : is_numeral word ≡ true = run_number text word runs.0 runs.1 digit in
    front_of text word runs.0 kind.Number n runs.1.whole is spelled (longest_number word runs.0 spelled runs.1.ends)

pub front_symbol : (text : List ℕ) (s : Symbol) (n : ℕ) → symbol_of text ≡ Some s → n ≡ length (symbol_text s) → IsFront text (kind.Sign s) n
front_symbol text s n found is =
    let rest : List ℕ = drop (length (symbol_text s)) text in
    let whole : text ≡ symbol_text s ++ rest = symbol_stands text s found in
    front_of text (symbol_text s) rest (kind.Sign s) n whole is refl (longest_symbol text rest s found whole)

-- ---- where no token stands

begins_append : (test : ℕ → Bool) (text word rest : List ℕ) → text ≡ word ++ rest → begins_with test word ≡ true → begins_with test text ≡ true
begins_append test text word rest is begins = ap (begins_with test) is ∙ begins_more test word rest begins

pub no_token_empty : (text : List ℕ) → text ≡ [] → BeginsNoToken text
no_token_empty text empty = record {
  token = λ k word rest is spells.
      false≢true (sym (ap (begins_with begins_token) empty) ∙ begins_append begins_token text word rest is (token_begins k word spells));
}

no_symbol : (text : List ℕ) → symbol_of text ≡ None → (s : Symbol) (rest : List ℕ) → text ≡ symbol_text s ++ rest → ⊥
no_symbol text none s rest is =
    let starts : Symbol → Bool = λ q. starts_with nat_eq text (symbol_text q) in
    let fails : not (starts s) ≡ true = symbol_listed s (λ q. not (starts q)) (find_none starts SYMBOLS none) in
    false≢true (sym (not_true _ fails) ∙ starts_so text (symbol_text s) rest is)

stuck : (text : List ℕ) → begins_with is_letter text ≡ false → begins_with is_digit text ≡ false → symbol_of text ≡ None →
    (k : TokenKind) (word rest : List ℕ) → text ≡ word ++ rest → Spells k word → ⊥
stuck text letter digit none kind.Name word rest is spells =
    false≢true (sym letter ∙ begins_append is_letter text word rest is (word_letter word (name_word word spells)))
stuck text letter digit none kind.Number word rest is spells =
    false≢true (sym digit ∙ begins_append is_digit text word rest is (number_digit word spells))
stuck text letter digit none (kind.Word r) word rest is spells =
    false≢true (sym letter ∙ begins_append is_letter text word rest is (word_letter word (ap is_word spells ∙ word_is_word r)))
stuck text letter digit none (kind.Sign s) word rest is spells =
    no_symbol text none s rest (is ∙ ap (λ w. w ++ rest) spells)

pub no_token : (text : List ℕ) → begins_with is_letter text ≡ false → begins_with is_digit text ≡ false → symbol_of text ≡ None → BeginsNoToken text
no_token text letter digit none = record { token = λ k word rest is spells. stuck text letter digit none k word rest is spells }

-- the test of the first byte
pub begins_at : (test : ℕ → Bool) (text : List ℕ) (b : ℕ) (t : Bool) → Some b ≡ slice_get text 0 → t ≡ test b → begins_with test text ≡ t
begins_at test [] b t is answer = cc
begins_at test (x ∷ xs) b t is answer = let same : x ≡ b = cc in ap test same ∙ sym answer

pub begins_some : (test : ℕ → Bool) (word : List ℕ) → begins_with test word ≡ true → 0 < length word
begins_some test [] begins = absurd (false≢true begins)
begins_some test (b ∷ word) begins = omega arith

pub begins_none : (text : List ℕ) → None ≡ slice_get text 0 → text ≡ []
begins_none [] is = refl
begins_none (x ∷ xs) is = cc
