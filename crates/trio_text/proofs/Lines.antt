-- The line of a token is one more than the LFs before it.
use Rattle.std.proofs.Common.{◌≡◌, ℕ, ◌+◌, zero, suc, Bool, true, false, not, ◌||◌, cond, ◌==◌, List, [], ◌∷◌, ◌++◌, length, take, Some, slice_get, refl, sym, ap, subst, ◌∙◌, arith, append_assoc, length-append}
use Rattle.std.specs.Prelude.{if◌then◌else◌}
use Rattle.std.specs.List.{list_all, count_by}
use Rattle.std.proofs.Math.Logic.{⊎_elim}
use Rattle.std.proofs.Math.Seq.{take-append_seam}
use Rattle.std.proofs.lemmas.Bool.{false≢true, not_from_false, cases_Bool, eqb-true}
use Rattle.std.proofs.lemmas.Option.{none-some, same_Some}
use Rattle.std.proofs.lemmas.List.Sums.{sum_by-append, sum_by-cons}
use Rattle.trio_text.specs.declared.token.Token.{Token}
use Rattle.trio_text.specs.declared.token.TokenKind.{TokenKind}
use Rattle.trio_text.specs.declared.token.TokenKind.TheVariants as kind
use Rattle.trio_text.specs.Spelling.{is_letter, is_digit, is_name_byte, is_numeral, word_text, symbol_text, Spells}
use Rattle.trio_text.specs.Tokens.{IsTokens, IsComment, line_after, Lexes}
use Rattle.trio_text.specs.Tokens.Lexes.{nothing, blank, comment, token}
use Rattle.trio_text.proofs.Runs.{and_left, and_right, and_both, or_left, or_right}
use Rattle.trio_text.proofs.Spellings.{name_word, word_bytes, word_is_word, symbol_listed}

-- how many LFs stand in these bytes
abbrev newlines : List ℕ → ℕ
newlines bytes = count_by (λ b. b == 10) bytes

abbrev is_inside : ℕ → Bool
is_inside b = not (b == 10)

newlines-append : (xs ys : List ℕ) → newlines (xs ++ ys) ≡ newlines xs + newlines ys
newlines-append xs ys = sum_by-append (λ b. cond (b == 10) 1 0) xs ys

newlines-cons : (b : ℕ) (bytes : List ℕ) → newlines (b ∷ bytes) ≡ cond (b == 10) 1 0 + newlines bytes
newlines-cons b bytes = sum_by-cons (λ b. cond (b == 10) 1 0) b bytes

none_inside : (bytes : List ℕ) → list_all is_inside bytes ≡ true → newlines bytes ≡ 0
none_inside [] all = refl
none_inside (b ∷ bytes) all =
    newlines-cons b bytes ∙ here (b == 10) (and_left (is_inside b) _ all) ∙ none_inside bytes (and_right (is_inside b) _ all)
  where
    here : (t : Bool) → not t ≡ true → cond t 1 0 + newlines bytes ≡ newlines bytes
    here true is = absurd (false≢true is)
    here false is = omega arith

-- tokens have none
all_others : (test : ℕ → Bool) → ((b : ℕ) → test b ≡ true → is_inside b ≡ true) → (bytes : List ℕ) → list_all test bytes ≡ true → list_all is_inside bytes ≡ true
all_others test other [] all = refl
all_others test other (b ∷ bytes) all =
    and_both (is_inside b) _ (other b (and_left (test b) _ all)) (all_others test other bytes (and_right (test b) _ all))

other_byte : (b : ℕ) → is_name_byte b ≡ true → is_inside b ≡ true
other_byte b is =
    ⊎_elim (λ yes. absurd (false≢true (sym (ap is_name_byte (eqb-true b 10 yes)) ∙ is))) (λ no. not_from_false (b == 10) no) (cases_Bool (b == 10))

other_digit : (b : ℕ) → is_digit b ≡ true → is_inside b ≡ true
other_digit b is = other_byte b (or_left (is_letter b || is_digit b) _ (or_right (is_letter b) (is_digit b) is))

numeral_digits : (word : List ℕ) → is_numeral word ≡ true → list_all is_digit word ≡ true
numeral_digits [] is = absurd (false≢true is)
numeral_digits (b ∷ bytes) is = is

word_inside : (k : TokenKind) (word : List ℕ) → Spells k word → list_all is_inside word ≡ true
word_inside kind.Name word spells = all_others is_name_byte other_byte word (word_bytes word (name_word word spells))
word_inside kind.Number word spells = all_others is_digit other_digit word (numeral_digits word spells)
word_inside (kind.Word r) word spells =
    ap (list_all is_inside) spells ∙ all_others is_name_byte other_byte (word_text r) (word_bytes (word_text r) (word_is_word r))
word_inside (kind.Sign s) word spells = ap (list_all is_inside) spells ∙ symbol_listed s (λ s. list_all is_inside (symbol_text s)) refl

comment_inside : (bytes : List ℕ) → IsComment bytes → newlines bytes ≡ 0
comment_inside bytes c = none_inside bytes (ap (list_all is_inside) c.begins ∙ c.one_line)

-- the line goes on as the LFs do
counted_blank : (line n b : ℕ) → line ≡ 1 + n → line_after line b ≡ 1 + (n + (cond (b == 10) 1 0 + 0))
counted_blank line n b is = by_test (b == 10)
  where
    by_test : (t : Bool) → (if t then line + 1 else line) ≡ 1 + (n + (cond t 1 0 + 0))
    by_test true = omega arith
    by_test false = omega arith

counted_on : (line : ℕ) (front word : List ℕ) → line ≡ 1 + newlines front → newlines word ≡ 0 → line ≡ 1 + newlines (front ++ word)
counted_on line front word is none = omega (arith, is, none, newlines-append front word)

line_counted : (text : List ℕ) (place line : ℕ) (suffix : List ℕ) (tokens : List Token) (end : List ℕ) → Lexes place line suffix tokens end →
    (front : List ℕ) → text ≡ front ++ suffix → length front ≡ place → line ≡ 1 + newlines front →
    (k : ℕ) (d : Token) → slice_get tokens k ≡ Some d → d.line ≡ 1 + newlines (take d.start text)
line_counted text place line suffix tokens end nothing front is long counted k d at = absurd (none-some d at)
line_counted text place line suffix tokens end (blank {b = b} {text = behind} blanks more) front is long counted k d at =
    line_counted text (place + 1) (line_after line b) behind tokens end more (front ++ b ∷ []) (is ∙ sym (append_assoc front (b ∷ []) behind))
    (length-append front (b ∷ []) ∙ ap (λ n. n + 1) long)
    (counted_blank line (newlines front) b counted ∙ ap (λ n. 1 + n) (sym (newlines-append front (b ∷ []) ∙ ap (λ n. newlines front + n) (newlines-cons b [])))) k d at
line_counted text place line suffix tokens end (comment {bytes = bytes} {text = behind} c ends more) front is long counted k d at =
    line_counted text (place + length bytes) line behind tokens end more (front ++ bytes) (is ∙ sym (append_assoc front bytes behind))
    (length-append front bytes ∙ ap (λ n. n + length bytes) long) (counted_on line front bytes counted (comment_inside bytes c)) k d at
line_counted text place line suffix tokens end (token {word = word} {text = behind} {tokens = others} {kind = l} spells longest more) front is long counted zero d at =
    let same : record { kind = l; start = place; end = place + length word; line = line } ≡ d = same_Some _ d at in
    let before : take place text ≡ front = (λ i. take (sym long i) (is i)) ∙ take-append_seam front (word ++ behind) in
    subst (λ (t : Token). t.line ≡ 1 + newlines (take t.start text)) same (counted ∙ ap (λ bytes. 1 + newlines bytes) (sym before))
line_counted text place line suffix tokens end (token {word = word} {text = behind} {tokens = others} {kind = l} spells longest more) front is long counted (suc k) d at =
    line_counted text (place + length word) line behind others end more (front ++ word) (is ∙ sym (append_assoc front word behind))
    (length-append front word ∙ ap (λ n. n + length word) long) (counted_on line front word counted (none_inside word (word_inside l word spells))) k d at

pub lines_count : (text : List ℕ) (tokens : List Token) → IsTokens text tokens → (k : ℕ) (d : Token) → slice_get tokens k ≡ Some d →
    d.line ≡ 1 + newlines (take d.start text)
lines_count text tokens lexes = line_counted text 0 1 text tokens [] lexes [] refl refl refl
