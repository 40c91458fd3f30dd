-- Every text is a list of tokens, or has a byte that begins none.
use Rattle.std.proofs.Common.{◌≡◌, ℕ, zero, suc, ◌+◌, ◌-◌, ◌<◌, ◌≤◌, ◌⊎◌, inl, inr, Bool, true, false, not, ◌==◌, nat_eq, List, [], ◌∷◌, ◌++◌, length, take, drop, Option, None, Some, refl, sym, ap, subst, ◌∙◌, arith, take-append-drop}
use Rattle.std.specs.Prelude.{take_while}
use Rattle.std.specs.List.{starts_with}
use Rattle.std.proofs.lemmas.Bool.{false≢true}
use Rattle.std.proofs.lemmas.Bool.Decides.{Decides-eqb}
use Rattle.std.proofs.lemmas.Slice.Eq.{starts_is}
use Rattle.trio_text.specs.declared.token.Reserved.{Reserved}
use Rattle.trio_text.specs.declared.token.Symbol.{Symbol}
use Rattle.trio_text.specs.declared.token.Token.{Token}
use Rattle.trio_text.specs.declared.token.TokenKind.{TokenKind}
use Rattle.trio_text.specs.declared.token.TokenKind.TheVariants as kind
use Rattle.trio_text.specs.Spelling.{is_letter, is_digit, is_name_byte, is_blank}
use Rattle.trio_text.specs.Tokens.{line_after, Lexes, IsTokens, IsLexFault}
use Rattle.trio_text.specs.Tokens.Lexes.{nothing}
use Rattle.trio_text.specs.Reading.{reserved_of, symbol_of, IsFront, BeginsNoToken, BeginsNoBlank, ReadsTokens}
use Rattle.trio_text.proofs.Longest.{word_front, front_word, front_number, front_symbol, no_token}
use Rattle.trio_text.proofs.Spellings.{begins_with, reserved_spells, word_name}
use Rattle.trio_text.proofs.Steps.{Final, reads_blank, reads_token, comment_front, skips_comment, front_shorter, begins_nothing}

-- ---- a token stands at the front, or none

abbrev HasFront : List ℕ → Type 0
HasFront text = (k : TokenKind) × (n : ℕ) × IsFront text k n

word_at : (text : List ℕ) (n : ℕ) (found : Option Reserved) → n ≡ length (take_while is_name_byte text) → begins_with is_letter text ≡ true →
    reserved_of (take n text) ≡ found → HasFront text
word_at text n None is letter none =
    (kind.Name, n, front_word text n kind.Name is letter (word_name (take n text) (word_front text n is letter) none))
word_at text n (Some r) is letter found = (kind.Word r, n, front_word text n (kind.Word r) is letter (reserved_spells (take n text) r found))

symbol_at : (text : List ℕ) (found : Option Symbol) → begins_with is_letter text ≡ false → begins_with is_digit text ≡ false → symbol_of text ≡ found →
    HasFront text ⊎ BeginsNoToken text
symbol_at text None letter digit none = inr (no_token text letter digit none)
symbol_at text (Some s) letter digit found = inl (kind.Sign s, _, front_symbol text s _ found refl)

no_letter_at : (text : List ℕ) (digits : Bool) → begins_with is_letter text ≡ false → begins_with is_digit text ≡ digits → HasFront text ⊎ BeginsNoToken text
no_letter_at text true letter digit = inl (kind.Number, _, front_number text _ refl digit)
no_letter_at text false letter digit = symbol_at text (symbol_of text) letter digit refl

any_at : (text : List ℕ) (letters : Bool) → begins_with is_letter text ≡ letters → HasFront text ⊎ BeginsNoToken text
any_at text true letter =
    inl (word_at text (length (take_while is_name_byte text)) (reserved_of (take (length (take_while is_name_byte text)) text)) refl letter refl)
any_at text false letter = no_letter_at text (begins_with is_digit text) letter refl

-- ---- a text is read until nothing is left, or nothing begins

record Ended (place line : ℕ) (text : List ℕ) : Type 0 where
  tokens : List Token
  rest : List ℕ
  lexes : Lexes place line text tokens rest
  final : Final rest
  within : length rest ≤ length text

-- whatever is shorter is read so
abbrev Shorter : List ℕ → Type 0
Shorter text = (at at_line : ℕ) (rest : List ℕ) → length rest < length text → Ended at at_line rest

behind : (place line : ℕ) (text : List ℕ) (tokens : List Token) (at at_line : ℕ) (rest : List ℕ) → ReadsTokens place line text tokens at at_line rest →
    length rest < length text → Shorter text → Ended place line text
behind place line text tokens at at_line rest read shorter more =
    let end = more at at_line rest shorter in
    record {
      tokens = tokens ++ end.tokens;
      rest = end.rest;
      lexes = read.into end.tokens end.rest end.lexes;
      final = end.final;
      within = omega (arith, shorter, end.within);
    }

by_front : (place line b : ℕ) (bs : List ℕ) → BeginsNoBlank (b ∷ bs) → HasFront (b ∷ bs) ⊎ BeginsNoToken (b ∷ bs) → Shorter (b ∷ bs) → Ended place line (b ∷ bs)
by_front place line b bs blanks (inl front) more =
    let text : List ℕ = b ∷ bs in
    let n : ℕ = front.1 in
    behind place line text _ _ line (drop n text)
    (reads_token place line front.0 text (take n text) (drop n text) (sym (take-append-drop n text)) front.2.spells front.2.longest)
    (front_shorter front.0 text n (drop n text) front.2 refl) more
by_front place line b bs blanks (inr none) more = record {
  tokens = [];
  rest = b ∷ bs;
  lexes = nothing;
  final = inr (begins_nothing (b ∷ bs) (omega arith) blanks none);
  within = omega arith;
}

slashes : (text rest : List ℕ) → text ≡ 47 ∷ 47 ∷ rest → starts_with nat_eq text (47 ∷ 47 ∷ []) ≡ true
slashes text rest is = (starts_is Decides-eqb text (47 ∷ 47 ∷ []) (starts_with nat_eq text (47 ∷ 47 ∷ [])) refl).1 rest is

blank_at : (b c : ℕ) (bs rest : List ℕ) → is_blank b ≡ false → b ∷ bs ≡ c ∷ rest → is_blank c ≡ true → ⊥
blank_at b c bs rest none is blanks = let same : b ≡ c = cc in false≢true (sym none ∙ ap is_blank same ∙ blanks)

by_comment : (place line b : ℕ) (bs : List ℕ) (comments : Bool) → is_blank b ≡ false → starts_with nat_eq (b ∷ bs) (47 ∷ 47 ∷ []) ≡ comments →
    Shorter (b ∷ bs) → Ended place line (b ∷ bs)
by_comment place line b bs true none is more =
    let text : List ℕ = b ∷ bs in
    let n : ℕ = length (take_while (λ c. not (c == 10)) text) in
    let begins : text ≡ (47 ∷ 47 ∷ []) ++ drop 2 text = (starts_is Decides-eqb text (47 ∷ 47 ∷ []) (starts_with nat_eq text (47 ∷ 47 ∷ [])) refl).0 is in
    let read = skips_comment place line text n (place + n) line (drop n text) (sym is) refl refl refl refl in
    behind place line text [] (place + n) line (drop n text) read
    (omega (arith, read.here, ap length (comment_front text (drop 2 text) begins).begins)) more
by_comment place line b bs false none is more =
    by_front place line b bs
    (record {
      blank = λ c rest same blanks. blank_at b c bs rest none same blanks;
      comment = λ rest same. false≢true (sym is ∙ slashes (b ∷ bs) rest same);
    })
    (any_at (b ∷ bs) (begins_with is_letter (b ∷ bs)) refl) more

by_blank : (place line b : ℕ) (bs : List ℕ) (blanks : Bool) → is_blank b ≡ blanks → Shorter (b ∷ bs) → Ended place line (b ∷ bs)
by_blank place line b bs true is more =
    behind place line (b ∷ bs) [] (place + 1) (line_after line b) bs (reads_blank place line b (b ∷ bs) bs refl is) (omega arith) more
by_blank place line b bs false is more = by_comment place line b bs (starts_with nat_eq (b ∷ bs) (47 ∷ 47 ∷ [])) is refl more

ended : (most place line : ℕ) (text : List ℕ) → length text ≤ most → Ended place line text
ended most place line [] less = record { tokens = []; rest = []; lexes = nothing; final = inl refl; within = omega arith }
ended zero place line (b ∷ bs) less = absurd (omega (arith, less))
ended (suc most) place line (b ∷ bs) less =
    by_blank place line b bs (is_blank b) refl (λ at at_line rest shorter. ended most at at_line rest (omega (arith, less, shorter)))

-- ---- the whole text

told : (text : List ℕ) (tokens : List Token) (rest : List ℕ) → Lexes 0 1 text tokens rest → length rest ≤ length text → Final rest →
    ((found : List Token) × IsTokens text found) ⊎ ((place : ℕ) × IsLexFault text place)
told text tokens rest lexes within (inl empty) = inl (tokens, subst (λ (end : List ℕ). Lexes 0 1 text tokens end) empty lexes)
told text tokens rest lexes within (inr stuck) =
    inr (length text - length rest, record { tokens = tokens; rest = rest; before = lexes; here = omega (arith, within); stuck = stuck })

pub tokens_or_fault : (text : List ℕ) → ((tokens : List Token) × IsTokens text tokens) ⊎ ((place : ℕ) × IsLexFault text place)
tokens_or_fault text =
    let end = ended (length text) 0 1 text (omega arith) in
    told text end.tokens end.rest end.lexes end.within end.final
