-- Where the tokens of a text stand, and that each is spelled by its bytes.
use Rattle.std.proofs.Common.{◌≡◌, ℕ, ◌+◌, ◌-◌, ◌<◌, ◌≤◌, zero, suc, Bool, true, false, ◌==◌, List, [], ◌∷◌, ◌++◌, length, take, drop, get_or, map, refl, sym, ap, subst, ◌∙◌, arith, append_assoc, length-append, zero-add}
use Rattle.std.specs.Prelude.{if◌then◌else◌}
use Rattle.std.specs.List.{list_all}
use Rattle.std.proofs.Math.Seq.{take-append_seam}
use Rattle.trio_text.specs.declared.token.Token.{Token}
use Rattle.trio_text.specs.declared.token.TokenKind.{TokenKind}
use Rattle.trio_text.specs.declared.token.TokenKind.TheVariants as kind
use Rattle.trio_text.specs.Spelling.{Spells}
use Rattle.trio_text.specs.Tokens.{IsTokens, line_after, Lexes}
use Rattle.trio_text.specs.Tokens.Lexes.{nothing, blank, comment, token}
use Rattle.trio_text.specs.Lexemes.{spelling, lexeme_of_kind, lexeme_of, lexemes_of, names_a_name}
use Rattle.trio_text.specs.Spans.{StandInOrder}
use Rattle.trio_text.proofs.Runs.{and_both}
use Rattle.trio_text.proofs.Longest.{drop_seam, begins_some}
use Rattle.trio_text.proofs.Spellings.{begins_token, token_begins}

-- a token stands at its bytes
pub record StandsIn (text : List ℕ) (t : Token) : Type 0 where
  pub some : t.start < t.end
  pub within : t.end ≤ length text
  pub spells : Spells t.kind (spelling text t)

word_some : (k : TokenKind) (word : List ℕ) → Spells k word → 0 < length word
word_some k word spells = begins_some begins_token word (token_begins k word spells)

-- the part of a text between two others
pub part_between : (text front word rest : List ℕ) (place : ℕ) → text ≡ front ++ (word ++ rest) → length front ≡ place →
    take (place + length word - place) (drop place text) ≡ word
part_between text front word rest place is long =
    let count : place + length word - place ≡ length word = omega arith in
    let behind : drop place text ≡ word ++ rest = (λ i. drop (sym long i) (is i)) ∙ drop_seam front (word ++ rest) in
    (λ i. take (count i) (behind i)) ∙ take-append_seam word rest

token_stands : (text front word rest : List ℕ) (place line : ℕ) (k : TokenKind) → text ≡ front ++ (word ++ rest) → length front ≡ place → Spells k word →
    StandsIn text (record { kind = k; start = place; end = place + length word; line = line })
token_stands text front word rest place line k is long spells = record {
  some = let some = word_some k word spells in omega (arith, some);
  within = omega (arith, ap length is, length-append front (word ++ rest), length-append word rest, long);
  spells = subst (Spells k) (sym (part_between text front word rest place is long)) spells;
}

-- ---- each token of a text

module _ (text : List ℕ) (P : Token → Type 0) (holds : (front word rest : List ℕ) (place line : ℕ) (k : TokenKind) → text ≡ front ++ (word ++ rest) → length front ≡ place → Spells k word →
    P (record { kind = k; start = place; end = place + length word; line = line })) where
  pub each_at : (place line : ℕ) (suffix : List ℕ) (tokens : List Token) (end : List ℕ) → Lexes place line suffix tokens end →
      (front : List ℕ) → text ≡ front ++ suffix → length front ≡ place → (k : ℕ) (d : Token) → k < length tokens → P (get_or tokens k d)
  each_at place line suffix tokens end nothing front is long k d below = absurd (omega arith)
  each_at place line suffix tokens end (blank {b = b} {text = behind} blanks more) front is long k d below =
      each_at (place + 1) (line_after line b) behind tokens end more (front ++ b ∷ []) (is ∙ sym (append_assoc front (b ∷ []) behind))
      (length-append front (b ∷ []) ∙ ap (λ n. n + 1) long) k d below
  each_at place line suffix tokens end (comment {bytes = bytes} {text = behind} c ends more) front is long k d below =
      each_at (place + length bytes) line behind tokens end more (front ++ bytes) (is ∙ sym (append_assoc front bytes behind))
      (length-append front bytes ∙ ap (λ n. n + length bytes) long) k d below
  each_at place line suffix tokens end (token {word = word} {text = behind} {tokens = others} {kind = l} spells longest more) front is long zero d below =
      holds front word behind place line l is long spells
  each_at place line suffix tokens end (token {word = word} {text = behind} {tokens = others} {kind = l} spells longest more) front is long (suc k) d below =
      each_at (place + length word) line behind others end more (front ++ word) (is ∙ sym (append_assoc front word behind))
      (length-append front word ∙ ap (λ n. n + length word) long) k d (omega arith)

-- each token of a text stands at its bytes
pub stands : (text : List ℕ) (tokens : List Token) → IsTokens text tokens → (k : ℕ) (d : Token) → k < length tokens → StandsIn text (get_or tokens k d)
stands text tokens lexes = each_at text (StandsIn text) (token_stands text) 0 1 text tokens [] lexes [] refl refl

-- ---- names

name_named : (k : TokenKind) (word : List ℕ) → Spells k word → names_a_name (lexeme_of_kind k word) ≡ true
name_named kind.Name word spells = spells
name_named kind.Number word spells = refl
name_named (kind.Word r) word spells = refl
name_named (kind.Sign s) word spells = refl

all_mapped : {X Y : Type 0} (f : X → Y) (test : Y → Bool) (xs : List X) → ((k : ℕ) (d : X) → k < length xs → test (f (get_or xs k d)) ≡ true) → list_all test (map f xs) ≡ true
all_mapped f test [] each = refl
all_mapped f test (x ∷ xs) each = and_both _ _ (each 0 x (omega arith)) (all_mapped f test xs (λ k d below. each (suc k) d (omega arith)))

pub names_are_names : (text : List ℕ) (tokens : List Token) → IsTokens text tokens → list_all names_a_name (lexemes_of text tokens) ≡ true
names_are_names text tokens lexes =
    all_mapped (lexeme_of text) names_a_name tokens
    (λ k d below. let t : Token = get_or tokens k d in name_named t.kind (spelling text t) (stands text tokens lexes k d below).spells)

-- ---- order

line_by : (line : ℕ) (newline : Bool) → line ≤ (if newline then line + 1 else line)
line_by line true = omega arith
line_by line false = omega arith

lines_rise : (line b : ℕ) → line ≤ line_after line b
lines_rise line b = line_by line (b == 10)

order_from : (p q l m : ℕ) (tokens : List Token) (end : ℕ) → p ≤ q → l ≤ m → StandInOrder q m tokens end → StandInOrder p l tokens end
order_from p q l m [] end places lines order = omega arith
order_from p q l m (t ∷ tokens) end places lines order = (omega (arith, order.0), order.1, omega (arith, order.2), order.3)

in_order_from : (place line : ℕ) (suffix : List ℕ) (tokens : List Token) (end : List ℕ) → Lexes place line suffix tokens end → StandInOrder place line tokens (place + length suffix)
in_order_from place line suffix tokens end nothing = omega arith
in_order_from place line suffix tokens end (blank {b = b} {text = behind} blanks more) =
    order_from place (place + 1) line (line_after line b) tokens (place + length (b ∷ behind)) (omega arith) (lines_rise line b)
    (subst (λ (n : ℕ). StandInOrder (place + 1) (line_after line b) tokens n) (omega arith) (in_order_from (place + 1) (line_after line b) behind tokens end more))
in_order_from place line suffix tokens end (comment {bytes = bytes} {text = behind} c ends more) =
    order_from place (place + length bytes) line line tokens (place + length (bytes ++ behind)) (omega arith) (omega arith)
    (subst (λ (n : ℕ). StandInOrder (place + length bytes) line tokens n) (omega (arith, length-append bytes behind)) (in_order_from (place + length bytes) line behind tokens end more))
in_order_from place line suffix tokens end (token {word = word} {text = behind} {tokens = others} {kind = l} spells longest more) = (
  omega arith,
  let some = word_some l word spells in omega (arith, some),
  omega arith,
  subst (λ (n : ℕ). StandInOrder (place + length word) line others n) (omega (arith, length-append word behind)) (in_order_from (place + length word) line behind others end more),
)

pub in_order : (text : List ℕ) (tokens : List Token) → IsTokens text tokens → StandInOrder 0 1 tokens (length text)
in_order text tokens lexes =
    subst (λ (n : ℕ). StandInOrder 0 1 tokens n) (zero-add (length text)) (in_order_from 0 1 text tokens [] lexes)

-- ---- how many

fewer_from : (place line : ℕ) (tokens : List Token) (end : ℕ) → StandInOrder place line tokens end → place + length tokens ≤ end
fewer_from place line [] end order = omega (arith, order)
fewer_from place line (t ∷ tokens) end order =
    omega (arith, order.0, order.1, fewer_from t.end t.line tokens end order.3)

pub fewer : (text : List ℕ) (tokens : List Token) → IsTokens text tokens → length tokens ≤ length text
fewer text tokens lexes = omega (arith, fewer_from 0 1 tokens (length text) (in_order text tokens lexes))
