-- The bytes of a name are ASCII, so that they are a text.
use Rattle.std.proofs.Common.{◌≡◌, ℕ, ◌<◌, zero, suc, true, List, [], ◌∷◌, MatchResult, IsOk, refl, arith, IsUtf8}
use Rattle.std.specs.Prelude.{Result, Ok, Err, slice_index}
use Rattle.std.specs.List.{list_all}
use Rattle.std.proofs.lemmas.Bool.Decides.{nat_tests}
use Rattle.std.proofs.lemmas.Str.{IsUtf8-from_ascii}
use Rattle.trio_text.specs.Spelling.{is_name_byte, is_name}
use Rattle.trio_text.proofs.Runs.{and_left, and_right}
use Rattle.trio_text.proofs.Spellings.{name_word, word_bytes}

byte_below : (b : ℕ) → is_name_byte b ≡ true → b < 128
byte_below b is = grind (arith, nat_tests)

bytes_ascii : (bs : List ℕ) → list_all is_name_byte bs ≡ true → (i : ℕ) → slice_index bs i < 128
bytes_ascii [] all i = omega arith
bytes_ascii (b ∷ bs) all zero = byte_below b (and_left (is_name_byte b) _ all)
bytes_ascii (b ∷ bs) all (suc i) = bytes_ascii bs (and_right (is_name_byte b) _ all) i

-- what says that bytes are a text or are none says of a name's that they are
pub name_text : {A E : Type 0} (P : A → Type 0) (Q : E → Type 0) (word : List ℕ) → is_name word ≡ true → (r : Result A E) → MatchResult r P (λ e. (IsUtf8 word → ⊥) × Q e) → IsOk r
name_text P Q word name (Ok x) cases = refl
name_text P Q word name (Err e) cases = absurd (cases.0 (IsUtf8-from_ascii word (bytes_ascii word (word_bytes word (name_word word name)))))
