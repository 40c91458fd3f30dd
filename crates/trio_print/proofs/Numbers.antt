-- A number that is printed is a number of that value.
use Rattle.std.proofs.Common.{◌≡◌, ℕ, ◌+◌, ◌-◌, ◌*◌, ◌/◌, ◌%◌, ◌<◌, ◌≤◌, min, true, List, [], ◌∷◌, ◌++◌, refl, ap, ◌∙◌, arith}
use Rattle.std.specs.Prelude.{decimal}
use Rattle.std.proofs.lemmas.Bool.{false≢true}
use Rattle.std.proofs.lemmas.Bool.Decides.{nat_tests}
use Rattle.std.proofs.lemmas.Fmt.{decimal_by_steps}
use Rattle.std.proofs.lemmas.List.Folds.{list_all-append}
use Rattle.std.proofs.lemmas.List.Sums.{fold-append}
use Rattle.trio_base.specs.declared.limits.TheConstants.{GREATEST_NUMBER}
use Rattle.trio_text.specs.Spelling.{is_digit, is_numeral}
use Rattle.trio_text.specs.Lexemes.{number_of}
use Rattle.trio_text.proofs.Runs.{and_left, and_right, and_both}

-- these bytes are a number of this value
record Writes (n : ℕ) (ds : List ℕ) : Type 0 where
  spelled : is_numeral ds ≡ true
  value : number_of ds ≡ n

digit_is : (n : ℕ) → n < 10 → is_digit (48 + n) ≡ true
digit_is n small = grind (arith, nat_tests)

one_digit : (n : ℕ) → n < 10 → Writes n ((48 + n) ∷ [])
one_digit n small = record { spelled = and_both _ _ (digit_is n small) refl; value = omega arith }

number_push : (ds : List ℕ) (d : ℕ) → is_numeral ds ≡ true → is_digit d ≡ true → is_numeral (ds ++ d ∷ []) ≡ true
number_push [] d spelled digit = absurd (false≢true spelled)
number_push (b ∷ ds) d spelled digit =
    and_both _ _ (and_left (is_digit b) _ spelled)
    (list_all-append is_digit ds (d ∷ []) ∙ and_both _ _ (and_right (is_digit b) _ spelled) (and_both _ _ digit refl))

digit_more : (n : ℕ) (ds : List ℕ) → 10 ≤ n → Writes (n / 10) ds → Writes n (ds ++ ((48 + n % 10) ∷ []))
digit_more n ds big front = record {
  spelled = number_push ds (48 + n % 10) front.spelled (digit_is (n % 10) (omega arith));
  value =
      fold-append (λ m b. 10 * m + (b - 48)) 0 ds ((48 + n % 10) ∷ []) ∙ ap (λ m. 10 * m + (48 + n % 10 - 48)) front.value ∙ omega arith;
}

decimal_writes : (n : ℕ) → n ≤ GREATEST_NUMBER → Writes n (decimal n)
decimal_writes n small = decimal_by_steps Writes one_digit digit_more n (omega arith)

pub decimal_number : (n : ℕ) → n ≤ GREATEST_NUMBER → is_numeral (decimal n) ≡ true
decimal_number n small = (decimal_writes n small).spelled

-- what is read of it
pub decimal_value : (n : ℕ) → n ≤ GREATEST_NUMBER → min (number_of (decimal n)) (GREATEST_NUMBER + 1) ≡ n
decimal_value n small = ap (λ m. min m (GREATEST_NUMBER + 1)) (decimal_writes n small).value ∙ omega arith
