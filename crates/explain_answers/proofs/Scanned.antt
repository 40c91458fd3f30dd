-- One step of a search along tokens, and its end.
use Rattle.std.proofs.Common.{◌≡◌, ℕ, ◌+◌, ◌-◌, ◌<◌, ◌≤◌, ◌≢◌, suc, Bool, true, false, cond, List, [], ◌∷◌, length, take_while, length-take, refl, arith}
use Rattle.std.specs.List.{prefix_len}
use Rattle.std.specs.Prelude.{nat_lt, nat_le, ◌==◌, if◌then◌else◌, slice_get}
use Rattle.std.proofs.lemmas.Bool.Decides.{nat_tests}
use Rattle.trio_text.specs.declared.token.Token.{Token}
use Rattle.explain_answers.specs.Sources.{is_of}
use Rattle.explain_answers.specs.RowForm.{is_colon, colon_from, begins_value, value_from}
use Rattle.explain_answers.specs.VerdictWords.{is_axiom, axiom_from}

pub colon_step : (tokens : List Token) (end at : ℕ) → at < end → colon_from tokens end at (end - at) ≡
    (if is_of is_colon (slice_get tokens at) then at else colon_from tokens end (at + 1) (end - (at + 1)))
colon_step tokens end at below = let e : end - at ≡ suc (end - (at + 1)) = omega arith in rw e refl

pub colon_end : (tokens : List Token) (end at : ℕ) → end ≤ at → colon_from tokens end at (end - at) ≡ end
colon_end tokens end at past = let e : end - at ≡ 0 = omega arith in rw e refl

pub value_passed : (tokens : List Token) (end number at : ℕ) → at < end → begins_value tokens at ≡ false →
    value_from tokens end number at (end - at) ≡ value_from tokens end number (at + 1) (end - (at + 1))
value_passed tokens end number at below none =
    let e : end - at ≡ suc (end - (at + 1)) = omega arith in rw e (rw none refl)

pub value_counted : (tokens : List Token) (end number at : ℕ) → at < end → begins_value tokens at ≡ true → 1 < number →
    value_from tokens end number at (end - at) ≡ value_from tokens end (number - 1) (at + 1) (end - (at + 1))
value_counted tokens end number at below is more =
    let e : end - at ≡ suc (end - (at + 1)) = omega arith in
    let many : nat_le number 1 ≡ false = grind (arith, nat_tests) in
    rw e (rw (is, many) refl)

pub value_found : (tokens : List Token) (end number at : ℕ) → at < end → begins_value tokens at ≡ true → number ≤ 1 →
    value_from tokens end number at (end - at) ≡ at
value_found tokens end number at below is last =
    let e : end - at ≡ suc (end - (at + 1)) = omega arith in
    let one : nat_le number 1 ≡ true = grind (arith, nat_tests) in
    rw e (rw (is, one) refl)

pub value_end : (tokens : List Token) (end number at : ℕ) → end ≤ at → value_from tokens end number at (end - at) ≡ end
value_end tokens end number at past = let e : end - at ≡ 0 = omega arith in rw e refl

pub axiom_passed : (tokens : List Token) (end number at : ℕ) → at < end → is_of is_axiom (slice_get tokens at) ≡ false →
    axiom_from tokens end number at (end - at) ≡ axiom_from tokens end number (at + 1) (end - (at + 1))
axiom_passed tokens end number at below none =
    let e : end - at ≡ suc (end - (at + 1)) = omega arith in rw e (rw none refl)

pub axiom_counted : (tokens : List Token) (end number at : ℕ) → at < end → is_of is_axiom (slice_get tokens at) ≡ true → number ≢ 0 →
    axiom_from tokens end number at (end - at) ≡ axiom_from tokens end (number - 1) (at + 1) (end - (at + 1))
axiom_counted tokens end number at below is more =
    let e : end - at ≡ suc (end - (at + 1)) = omega arith in
    let some : (number == 0) ≡ false = grind (arith, nat_tests) in
    rw e (rw (is, some) refl)

pub axiom_found : (tokens : List Token) (end number at : ℕ) → at < end → is_of is_axiom (slice_get tokens at) ≡ true → number ≡ 0 →
    axiom_from tokens end number at (end - at) ≡ at
axiom_found tokens end number at below is none =
    let e : end - at ≡ suc (end - (at + 1)) = omega arith in
    let zero_left : (number == 0) ≡ true = grind (arith, nat_tests) in
    rw e (rw (is, zero_left) refl)

pub axiom_end : (tokens : List Token) (end number at : ℕ) → end ≤ at → axiom_from tokens end number at (end - at) ≡ end
axiom_end tokens end number at past = let e : end - at ≡ 0 = omega arith in rw e refl

longer_of : (a b : Bool) (m k : ℕ) → (a ≡ true → b ≡ true) → m ≤ k → cond a (1 + m) 0 ≤ cond b (1 + k) 0
longer_of true true m k implied h = omega arith
longer_of true false m k implied h = let e : false ≡ true = implied refl in cc
longer_of false b m k implied h = omega arith

before_is_within : (line number : ℕ) → nat_lt line number ≡ true → nat_le line number ≡ true
before_is_within line number is = grind (arith, nat_tests)

longer_front : (number : ℕ) (tokens : List Token) → prefix_len (λ t. nat_lt t.line number) tokens ≤ prefix_len (λ t. nat_le t.line number) tokens
longer_front number [] = omega arith
longer_front number (t ∷ tokens) =
    longer_of (nat_lt t.line number) (nat_le t.line number) _ _ (before_is_within t.line number) (longer_front number tokens)

-- no fewer tokens stand on the lines up to one than on those before it
pub no_fewer : (number : ℕ) (tokens : List Token) →
    length (take_while (λ t. nat_lt t.line number) tokens) ≤ length (take_while (λ t. nat_le t.line number) tokens)
no_fewer number tokens = let h = longer_front number tokens in omega (arith, length-take {A = Token})
