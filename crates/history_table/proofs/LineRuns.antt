-- Neighbouring tokens of one line are a line in front of those of the tokens behind them.
use Rattle.std.proofs.Common.{◌≡◌, ℕ, suc, ◌≤◌, ◌<◌, List, [], ◌∷◌, length, take, drop, refl, sym, ap, ◌∙◌, cond, true, false, Bool, ◌==◌, arith, if◌then◌else◌, take_while, subst, ap₂, inl, inr, slice_get, Some}
use Rattle.std.proofs.lemmas.Bool.{cases_Bool}
use Rattle.std.proofs.lemmas.List.{length-take}
use Rattle.std.specs.List.{prefix_len}
use Rattle.std.proofs.lemmas.List.Sums.{take_while-cons}
use Rattle.std.proofs.lemmas.Bool.Decides.{nat_tests}
use Rattle.trio_text.specs.declared.token.Token.{Token}
use Rattle.trio_text.specs.declared.lexeme.Lexeme.{Lexeme}
use Rattle.trio_text.specs.Lexemes.{lexeme_of, lexemes_of}
use Rattle.history_table.specs.Lines.{Numbered, with_lexeme, lines_of}
use Rattle.history_table.specs.Decoding.{lines_by}

-- how many tokens at the front are on this line
run : ℕ → List Token → ℕ
run n [] = 0
run n (t ∷ ts) = if t.line == n then suc (run n ts) else 0

counted : {A : Type 0} (b : Bool) (x : A) (xs : List A) (n : ℕ) → length xs ≡ n → length (cond b (x ∷ xs) []) ≡ (if b then suc n else 0)
counted true x xs n e = ap suc e
counted false x xs n e = refl

run_is : (n : ℕ) (ts : List Token) → length (take_while (λ t. t.line == n) ts) ≡ run n ts
unfolding run
run_is n [] = refl
run_is n (t ∷ ts) = ap length (take_while-cons (λ u. u.line == n) t ts) ∙ counted (t.line == n) t _ _ (run_is n ts)

pub eq_true : (m n : ℕ) → m ≡ n → (m == n) ≡ true
eq_true m n e = grind (arith, nat_tests)

pub eq_from : (m n : ℕ) → (m == n) ≡ true → m ≡ n
eq_from m n e = grind (arith, nat_tests)

run_first : (n : ℕ) (t : Token) (ts : List Token) → t.line ≡ n → run n (t ∷ ts) ≡ suc (run n ts)
unfolding run
run_first n t ts e = ap (λ b. if b then suc (run n ts) else 0) (eq_true t.line n e)

run_other : (n : ℕ) (t : Token) (ts : List Token) → (t.line == n) ≡ false → run n (t ∷ ts) ≡ 0
unfolding run
run_other n t ts e = ap (λ b. if b then suc (run n ts) else 0) e

same_number : (m n : ℕ) (x : Lexeme) (xs : List Lexeme) (lines : List Numbered) → m ≡ n →
    with_lexeme m x (record { number = n; tokens = xs } ∷ lines) ≡ record { number = n; tokens = x ∷ xs } ∷ lines
same_number m n x xs lines e =
    ap (λ b. if b then record { number = n; tokens = x ∷ xs } ∷ lines else record { number = m; tokens = x ∷ [] } ∷ record { number = n; tokens = xs } ∷ lines)
    (eq_true n m (sym e))

other_number : (m n : ℕ) (x : Lexeme) (xs : List Lexeme) (lines : List Numbered) → (n == m) ≡ false →
    with_lexeme m x (record { number = n; tokens = xs } ∷ lines) ≡ record { number = m; tokens = x ∷ [] } ∷ record { number = n; tokens = xs } ∷ lines
other_number m n x xs lines e =
    ap (λ b. if b then record { number = n; tokens = x ∷ xs } ∷ lines else record { number = m; tokens = x ∷ [] } ∷ record { number = n; tokens = xs } ∷ lines) e

-- the first n tokens are a line of their own
Splits : ℕ → List Token → List Lexeme → ℕ → Type 0
Splits n ts xs k = lines_by ts xs ≡ record { number = n; tokens = take k xs } ∷ lines_by (drop k ts) (drop k xs)

-- with one token more in front of `ts`
Joins : ℕ → Lexeme → ℕ → List Token → List Lexeme → ℕ → Type 0
Joins m x n ts xs k = with_lexeme m x (lines_by ts xs) ≡ record { number = n; tokens = x ∷ take k xs } ∷ lines_by (drop k ts) (drop k xs)

same_line : (m n : ℕ) (x : Lexeme) (ts : List Token) (xs : List Lexeme) (k : ℕ) → m ≡ n → Splits n ts xs k → Joins m x n ts xs k
unfolding Splits Joins
same_line m n x ts xs k e splits = ap (with_lexeme m x) splits ∙ same_number m n x (take k xs) (lines_by (drop k ts) (drop k xs)) e

other_line : (m n o : ℕ) (x : Lexeme) (ts : List Token) (xs : List Lexeme) (k : ℕ) → m ≡ n → (o == n) ≡ false → Splits o ts xs k → Joins m x n ts xs 0
unfolding Splits Joins
other_line m n o x ts xs k e differs splits =
    let test : (o == m) ≡ false = ap (λ a. o == a) e ∙ differs in
    ap (with_lexeme m x) splits ∙ other_number m o x (take k xs) (lines_by (drop k ts) (drop k xs)) test
    ∙ ap₂ (λ a lines. record { number = a; tokens = x ∷ [] } ∷ lines) e (sym splits)

run_joins : (m n : ℕ) (u : Token) (us : List Token) (x y : Lexeme) (ys : List Lexeme) → m ≡ n →
    (u.line ≡ n → Splits n (u ∷ us) (y ∷ ys) (run n (u ∷ us))) → Splits u.line (u ∷ us) (y ∷ ys) (run u.line (u ∷ us)) →
    Joins m x n (u ∷ us) (y ∷ ys) (run n (u ∷ us))
run_joins m n u us x y ys e here there =
    elim (cases_Bool (u.line == n)) [
      | inl same ↦ same_line m n x (u ∷ us) (y ∷ ys) (run n (u ∷ us)) e (here (eq_from u.line n same))
      | inr differs ↦
          subst (Joins m x n (u ∷ us) (y ∷ ys)) (sym (run_other n u us differs))
          (other_line m n u.line x (u ∷ us) (y ∷ ys) (run u.line (u ∷ us)) e differs there)
    ]

joins_first : (n : ℕ) (t : Token) (ts : List Token) (x : Lexeme) (xs : List Lexeme) (k : ℕ) → Joins t.line x n ts xs k →
    Splits n (t ∷ ts) (x ∷ xs) (suc k)
unfolding Splits Joins
joins_first n t ts x xs k joins = joins

run_splits : (n : ℕ) (t : Token) (ts : List Token) (x : Lexeme) (xs : List Lexeme) → length xs ≡ length ts → t.line ≡ n →
    Splits n (t ∷ ts) (x ∷ xs) (run n (t ∷ ts))
unfolding Splits Joins run
run_splits n t [] x [] whole e =
    subst (Splits n (t ∷ []) (x ∷ [])) (sym (run_first n t [] e)) (ap (λ m. record { number = m; tokens = x ∷ [] } ∷ []) e)
run_splits n t (u ∷ us) x (y ∷ ys) whole e =
    let rest : length ys ≡ length us = omega arith in
    subst (Splits n (t ∷ u ∷ us) (x ∷ y ∷ ys)) (sym (run_first n t (u ∷ us) e))
    (joins_first n t (u ∷ us) x (y ∷ ys) (run n (u ∷ us))
    (run_joins t.line n u us x y ys e (λ f. run_splits n u us y ys rest f) (run_splits u.line u us y ys rest refl)))
run_splits n t [] x (y ∷ ys) whole e = absurd (omega arith)
run_splits n t (u ∷ us) x [] whole e = absurd (omega arith)

run_within : (n : ℕ) (ts : List Token) → run n ts ≤ length ts
run_within n ts =
    let is : length (take_while (λ t. t.line == n) ts) ≡ run n ts = run_is n ts in
    omega (arith, length-take (prefix_len (λ (t : Token). t.line == n) ts) ts)

-- the tokens at the front that are on the first one's line
pub record IsRun (rest : List Token) (lexemes : List Lexeme) (first : Token) (count : ℕ) : Type 0 where
  pub some : 0 < count
  pub within : count ≤ length rest
  pub split : lines_by rest lexemes ≡ record { number = first.line; tokens = take count lexemes } ∷ lines_by (drop count rest) (drop count lexemes)

pub is_run : (rest : List Token) (lexemes : List Lexeme) (first : Token) (count : ℕ) → length lexemes ≡ length rest → Some first ≡ slice_get rest 0 →
    count ≡ length (take_while (λ t. t.line == first.line) rest) → IsRun rest lexemes first count
unfolding Splits
is_run [] lexemes first count whole is counts = cc
is_run (t ∷ ts) [] first count whole is counts = absurd (omega arith)
is_run (t ∷ ts) (x ∷ xs) first count whole is counts =
    let same : first ≡ t = cc in
    let e : t.line ≡ first.line = ap (λ u. u.line) (sym same) in
    let k : count ≡ run first.line (t ∷ ts) = counts ∙ run_is first.line (t ∷ ts) in
    let rest : length xs ≡ length ts = omega arith in
    record {
      some = let one : run first.line (t ∷ ts) ≡ suc (run first.line ts) = run_first first.line t ts e in omega arith;
      within = let most : run first.line (t ∷ ts) ≤ length (t ∷ ts) = run_within first.line (t ∷ ts) in omega arith;
      split = subst (Splits first.line (t ∷ ts) (x ∷ xs)) (sym k) (run_splits first.line t ts x xs rest e);
    }

-- the lexemes of a text's tokens, line by line, are its lines
pub lines_by_text : (text : List ℕ) (tokens : List Token) → lines_by tokens (lexemes_of text tokens) ≡ lines_of text tokens
lines_by_text text [] = refl
lines_by_text text (token ∷ tokens) = ap (with_lexeme token.line (lexeme_of text token)) (lines_by_text text tokens)
