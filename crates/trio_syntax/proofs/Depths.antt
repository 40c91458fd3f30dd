-- The first place with a property, and how many brackets are open one token on.
use Rattle.std.proofs.Common.{◌≡◌, ℕ, suc, zero, ◌+◌, ◌<◌, ◌≤◌, Bool, true, false, cond, ltb, List, length, get_or, take, refl, sym, ap, subst, ◌∙◌, arith, None, Some}
use Rattle.std.specs.List.{range_with_len, find}
use Rattle.std.proofs.lemmas.List.Sums.{fold_more}
use Rattle.std.proofs.lemmas.Bool.{lt-ltb, le-ltb}
use Rattle.trio_text.specs.declared.lexeme.Lexeme.{Lexeme}
use Rattle.trio_syntax.specs.Depth.{open_after, open_behind, first_deep}

find_here : (test : ℕ → Bool) (a n k : ℕ) → k < n → ((j : ℕ) → j < k → test (a + j) ≡ false) → test (a + k) ≡ true → find test (range_with_len a n) ≡ Some (a + k)
find_here test a zero k within before here = absurd (omega arith)
find_here test a (suc n) zero within before here =
    let same : a + 0 ≡ a = omega arith in
    let is : test a ≡ true = subst (λ m. test m ≡ true) same here in
    ap (λ b. cond b (Some a) (find test (range_with_len (a + 1) n))) is ∙ ap (λ m. Some m) (sym same)
find_here test a (suc n) (suc k) within before here =
    let same : a + 0 ≡ a = omega arith in
    let is : test a ≡ false = subst (λ m. test m ≡ false) same (before 0 (omega arith)) in
    let next : (j : ℕ) → a + suc j ≡ a + 1 + j = λ j. omega arith in
    ap (λ b. cond b (Some a) (find test (range_with_len (a + 1) n))) is
    ∙ find_here test (a + 1) n k (omega arith) (λ j less. subst (λ m. test m ≡ false) (next j) (before (suc j) (omega arith))) (subst (λ m. test m ≡ true) (next k) here)
    ∙ ap (λ m. Some m) (sym (next k))

find_nowhere : (test : ℕ → Bool) (a n : ℕ) → ((j : ℕ) → j < n → test (a + j) ≡ false) → find test (range_with_len a n) ≡ None
find_nowhere test a zero never = refl
find_nowhere test a (suc n) never =
    let same : a + 0 ≡ a = omega arith in
    let is : test a ≡ false = subst (λ m. test m ≡ false) same (never 0 (omega arith)) in
    let next : (j : ℕ) → a + suc j ≡ a + 1 + j = λ j. omega arith in
    ap (λ b. cond b (Some a) (find test (range_with_len (a + 1) n))) is
    ∙ find_nowhere test (a + 1) n (λ j less. subst (λ m. test m ≡ false) (next j) (never (suc j) (omega arith)))

pub open_none : (tokens : List Lexeme) → open_behind (take 0 tokens) ≡ 0
unfolding open_behind
open_none tokens = refl

pub open_more : (tokens : List Lexeme) (i : ℕ) (d : Lexeme) → i < length tokens → open_behind (take (i + 1) tokens) ≡ open_after (open_behind (take i tokens)) (get_or tokens i d)
unfolding open_behind
open_more tokens i d within = fold_more open_after 0 tokens i d within

-- the loop's step
pub open_after_here : (tokens : List Lexeme) (i opened after : ℕ) (token : Lexeme) → i < length tokens → opened ≡ open_behind (take i tokens) → token ≡ get_or tokens i token → after ≡ open_after opened token →
    after ≡ open_behind (take (i + 1) tokens)
open_after_here tokens i opened after token within before here is =
    is ∙ ap (λ n. open_after n token) before ∙ ap (λ t. open_after (open_behind (take i tokens)) t) here ∙ sym (open_more tokens i token within)

pub deep_here : (tokens : List Lexeme) (k : ℕ) → k < length tokens → ((j : ℕ) → j < k → open_behind (take (j + 1) tokens) ≤ 100) → 100 < open_behind (take (k + 1) tokens) → Some k ≡ first_deep tokens
unfolding first_deep
deep_here tokens k within before here =
    let test : ℕ → Bool = λ m. ltb 100 (open_behind (take (m + 1) tokens)) in
    let zero_add : (j : ℕ) → 0 + j ≡ j = λ j. omega arith in
    sym (find_here test 0 (length tokens) k within
    (λ j less. subst (λ m. test m ≡ false) (sym (zero_add j)) (le-ltb 100 (open_behind (take (j + 1) tokens)) (before j less)))
    (subst (λ m. test m ≡ true) (sym (zero_add k)) (lt-ltb 100 (open_behind (take (k + 1) tokens)) here))
    ∙ ap (λ m. Some m) (zero_add k))

pub deep_nowhere : (tokens : List Lexeme) → ((j : ℕ) → j < length tokens → open_behind (take (j + 1) tokens) ≤ 100) → None ≡ first_deep tokens
unfolding first_deep
deep_nowhere tokens never =
    let test : ℕ → Bool = λ m. ltb 100 (open_behind (take (m + 1) tokens)) in
    let zero_add : (j : ℕ) → 0 + j ≡ j = λ j. omega arith in
    sym (find_nowhere test 0 (length tokens) (λ j less. subst (λ m. test m ≡ false) (sym (zero_add j)) (le-ltb 100 (open_behind (take (j + 1) tokens)) (never j less))))
