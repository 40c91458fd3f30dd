-- Counts as they are given, under sums, products and greatest of them.
use Rattle.std.proofs.Common.{◌≡◌, ℕ, zero, suc, ◌*◌, ◌≤◌, ap, ◌∙◌, arith}
use Rattle.std.proofs.Math.Logic.{⊎_elim}
use Rattle.std.proofs.Math.Nat.{mul-le-mul_right, mul_comm}
use Rattle.std.proofs.lemmas.Bool.{cases_lt}
use Rattle.trio_limits.specs.Given.{given_count}

pub given_small : (x : ℕ) → x ≤ 18446744073709551615 → given_count x ≡ x
given_small x small = omega arith

-- a product with a count
pub given_times : (n x : ℕ) → given_count (n * given_count x) ≡ given_count (n * x)
given_times zero x = omega arith
given_times (suc n) x = ⊎_elim
    (λ small. ap (λ y. given_count (suc n * y)) (given_small x (omega arith)))
    (λ large.
    let top : given_count x ≡ 18446744073709551615 = omega arith in
    let one : 1 ≤ suc n = omega arith in
    let first : 1 * given_count x ≤ suc n * given_count x = mul-le-mul_right (given_count x) one in
    let second : 1 * x ≤ suc n * x = mul-le-mul_right x one in
    omega arith)
    (cases_lt x 18446744073709551615)

pub given_by : (x n : ℕ) → given_count (given_count x * n) ≡ given_count (x * n)
given_by x n = ap given_count (mul_comm (given_count x) n) ∙ given_times n x ∙ ap given_count (mul_comm n x)
