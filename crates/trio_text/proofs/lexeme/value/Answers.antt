-- a digit more multiplies the number so far by ten
use Rattle.std.proofs.Common.{◌≡◌, ◌+◌, ◌*◌, ◌-◌, ℕ, min, take, ap, sym, ◌∙◌, arith}
use Rattle.std.proofs.lemmas.List.Sums.{fold_more}
use Rattle.trio_text.specs.Lexemes.{number_of}
use Rattle.trio_text.proofs.lexeme.value.Goals as goal

next_value : (n m value next digit : ℕ) → value ≡ min n 1000001 → next ≡ min (10 * value + digit) 1000001 → m ≡ 10 * n + digit → next ≡ min m 1000001
next_value n m value next digit is more longer = omega arith

pub loop-digit-preserved : goal.loop-digit-preserved
loop-digit-preserved c =
    next_value _ _ c.loop-digit.value c.min-value.result c.from.result c.loop-digit.invariant c.min-value.ensures
    (fold_more (λ n b. 10 * n + (b - 48)) 0 c.args.digits.now c.loop-digit.digit-index 0 c.loop-digit-test.true
    ∙ ap (λ d. 10 * number_of (take c.loop-digit.digit-index c.args.digits.now) + d) (sym (c.from.ensures ∙ c.saturating_sub.ensures)))
