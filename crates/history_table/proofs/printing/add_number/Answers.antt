use Rattle.std.proofs.Common.{◌≡◌, pos, ◌++◌, sym, ap, ◌∙◌, arith, string_bytes}
use Rattle.std.proofs.lemmas.Int.{ints}
use Rattle.std.specs.Fmt.{signed_decimal}
use Rattle.std.proofs.lemmas.Fmt.{decimal_digit}
use Rattle.history_table.proofs.printing.add_number.Goals as goal

pub returns-then-number-eq0 : goal.returns-then-number-eq0
returns-then-number-eq0 c =
    let is : pos 0 ≡ c.args.number = omega (arith, ints, c.if-number-eq0.true, c.ranges.number) in
    let digit = sym (decimal_digit 0 (omega arith)) in
    c.in_ok-push_str.ensures.bytes ∙ ap (λ ds. string_bytes c.args.text.now ++ ds) (digit ∙ ap signed_decimal is)

pub returns-then-number-eq1 : goal.returns-then-number-eq1
returns-then-number-eq1 c =
    let is : pos 1 ≡ c.args.number = omega (arith, ints, c.if-number-eq1.true, c.ranges.number) in
    let digit = sym (decimal_digit 1 (omega arith)) in
    c.in_ok-push_str-2.ensures.bytes ∙ ap (λ ds. string_bytes c.args.text.now ++ ds) (digit ∙ ap signed_decimal is)
