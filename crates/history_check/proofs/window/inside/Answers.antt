-- The answers to the goals of `inside`.
use Rattle.std.proofs.Common.{◌≡◌, pos, ◌≤ℤ◌, nat_abs, to_z, of_z, w64, ap, ◌∙◌, arith}
use Rattle.std.specs.Int.{int_max, int_min}
use Rattle.std.proofs.lemmas.Int.{ints}
use Rattle.history_check.proofs.Windows.{kept_window, absolute}
use Rattle.history_check.proofs.window.inside.Goals as goal

pub returns : goal.returns
returns c =
    let n = c.args.instants in
    let low = to_z w64 (of_z w64 c.clamp.result) in
    let high = to_z w64 (of_z w64 c.clamp-2.result) in
    let from = to_z w64 (of_z w64 c.args.from) in
    let to = to_z w64 (of_z w64 c.args.to) in
    let last = to_z w64 (of_z w64 c.from-last.result) in
    let last_is : last ≡ pos n = omega (arith, ints, c.from-last.ensures) in
    let from_is : from ≡ c.args.from = omega (arith, ints) in
    let to_is : to ≡ c.args.to = omega (arith, ints) in
    let low_is : low ≡ c.clamp.result = omega (arith, ints) in
    let high_is : high ≡ c.clamp-2.result = omega (arith, ints) in
    let low_from : pos 0 ≤ℤ low = omega (arith, ints, c.clamp.ensures.lower_bound) in
    let high_from : pos 0 ≤ℤ high = omega (arith, ints, c.clamp-2.ensures.lower_bound) in
    kept_window n (nat_abs low) (nat_abs high) c.args.from c.args.to
    (absolute low low_from ∙ low_is ∙ c.clamp.ensures.value ∙ ap (λ z. int_max (pos 0) (int_min z last)) from_is ∙ ap (λ z. int_max (pos 0) (int_min c.args.from z)) last_is)
    (absolute high high_from ∙ high_is ∙ c.clamp-2.ensures.value ∙ ap (λ z. int_max (pos 0) (int_min z last)) to_is ∙ ap (λ z. int_max (pos 0) (int_min c.args.to z)) last_is)
