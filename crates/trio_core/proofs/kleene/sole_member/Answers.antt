-- The answers to the goals of `sole_member`.
use Rattle.std.proofs.Common.{w64, sym, ◌∙◌}
use Rattle.std.proofs.lemmas.Bool.{eq-eqb}
use Rattle.std.proofs.lemmas.Nat.{one_shl}
use Rattle.std.proofs.lemmas.Nat.Bits.{bit_at-trailing_zeros}
use Rattle.std.specs.Int.{bit_at, trailing_zeros}
use Rattle.trio_core.proofs.Sole.{one_bit, more_bits}
use Rattle.trio_core.proofs.kleene.sole_member.Goals as goal

pub returns-then-set-lowest : goal.returns-then-set-lowest
returns-then-set-lowest c =
    let low = trailing_zeros w64 c.args.set in
    let lowest = bit_at-trailing_zeros w64 c.args.set c.requires c.ranges.set.fits in
    λ size is. one_bit size c.args.set low is (c.if-set-lowest.true ∙ one_shl low 64 lowest.0)

pub returns-else-set-lowest : goal.returns-else-set-lowest
returns-else-set-lowest c =
    let low = trailing_zeros w64 c.args.set in
    let lowest = bit_at-trailing_zeros w64 c.args.set c.requires c.ranges.set.fits in
    λ size is. more_bits size c.args.set low is (eq-eqb (bit_at c.args.set low) 1 lowest.1) (λ power. c.if-set-lowest.false (power ∙ sym (one_shl low 64 lowest.0)))
