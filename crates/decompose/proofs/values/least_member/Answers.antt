-- The answer to the goal of `least_member`.
use Rattle.std.proofs.Common.{w64}
use Rattle.std.proofs.lemmas.Nat.Bits.{bit_at-trailing_zeros}
use Rattle.std.specs.Int.{trailing_zeros}
use Rattle.decompose.proofs.Leasts.{least_is}
use Rattle.decompose.proofs.values.least_member.Goals as goal

pub returns : goal.returns
returns c =
    let lowest = bit_at-trailing_zeros w64 c.args.set c.requires c.ranges.set.fits in
    λ size is. least_is c.args.set (trailing_zeros w64 c.args.set) lowest.1 lowest.2 size is
