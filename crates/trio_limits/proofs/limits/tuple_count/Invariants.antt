-- What the loop over domains keeps: the product so far times the tuples of the domains that are left is the number of all.
use Rattle.std.proofs.Common.{◌≡◌, ◌*◌, ◌≤◌, length, drop}
use Rattle.trio_types.specs.Cells.{tuples}
use Rattle.trio_limits.specs.Given.{given_count}
use Rattle.trio_limits.proofs.limits.tuple_count.Given as goal

abbrev pub invariant-loop-domain : goal.invariant-loop-domain
invariant-loop-domain l =
    (l.count ≤ 18446744073709551615)
    × (given_count (l.count * length (tuples l.ground.domains.now (drop l.domain-index l.domains))) ≡ given_count (length (tuples l.ground.domains.now l.domains)))
