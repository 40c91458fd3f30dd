-- What the loop of `tuple_count` keeps.
use Rattle.std.proofs.Common.{◌≡◌, ◌*◌, length, drop}
use Rattle.trio_types.specs.Cells.{tuples}
use Rattle.trio_types.proofs.spec.Declarations.tuple_count.Given as goal

-- the product so far times the tuples of the domains that are left is the number of all
abbrev pub invariant-loop-domain : goal.invariant-loop-domain
invariant-loop-domain l =
    l.count * length (tuples l.self.domains.now (drop l.domain-index l.domains)) ≡ length (tuples l.self.domains.now l.domains)
