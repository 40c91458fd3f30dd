-- What the loop over the domains of arguments keeps.
use Rattle.std.proofs.Common.{◌≡◌, map, take}
use Rattle.trio_reader.specs.Erasure.{domain_of}
use Rattle.trio_reader.proofs.declaring.numbers_of.Given as goal

abbrev pub invariant-loop-domain : goal.invariant-loop-domain
invariant-loop-domain l = l.made.items ≡ map (domain_of l.scope.tree.now) (take l.domain-index l.domains)
