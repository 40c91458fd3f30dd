-- What the loop over domains keeps.
use Rattle.std.proofs.Common.{◌≡◌, take}
use Rattle.trio_types.proofs.copying.copied_domains.Given as goal

abbrev pub invariant-loop-domain : goal.invariant-loop-domain
invariant-loop-domain l = l.made.items ≡ take l.domain-index l.domains
