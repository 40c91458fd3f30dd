-- What the loop of `claims` keeps.
use Rattle.std.proofs.Common.{map, take}
use Rattle.trio_scope.specs.declared.meaning.Meaning.TheVariants.{Claim}
use Rattle.trio_scope.specs.Names.{declaration}
use Rattle.trio_scope.specs.Table.{AddsDeclarations}
use Rattle.trio_scope.proofs.names.Names.claims.Given as goal

abbrev pub invariant-loop-claim : goal.invariant-loop-claim
invariant-loop-claim l = AddsDeclarations l.fn.self l.self (map (λ c. declaration c.name Claim) (take l.claim-index l.claims))
