-- What the loop over statements keeps.
use Rattle.std.proofs.Common.{◌≡◌, ◌∷◌, map, take}
use Rattle.trio_scope.specs.Names.{domains_in}
use Rattle.trio_reader.specs.Erasure.{bool_domain, domain_from}
use Rattle.trio_reader.proofs.declaring.domains_of.Given as goal

abbrev pub invariant-loop-statement : goal.invariant-loop-statement
invariant-loop-statement l = l.made.items ≡ bool_domain ∷ map domain_from (domains_in (take l.statement-index l.statements))
