-- What the loop over statements keeps.
use Rattle.std.proofs.Common.{◌≡◌, take}
use Rattle.std.specs.List.{flat_map}
use Rattle.trio_scope.specs.Places.{least}
use Rattle.trio_reader.specs.Ranges.{statement_places}
use Rattle.trio_reader.proofs.ranges.first_in_statements.Given as goal

abbrev pub invariant-loop-statement : goal.invariant-loop-statement
invariant-loop-statement l = l.first ≡ least (flat_map statement_places (take l.statement-index l.statements))
