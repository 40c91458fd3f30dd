-- The answer to the goal of `first_in_statement`.
use Rattle.std.proofs.lemmas.Grind.{flat_map-append}
use Rattle.std.proofs.lemmas.List.{append-nil}
use Rattle.trio_scope.proofs.Least.{least-append}
use Rattle.trio_scope.proofs.unknown.first_in_statement.Goals as goal

pub returns-in-Item : goal.returns-in-Item
returns-in-Item c =
    rw (c.in-Item.is, flat_map-append, least-append, append-nil, ← c.as_slice.ensures, ← c.first_in_refs-arguments.ensures, ← c.first_in_ref.ensures) c.earlier.ensures
