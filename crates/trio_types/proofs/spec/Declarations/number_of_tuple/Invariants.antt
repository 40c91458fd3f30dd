-- What the loop of `number_of_tuple` keeps.
use Rattle.std.proofs.Common.{◌≡◌, ◌+◌, ◌*◌, length, drop, true}
use Rattle.trio_types.specs.Cells.{tuples, are_indexes}
use Rattle.trio_types.proofs.CellNumbers.{tuple_number}
use Rattle.trio_types.proofs.spec.Declarations.number_of_tuple.Given as goal

-- the number so far counts as often as there are tuples of the domains that are left
abbrev pub invariant-loop-place : goal.invariant-loop-place
invariant-loop-place l = record {
  whole : l.number * length (tuples l.self.domains.now (drop l.place l.domains)) + tuple_number l.self.domains.now (drop l.place l.domains) (drop l.place l.args)
      ≡ tuple_number l.self.domains.now l.domains l.args;
  fit : are_indexes l.self.domains.now (drop l.place l.domains) (drop l.place l.args) ≡ true;
}
