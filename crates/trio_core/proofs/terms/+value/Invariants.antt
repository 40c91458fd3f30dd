-- What the loops of `cell_read` and `sum` keep.
use Rattle.std.proofs.Common.{◌≡◌, map, take}
use Rattle.trio_types.proofs.Arguments.{Indexed}
use Rattle.trio_core.specs.Three.{known_at, known_sum}
use Rattle.trio_core.specs.Stands.{world_of_core}
use Rattle.trio_core.proofs.Value3At.{signed_value3}
use Rattle.trio_core.proofs.TermValues.{known_args}
use Rattle.trio_core.proofs.terms.+value.Given as goal

abbrev pub invariant-cell_read-loop-place : goal.invariant-cell_read-loop-place
invariant-cell_read-loop-place l = Indexed l.under.core.now.domains l.domains (known_args l.under l.instant l.args) l.place l.indexes

-- what is known of the sum of the parts so far
abbrev pub invariant-sum-loop-part : goal.invariant-sum-loop-part
invariant-sum-loop-part l =
    l.sum ≡ known_sum (map (λ p. signed_value3 (world_of_core l.under.core.now) p l.under.values.now (known_at (world_of_core l.under.core.now) l.under.doms.now) l.instant) (take l.part-index l.parts))
