-- What the loop of `undecided_of_parts` keeps.
use Rattle.std.proofs.Common.{◌≡◌, take, None}
use Rattle.std.specs.List.{flat_map}
use Rattle.trio_core.specs.Stands.{world_of_core}
use Rattle.trio_types.proofs.Inductions.{term_of}
use Rattle.decompose.specs.Reads.{first_undecided}
use Rattle.decompose.proofs.Readings.{cells_read}
use Rattle.decompose.proofs.reads.+undecided.Given as goal

-- the parts so far read no cell with several values
abbrev pub invariant-undecided_of_parts-loop-part : goal.invariant-undecided_of_parts-loop-part
invariant-undecided_of_parts-loop-part l =
    first_undecided (world_of_core l.under.core.now) l.under.doms.now
    (flat_map (λ p. cells_read (world_of_core l.under.core.now) l.under.doms.now l.under.values.now l.instant (term_of p)) (take l.part-index l.parts)) ≡ None
