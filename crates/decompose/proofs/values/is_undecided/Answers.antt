-- The answers to the goals of `is_undecided`.
use Rattle.std.proofs.Common.{◌≡◌, Some, get_or, slice_get}
use Rattle.std.proofs.lemmas.Option.{slice_get-get_or}
use Rattle.trio_types.specs.Cells.{cell_size}
use Rattle.trio_core.specs.Stands.{world_of_core}
use Rattle.decompose.proofs.Leasts.{undecided_by, cell_of_set, set_positive}
use Rattle.decompose.proofs.values.is_undecided.Goals as goal

pub sole_member-requires : goal.sole_member-requires
sole_member-requires c =
    let w = world_of_core c.args._core.now in
    let sets = c.args.sets.now in
    let n = c.args.cell in
    let set = get_or sets n 0 in
    set_positive w sets n set c.requires.sets_fit (slice_get-get_or sets n 0 c.requires.cell_in)

pub returns : goal.returns
returns c =
    let w = world_of_core c.args._core.now in
    let sets = c.args.sets.now in
    let n = c.args.cell in
    let set = get_or sets n 0 in
    let at : slice_get sets n ≡ Some set = slice_get-get_or sets n 0 c.requires.cell_in in
    let cell = cell_of_set w sets n set c.requires.sets_fit at in
    undecided_by w sets n set cell.0 cell.1 at c.sole_member.result (c.sole_member.ensures (cell_size w cell.0) cell.2) c.is_none.result c.is_none.ensures
