-- The answers to the goals of `cell_size`.
use Rattle.std.proofs.Common.{take, Some, ap, sym, ◌∙◌}
use Rattle.std.specs.Option.{option_map}
use Rattle.std.proofs.lemmas.Option.{slice_get_within}
use Rattle.trio_types.specs.Cells.{the_cell, cell_size}
use Rattle.trio_types.specs.Declarations.{declared_parts, declared_world}
use Rattle.trio_types.proofs.Specs.{declared_formed, value_domain}
use Rattle.trio_types.proofs.CellNumbers.{cell_item, size_from_item}
use Rattle.trio_types.proofs.spec.Declarations.cell_size.Goals as goal

pub get-requires : goal.get-requires
get-requires c =
    let spec = c.args.self in
    let item = cell_item (declared_world spec) c.args.cell _ c.cell_parts-parts.ensures.is in
    slice_get_within spec.items.now c.cell_parts-parts.result.item item.0 item.1

pub size_of-requires : goal.size_of-requires
size_of-requires c =
    let spec = c.args.self in
    let domain = value_domain (declared_parts spec) (declared_formed spec) c.cell_parts-parts.result.item c.get.result.now c.get.ensures in
    slice_get_within spec.domains.now c.get.result.now.value domain.0 domain.1

pub returns : goal.returns
returns c =
    let spec = c.args.self in
    ap (option_map (cell_size (declared_world spec))) c.cell_parts-parts.ensures.is
    ∙ ap Some (size_from_item (declared_world spec) (the_cell c.cell_parts-parts.result.item (take c.cell_parts-parts.result.arity c.cell_parts-parts.result.args) c.cell_parts-parts.result.instant) c.get.result.now c.get.ensures ∙ sym c.size_of.ensures)
