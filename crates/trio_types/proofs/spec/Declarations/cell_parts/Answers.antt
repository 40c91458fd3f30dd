-- The answers to the goals of `cell_parts`.
use Rattle.std.proofs.Common.{◌+◌, ◌*◌, ◌%◌, length, take, slice_get, ap, sym, ◌∙◌, arith}
use Rattle.std.proofs.lemmas.Nat.{div_below, mod_below, div-add-mod'}
use Rattle.std.proofs.lemmas.Option.{slice_get_within, same_Some}
use Rattle.trio_types.specs.Cells.{cells_of, rows_of, tuples}
use Rattle.trio_types.specs.Declarations.{declared_parts, declared_world}
use Rattle.trio_types.proofs.Specs.{declared_formed, some_instant, few_arguments}
use Rattle.trio_types.proofs.CellNumbers.{tuples_of_item, are_named, args_named, few_tuples, cell_count_is, cell_is}
use Rattle.trio_types.proofs.spec.Declarations.cell_parts.Goals as goal

pub nonzero_div-cell : goal.nonzero_div-cell
nonzero_div-cell c = some_instant (declared_parts c.args.self) (declared_formed c.args.self)

pub place_of_row-item-requires : goal.place_of_row-item-requires
place_of_row-item-requires c =
    let spec = c.args.self in
    div_below c.args.cell spec.instants (length (rows_of (declared_world spec))) (some_instant (declared_parts spec) (declared_formed spec)) (omega (arith, c.requires, cell_count_is (declared_world spec)))

pub get-requires : goal.get-requires
get-requires c = slice_get_within c.args.self.items.now c.place_of_row-item.result.0 c.place_of_row-item.ensures.0 c.place_of_row-item.ensures.1

pub tuple_of_number-requires-clause-named : goal.tuple_of_number-requires-clause-named
tuple_of_number-requires-clause-named c =
    let spec = c.args.self in
    ap (are_named spec.domains.now) c.as_slice-domains.ensures ∙ args_named (declared_parts spec) (declared_formed spec) c.place_of_row-item.result.0 c.get.result.now c.get.ensures

pub tuple_of_number-requires-clause-few : goal.tuple_of_number-requires-clause-few
tuple_of_number-requires-clause-few c =
    let spec = c.args.self in
    omega (arith, ap (λ ds. length (tuples spec.domains.now ds)) c.as_slice-domains.ensures, few_tuples (declared_parts spec) (declared_formed spec) c.place_of_row-item.result.0 c.get.result.now c.get.ensures)

pub tuple_of_number-requires-clause-number_in : goal.tuple_of_number-requires-clause-number_in
tuple_of_number-requires-clause-number_in c =
    let spec = c.args.self in
    let place = c.place_of_row-item.ensures in
    let item = same_Some place.0 c.get.result.now (sym place.1 ∙ c.get.ensures) in
    omega (arith, place.2, ap (tuples_of_item spec.domains.now) item, ap (λ ds. length (tuples spec.domains.now ds)) c.as_slice-domains.ensures)

pub tuple_of_number-requires-clause-short : goal.tuple_of_number-requires-clause-short
tuple_of_number-requires-clause-short c =
    let spec = c.args.self in
    omega (arith, ap length c.as_slice-domains.ensures, few_arguments (declared_parts spec) (declared_formed spec) c.place_of_row-item.result.0 c.get.result.now c.get.ensures)

pub overflow_cast-result : goal.overflow_cast-result
overflow_cast-result c =
    let spec = c.args.self in
    omega (arith, ap length c.as_slice-domains.ensures, few_arguments (declared_parts spec) (declared_formed spec) c.place_of_row-item.result.0 c.get.result.now c.get.ensures)

pub nonzero_rem-result : goal.nonzero_rem-result
nonzero_rem-result c = some_instant (declared_parts c.args.self) (declared_formed c.args.self)

pub returns-clause-is : goal.returns-clause-is
returns-clause-is c =
    let spec = c.args.self in
    let w = declared_world spec in
    let place = c.place_of_row-item.ensures in
    let n = spec.instants in
    let tuple = c.place_of_row-item.result.1 in
    let item = c.place_of_row-item.result.0 in
    let args = take (length c.as_slice-domains.result.now) c.tuple_of_number.result in
    let at = ap (λ ds. slice_get (tuples spec.domains.now ds) tuple) (sym c.as_slice-domains.ensures) ∙ c.tuple_of_number.ensures.is in
    ap (slice_get (cells_of w)) (sym (div-add-mod' c.args.cell n) ∙ ap (λ r. r * n + c.args.cell % n) place.3)
    ∙ cell_is w item c.get.result.now tuple args (c.args.cell % n) c.get.ensures at (mod_below c.args.cell n (some_instant (declared_parts spec) (declared_formed spec)))

pub returns-clause-few : goal.returns-clause-few
returns-clause-few c =
    let spec = c.args.self in
    omega (arith, ap length c.as_slice-domains.ensures, few_arguments (declared_parts spec) (declared_formed spec) c.place_of_row-item.result.0 c.get.result.now c.get.ensures)
