-- The answers to the goals of `cell_of`.
use Rattle.std.proofs.Common.{◌+◌, ◌*◌, length, slice_get, ap, sym, ◌∙◌, arith}
use Rattle.trio_types.specs.Cells.{cells_of, tuples, are_indexes, the_cell}
use Rattle.trio_types.specs.Declarations.{declared_parts, declared_world}
use Rattle.trio_types.proofs.Specs.{declared_formed, some_instant}
use Rattle.trio_types.proofs.CellNumbers.{are_named, args_named, few_tuples, takes_indexes, cell_is, small_number, small_factor}
use Rattle.trio_types.proofs.spec.Declarations.cell_of.Goals as goal

pub number_of_tuple-requires-clause-named : goal.number_of_tuple-requires-clause-named
number_of_tuple-requires-clause-named c =
    let spec = c.args.self in
    ap (are_named spec.domains.now) c.as_slice-domains.ensures ∙ args_named (declared_parts spec) (declared_formed spec) c.args.item c.get.result.now c.get.ensures

pub number_of_tuple-requires-clause-few : goal.number_of_tuple-requires-clause-few
number_of_tuple-requires-clause-few c =
    let spec = c.args.self in
    omega (arith, ap (λ ds. length (tuples spec.domains.now ds)) c.as_slice-domains.ensures, few_tuples (declared_parts spec) (declared_formed spec) c.args.item c.get.result.now c.get.ensures)

pub number_of_tuple-requires-clause-args_in : goal.number_of_tuple-requires-clause-args_in
number_of_tuple-requires-clause-args_in c =
    let spec = c.args.self in
    ap (λ ds. are_indexes spec.domains.now ds c.args.args.now) c.as_slice-domains.ensures
    ∙ takes_indexes (declared_world spec) c.args.item c.get.result.now c.args.args.now c.get.ensures c.requires.args_in

pub returns : goal.returns
returns c =
    let spec = c.args.self in
    let tuple = ap (λ ds. slice_get (tuples spec.domains.now ds) c.number_of_tuple.result) (sym c.as_slice-domains.ensures) ∙ c.number_of_tuple.ensures in
    ap (λ n. slice_get (cells_of (declared_world spec)) ((n + c.number_of_tuple.result) * spec.instants + c.args.instant)) c.rows_before.ensures
    ∙ cell_is (declared_world spec) c.args.item c.get.result.now c.number_of_tuple.result c.args.args.now c.args.instant c.get.ensures tuple c.requires.instant_in

pub overflow_add-result : goal.overflow_add-result
overflow_add-result c =
    let spec = c.args.self in
    let tuple = ap (λ ds. slice_get (tuples spec.domains.now ds) c.number_of_tuple.result) (sym c.as_slice-domains.ensures) ∙ c.number_of_tuple.ensures in
    let at = ap (λ n. slice_get (cells_of (declared_world spec)) ((n + c.number_of_tuple.result) * spec.instants + c.args.instant)) c.rows_before.ensures
    ∙ cell_is (declared_world spec) c.args.item c.get.result.now c.number_of_tuple.result c.args.args.now c.args.instant c.get.ensures tuple c.requires.instant_in in
    omega (arith, small_number (declared_parts spec) (declared_formed spec) ((c.rows_before.result + c.number_of_tuple.result) * spec.instants + c.args.instant) (the_cell c.args.item c.args.args.now c.args.instant) at)

pub overflow_mul-result : goal.overflow_mul-result
overflow_mul-result c =
    let spec = c.args.self in
    let tuple = ap (λ ds. slice_get (tuples spec.domains.now ds) c.number_of_tuple.result) (sym c.as_slice-domains.ensures) ∙ c.number_of_tuple.ensures in
    let at = ap (λ n. slice_get (cells_of (declared_world spec)) ((n + c.number_of_tuple.result) * spec.instants + c.args.instant)) c.rows_before.ensures
    ∙ cell_is (declared_world spec) c.args.item c.get.result.now c.number_of_tuple.result c.args.args.now c.args.instant c.get.ensures tuple c.requires.instant_in in
    omega (arith, small_number (declared_parts spec) (declared_formed spec) ((c.rows_before.result + c.number_of_tuple.result) * spec.instants + c.args.instant) (the_cell c.args.item c.args.args.now c.args.instant) at)

pub overflow_add-row : goal.overflow_add-row
overflow_add-row c =
    let spec = c.args.self in
    let tuple = ap (λ ds. slice_get (tuples spec.domains.now ds) c.number_of_tuple.result) (sym c.as_slice-domains.ensures) ∙ c.number_of_tuple.ensures in
    let at = ap (λ n. slice_get (cells_of (declared_world spec)) ((n + c.number_of_tuple.result) * spec.instants + c.args.instant)) c.rows_before.ensures
    ∙ cell_is (declared_world spec) c.args.item c.get.result.now c.number_of_tuple.result c.args.args.now c.args.instant c.get.ensures tuple c.requires.instant_in in
    let small = small_number (declared_parts spec) (declared_formed spec) ((c.rows_before.result + c.number_of_tuple.result) * spec.instants + c.args.instant) (the_cell c.args.item c.args.args.now c.args.instant) at in
    omega (arith, small_factor (c.rows_before.result + c.number_of_tuple.result) spec.instants 1024 (some_instant (declared_parts spec) (declared_formed spec)) (omega (arith, small)))
