-- The answers to the goals of `cell_count`.
use Rattle.std.proofs.Common.{◌≡◌, ◌*◌, length, sum_by, ap, sym, ◌∙◌, arith}
use Rattle.std.proofs.lemmas.List.{take_all}
use Rattle.trio_types.specs.Cells.{rows_of}
use Rattle.trio_types.specs.Declarations.{declared_parts, declared_world}
use Rattle.trio_types.proofs.Specs.{declared_formed}
use Rattle.trio_types.proofs.CellNumbers.{tuples_of_item, row_count, cell_count_is, few_cells}
use Rattle.trio_types.proofs.spec.Declarations.cell_count.Goals as goal

pub overflow_mul-result : goal.overflow_mul-result
overflow_mul-result c =
    let spec = c.args.self in
    let whole = ap (sum_by (tuples_of_item spec.domains.now)) (take_all c.len.result spec.items.now (omega (arith, c.len.ensures))) in
    let rows : c.rows_before.result ≡ length (rows_of (declared_world spec)) = c.rows_before.ensures ∙ whole ∙ sym (row_count (declared_world spec)) in
    let cells = ap (λ n. n * spec.instants) rows in
    omega (arith, cells, few_cells (declared_parts spec) (declared_formed spec))

pub returns : goal.returns
returns c =
    let spec = c.args.self in
    let whole = ap (sum_by (tuples_of_item spec.domains.now)) (take_all c.len.result spec.items.now (omega (arith, c.len.ensures))) in
    ap (λ n. n * spec.instants) (c.rows_before.ensures ∙ whole ∙ sym (row_count (declared_world spec))) ∙ sym (cell_count_is (declared_world spec))
