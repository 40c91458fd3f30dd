-- The answers to the goals of `table_at`.
use Rattle.std.proofs.Common.{rules, ◌≡◌, ◌∷◌, [], true, nat_lt, length, Some, slice_get, zip, ap, ◌∙◌, arith}
use Rattle.std.specs.List.{list_all}
use Rattle.std.specs.Option.{option_map}
use Rattle.std.proofs.lemmas.List.{length-append}
use Rattle.trio_types.specs.Verdict.{world_of}
use Rattle.trio_types.specs.Cells.{cells_of, cell_size}
use Rattle.trio_tests.proofs.More.{no_pairs}
use Rattle.trio_tests.proofs.OneMoreEntry.{one_more_entry}
use Rattle.trio_tests.proofs.tests.models.table_at.Goals as goal

pub loop-cell-init : goal.loop-cell-init
loop-cell-init g c =
    let w = world_of c.args.spec.now in (
      ap length c.new-table.ensures,
      ap (λ t. list_all (λ p. nat_lt p.1 (cell_size w p.0)) (zip (cells_of w) t)) c.new-table.ensures
          ∙ no_pairs (λ p. nat_lt p.1 (cell_size w p.0)) (cells_of w),
    )

pub loop-cell-preserved : goal.loop-cell-preserved
loop-cell-preserved g c =
    let w = world_of c.args.spec.now in
    let table = c.loop-cell.table in
    let index = c.in-Some.index in
    let size = c.cell_size-size.result in
    let is : nat_lt index size ≡ true = search rules in
    let sized : option_map (cell_size w) (slice_get (cells_of w) (length table)) ≡ Some size =
    ap (λ n. option_map (cell_size w) (slice_get (cells_of w) n)) c.loop-cell.invariant.0 ∙ c.cell_size-size.ensures in (
      omega (arith, ap length c.add_index.ensures, length-append table (index ∷ []), c.loop-cell.invariant.0),
      ap (λ t. list_all (λ p. nat_lt p.1 (cell_size w p.0)) (zip (cells_of w) t)) c.add_index.ensures
          ∙ one_more_entry (λ s e. nat_lt e s) w table size index c.loop-cell.invariant.1 sized is,
    )
