-- The answers to the goals of `sets_of`.
use Rattle.std.proofs.Common.{rules, ◌≡◌, ◌∷◌, [], true, length, Some, slice_get, zip, ap, ◌∙◌, arith}
use Rattle.std.specs.List.{list_all}
use Rattle.std.specs.Option.{option_map}
use Rattle.std.proofs.lemmas.List.{length-append}
use Rattle.trio_types.specs.Verdict.{world_of}
use Rattle.trio_types.specs.Cells.{cells_of, cell_size}
use Rattle.trio_core.specs.Sets.{is_set}
use Rattle.trio_tests.proofs.More.{no_pairs}
use Rattle.trio_tests.proofs.OneMoreEntry.{one_more_entry}
use Rattle.trio_tests.proofs.tests.sets.sets_of.Goals as goal

pub loop-cell-init : goal.loop-cell-init
loop-cell-init g c =
    let w = world_of c.args.spec.now in (
      ap length c.new-sets.ensures,
      ap (λ s. list_all (λ p. is_set (cell_size w p.0) p.1) (zip (cells_of w) s)) c.new-sets.ensures
          ∙ no_pairs (λ p. is_set (cell_size w p.0) p.1) (cells_of w),
    )

pub loop-cell-preserved : goal.loop-cell-preserved
loop-cell-preserved g c =
    let w = world_of c.args.spec.now in
    let sets = c.loop-cell.sets in
    let set = c.in-Some.word.now in
    let size = c.cell_size.result in
    let is : is_set size set ≡ true = search rules in
    let sized : option_map (cell_size w) (slice_get (cells_of w) (length sets)) ≡ Some size =
    ap (λ n. option_map (cell_size w) (slice_get (cells_of w) n)) c.loop-cell.invariant.0 ∙ c.cell_size.ensures in (
      omega (arith, ap length c.add_set.ensures, length-append sets (set ∷ []), c.loop-cell.invariant.0),
      ap (λ s. list_all (λ p. is_set (cell_size w p.0) p.1) (zip (cells_of w) s)) c.add_set.ensures
          ∙ one_more_entry is_set w sets size set c.loop-cell.invariant.1 sized is,
    )
