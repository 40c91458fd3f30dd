-- The answer to the goal of `cut_or_whole`.
use Rattle.std.proofs.Common.{◌≡◌, List, ℕ, Some, length, sym, ap, ◌∙◌, arith}
use Rattle.trio_types.specs.Cells.{cells_of}
use Rattle.trio_types.proofs.Lists.{found_in_range}
use Rattle.trio_core.specs.Stands.{world_of_core}
use Rattle.decompose.specs.Reads.{is_undecided, first_undecided, all_cells}
use Rattle.decompose.proofs.decision.cut_or_whole.Goals as goal

pub cut-requires-clause-cell_in : goal.cut-requires-clause-cell_in
cut-requires-clause-cell_in c =
    let w = world_of_core c.args.core.now in
    let sets = c.args.sets.now in
    let found : first_undecided w sets (all_cells w) ≡ Some c.in-Some.cell =
    sym (c.first_undecided.ensures ∙ ap (λ (s : List ℕ). first_undecided w s (all_cells w)) c.as_slice.ensures) ∙ c.in-Some.is in
    omega (arith, (found_in_range (is_undecided w sets) 0 (length (cells_of w)) c.in-Some.cell found).1, c.requires.whole)
