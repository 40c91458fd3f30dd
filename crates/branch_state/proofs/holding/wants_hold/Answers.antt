-- The answers to the goals of `wants_hold`.
use Rattle.std.proofs.Common.{◌<◌, ◌++◌, [], ◌∷◌, Some, map, take, length, sym, ap, ◌∙◌, arith}
use Rattle.std.proofs.lemmas.List.{take_more_set, length-set}
use Rattle.branch_state.specs.Branches.{single_set}
use Rattle.branch_state.proofs.CodeReads.{index_small, few_indexes}
use Rattle.branch_state.proofs.HoldsInTable.{single_next}
use Rattle.branch_state.proofs.holding.wants_hold.Goals as goal

pub single_set-requires : goal.single_set-requires
single_set-requires c =
    omega (arith, c.from.ensures, index_small c.args.problem.now.spec c.args.table.now c.loop-cell.cell c.get.result.now c.requires.table_fits c.get.ensures)

pub bounds-singles-cell : goal.bounds-singles-cell
bounds-singles-cell c = omega (arith, few_indexes c.args.problem.now.spec c.args.table.now c.requires.table_fits, c.len-cell-end.ensures, c.loop-cell-test.true)

pub loop-cell-preserved : goal.loop-cell-preserved
loop-cell-preserved c =
    let n = c.loop-cell.cell in
    let singles = c.loop-cell.singles in
    let inside : n < length singles =
    omega (arith, few_indexes c.args.problem.now.spec c.args.table.now c.requires.table_fits, c.len-cell-end.ensures, c.loop-cell-test.true, c.loop-cell.invariant.enough) in
    record {
      enough = length-set singles n c.single_set.result ∙ c.loop-cell.invariant.enough;
      so_far = take_more_set singles n c.single_set.result inside ∙ ap (λ xs. xs ++ c.single_set.result ∷ []) c.loop-cell.invariant.so_far
          ∙ ap (λ set. map single_set (take n c.args.table.now) ++ set ∷ []) c.single_set.ensures
          ∙ sym (single_next c.args.table.now n c.from.result (c.get.ensures ∙ ap Some (sym c.from.ensures)));
    }
