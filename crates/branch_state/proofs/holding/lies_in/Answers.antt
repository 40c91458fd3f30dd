-- The answers to the goals of `lies_in`.
use Rattle.std.proofs.Common.{Some, sym, ap, ◌∙◌, arith}
use Rattle.branch_state.proofs.CodeReads.{index_small}
use Rattle.branch_state.proofs.HoldsInTable.{cell_next, cell_fails, cells_end}
use Rattle.branch_state.proofs.holding.lies_in.Goals as goal

pub has-requires : goal.has-requires
has-requires c =
    omega (arith, c.from-index.ensures, index_small c.args._problem.now.spec c.args.table.now c.loop-cell.cell c.get.result.now c.requires.table_fits c.get.ensures)

pub returns-then-not-has : goal.returns-then-not-has
returns-then-not-has c =
    sym (cell_fails c.args.branch.now.doms c.args.table.now c.loop-cell.cell c.get-in-loop-cell.result.now c.from-index.result c.get-in-loop-cell.ensures
    (c.get.ensures ∙ ap Some (sym c.from-index.ensures)) (sym c.has.ensures ∙ c.if-not-has.true))

pub loop-cell-preserved : goal.loop-cell-preserved
loop-cell-preserved c =
    cell_next c.args.branch.now.doms c.args.table.now c.loop-cell.cell c.get-in-loop-cell.result.now c.from-index.result c.get-in-loop-cell.ensures
    (c.get.ensures ∙ ap Some (sym c.from-index.ensures)) (sym c.has.ensures ∙ c.if-not-has.false) c.loop-cell.invariant

pub returns : goal.returns
returns c =
    sym (cells_end c.args.branch.now.doms c.args.table.now c.loop-cell.cell (omega (arith, c.len-cell-end.ensures, c.loop-cell-test.false)) c.loop-cell.invariant)
