-- The answer to the goal of `of_table`.
use Rattle.std.proofs.Common.{◌≡◌, Some, slice_get, get_or, ap, ◌∙◌, sym, arith}
use Rattle.std.proofs.lemmas.Option.{slice_get-get_or}
use Rattle.branch_state.proofs.CodeReads.{index_small}
use Rattle.branch_state.proofs.roots.of_table.Goals as goal

pub single_set-requires : goal.single_set-requires
single_set-requires c =
    let table = c.args.table.now in
    let entries = c.as_slice-index-items.result.now in
    let n = c.loop-index.index-index in
    let at : slice_get table n ≡ Some (get_or entries n 0) =
    ap (λ xs. slice_get xs n) (sym c.as_slice-index-items.ensures) ∙ slice_get-get_or entries n 0 c.loop-index-test.true in
    omega (arith, c.from.ensures, index_small c.args._problem.now.spec table n (get_or entries n 0) c.requires.fits at)
