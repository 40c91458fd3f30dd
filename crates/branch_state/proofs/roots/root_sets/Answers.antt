-- The answers to the goals of `root_sets`.
use Rattle.std.proofs.Common.{rules, ◌≡◌, ◌<◌, ◌++◌, [], ◌∷◌, length, sym, ap, ◌∙◌, arith}
use Rattle.std.proofs.lemmas.List.{take_all}
use Rattle.branch_state.specs.Posed.{posed}
use Rattle.branch_state.specs.Branches.{root_sets}
use Rattle.branch_state.proofs.CodeReads.{take_next, few_given, sets_whole}
use Rattle.branch_state.proofs.roots.root_sets.Goals as goal

pub overflow_cast-cell : goal.overflow_cast-cell
overflow_cast-cell c =
    let p = posed c.problem.inside.spec c.problem.inside.core c.problem.inside.given in
    let few : c.loop-cell.cell < 4294967296 = omega (arith, few_given p c.problem.invariant) in
    search rules

pub loop-cell-preserved : goal.loop-cell-preserved
loop-cell-preserved c =
    c.in_ok-add.ensures.ok ∙ ap (λ sets. sets ++ c.root_set.result ∷ []) c.loop-cell.invariant
    ∙ sym (take_next (root_sets c.args.problem.now) c.loop-cell.cell c.root_set.result c.root_set.ensures)

pub returns : goal.returns
returns c =
    let p = posed c.problem.inside.spec c.problem.inside.core c.problem.inside.given in
    let whole : length (root_sets c.args.problem.now) ≡ length c.problem.inside.given = rw (← c.problem.view_is) (sets_whole p c.problem.invariant) in
    c.loop-cell.invariant ∙ take_all c.loop-cell.cell (root_sets c.args.problem.now) (omega (arith, whole))
