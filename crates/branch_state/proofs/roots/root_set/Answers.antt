-- The answers to the goals of `root_set`.
use Rattle.std.proofs.Common.{Some, sym, ap, ◌∙◌, arith}
use Rattle.branch_state.specs.Posed.{posed}
use Rattle.branch_state.specs.Branches.{single_set}
use Rattle.branch_state.proofs.CodeReads.{given_set, open_set}
use Rattle.branch_state.proofs.roots.root_set.Goals as goal

pub single_set-requires : goal.single_set-requires
single_set-requires c =
    let p = posed c.problem.inside.spec c.problem.inside.core c.problem.inside.given in
    omega (arith, (given_set p c.problem.invariant c.args.cell c.in-Some.index (c.get.ensures ∙ ap Some c.in-Some.is)).small, c.from.ensures)

pub full_set-requires-clause-some : goal.full_set-requires-clause-some
full_set-requires-clause-some c =
    let p = posed c.problem.inside.spec c.problem.inside.core c.problem.inside.given in
    (open_set p c.problem.invariant c.args.cell c.cell_size.result (c.get.ensures ∙ ap Some c.in-None.is) c.cell_size.ensures).fits.some

pub full_set-requires-clause-few : goal.full_set-requires-clause-few
full_set-requires-clause-few c =
    let p = posed c.problem.inside.spec c.problem.inside.core c.problem.inside.given in
    (open_set p c.problem.invariant c.args.cell c.cell_size.result (c.get.ensures ∙ ap Some c.in-None.is) c.cell_size.ensures).fits.few

pub returns-in-Some : goal.returns-in-Some
returns-in-Some c =
    let p = posed c.problem.inside.spec c.problem.inside.core c.problem.inside.given in
    rw (← c.problem.view_is)
    ((given_set p c.problem.invariant c.args.cell c.in-Some.index (c.get.ensures ∙ ap Some c.in-Some.is)).is
    ∙ ap (λ v. Some (single_set v)) (sym c.from.ensures) ∙ ap Some (sym c.single_set.ensures))

pub returns-in-None : goal.returns-in-None
returns-in-None c =
    let p = posed c.problem.inside.spec c.problem.inside.core c.problem.inside.given in
    rw (← c.problem.view_is)
    ((open_set p c.problem.invariant c.args.cell c.cell_size.result (c.get.ensures ∙ ap Some c.in-None.is) c.cell_size.ensures).is ∙ ap Some (sym c.full_set.ensures))
