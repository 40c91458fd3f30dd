-- The answers to the goals of `want_holds`.
use Rattle.std.proofs.Common.{sym, ◌∙◌}
use Rattle.trio_core.specs.declared.nodes.Three.TheVariants as three
use Rattle.branch_state.proofs.HoldsInTable.{singles_fit_core, want_asked, found_is, never_unknown, holds_where_true, holds_where_false}
use Rattle.branch_state.proofs.holding.want_holds.Goals as goal

pub truth3_in-requires-clause-sets_fit : goal.truth3_in-requires-clause-sets_fit
truth3_in-requires-clause-sets_fit c =
    singles_fit_core c.args.problem.now c.core-core.ensures.posed c.core-core.result.now c.core-core.ensures.is c.args._table.now c.args.singles.now c.requires.table_fits c.requires.are_single

pub truth3_in-requires-clause-asked : goal.truth3_in-requires-clause-asked
truth3_in-requires-clause-asked c =
    want_asked c.args.problem.now c.core-core.result.now c.core-core.ensures.is c.args.want.now c.requires.want_fits c.as_slice-values.result.now c.as_slice-values.ensures

pub unreachable-requires : goal.unreachable-requires
unreachable-requires c =
    never_unknown c.args.problem.now c.args._table.now c.args.want.now
    (found_is c.args.problem.now c.core-core.ensures.posed c.core-core.result.now c.core-core.ensures.is c.args._table.now c.args.singles.now c.requires.table_fits c.requires.are_single
    c.args.want.now c.as_slice-values.result.now c.as_slice-values.ensures three.Unknown (sym c.in-Unknown.is ∙ c.truth3_in.ensures))

pub returns-in-True : goal.returns-in-True
returns-in-True c =
    holds_where_true c.args.problem.now c.args._table.now c.args.want.now
    (found_is c.args.problem.now c.core-core.ensures.posed c.core-core.result.now c.core-core.ensures.is c.args._table.now c.args.singles.now c.requires.table_fits c.requires.are_single
    c.args.want.now c.as_slice-values.result.now c.as_slice-values.ensures three.True (sym c.in-True.is ∙ c.truth3_in.ensures))

pub returns-in-False : goal.returns-in-False
returns-in-False c =
    holds_where_false c.args.problem.now c.args._table.now c.args.want.now
    (found_is c.args.problem.now c.core-core.ensures.posed c.core-core.result.now c.core-core.ensures.is c.args._table.now c.args.singles.now c.requires.table_fits c.requires.are_single
    c.args.want.now c.as_slice-values.result.now c.as_slice-values.ensures three.False (sym c.in-False.is ∙ c.truth3_in.ensures))
