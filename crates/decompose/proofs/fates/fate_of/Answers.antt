-- The answers to the goals of `fate_of`.
use Rattle.std.proofs.Common.{sym, ◌∙◌}
use Rattle.decompose.proofs.Wanted.{truth_asked, fate_true, fate_false, fate_unknown}
use Rattle.decompose.proofs.fates.fate_of.Goals as goal

pub returns-in-True : goal.returns-in-True
returns-in-True c =
    let p = c.args.problem.now in
    let sets = c.args.sets.now in
    let want = c.args.want.now in
    let truth = truth_asked p sets want c.core.result.now c.as_slice-values.result.now c.truth3_in.result c.core.ensures.is c.as_slice-values.ensures c.truth3_in.ensures in
    c.known.ensures ∙ fate_true p sets want (sym truth ∙ c.in-True.is)

pub returns-in-False : goal.returns-in-False
returns-in-False c =
    let p = c.args.problem.now in
    let sets = c.args.sets.now in
    let want = c.args.want.now in
    let truth = truth_asked p sets want c.core.result.now c.as_slice-values.result.now c.truth3_in.result c.core.ensures.is c.as_slice-values.ensures c.truth3_in.ensures in
    c.known-in-False.ensures ∙ fate_false p sets want (sym truth ∙ c.in-False.is)

pub returns-in_ok-row-in-Unknown : goal.returns-in_ok-row-in-Unknown
returns-in_ok-row-in-Unknown c =
    let p = c.args.problem.now in
    let sets = c.args.sets.now in
    let want = c.args.want.now in
    let truth = truth_asked p sets want c.core.result.now c.as_slice-values.result.now c.truth3_in.result c.core.ensures.is c.as_slice-values.ensures c.truth3_in.ensures in
    c.in_ok-row-in-Unknown.ensures ∙ fate_unknown p sets want (sym truth ∙ c.in-Unknown.is)
