-- The goal of that name, or there is none.
use Rattle.std.proofs.Common.{◌≡◌, Some, refl, sym, inr, rules, ◌∙◌, ap}
use Rattle.trio_jobs.specs.Loading.{goal_named}
use Rattle.trio_jobs.proofs.loading.asked_for.Goals as goal

pub returns-in_default-goal_named-clause-fault : goal.returns-in_default-goal_named-clause-fault
returns-in_default-goal_named-clause-fault c =
    rw c.in-Some.is
    (inr (refl, (c.in-Some.name.now, refl, rw (c.as_slice.ensures, c.as_str.ensures) at (sym c.in_default-goal_named.ensures.is))))

pub returns-in-Ok-with_goal-clause-asked : goal.returns-in-Ok-with_goal-clause-asked
returns-in-Ok-with_goal-clause-asked c =
    let same : c.in-Some-goal_named.goal ≡ c.in-Ok.goal = let h = c.in-Ok.ensures in search rules in
    let found : goal_named c.args.spec c.in-Some.name.now ≡ Some c.in-Some-goal_named.goal =
    rw (c.as_slice.ensures, c.as_str.ensures) at (sym c.in-Some-goal_named.ensures.is) in
    rw c.in-Some.is (c.in-Ok.goal, found ∙ ap Some same, c.in-Ok-with_goal.ensures)
