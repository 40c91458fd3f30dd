-- The answers to the goals of `search`.
use Rattle.std.proofs.Common.{◌∷◌, [], ◌++◌, Some, ap, subst, arith}
use Rattle.std.proofs.lemmas.List.Elements.{All-pop}
use Rattle.trio_lists.specs.Multisets.{Permutes}
use Rattle.trio_lists.proofs.Permuted.{permutes_on}
use Rattle.branch_state.specs.Branches.{reps_all, Fits}
use Rattle.branch_state.specs.Weight.{bulk}
use Rattle.trio_workers.proofs.Advanced.{bulk_more}
use Rattle.trio_workers.proofs.Found.{turned_fit, turned_law, turned_bulk, all_found}
use Rattle.trio_workers.proofs.search.search.Goals as goal

pub loop-branch-init : goal.loop-branch-init
loop-branch-init g c =
    let p = c.args.problem.now in
    rw c.reversed-given.ensures (record {
      fit = turned_fit (Fits p) c.args.starts c.requires;
      law = turned_law p c.args.kept c.args.starts;
      spent = omega (arith, turned_bulk p c.args.starts);
    })

pub advance-requires : goal.advance-requires
advance-requires g c =
    (All-pop (Fits c.args.problem.now) c.loop-branch.given c.pop.new.self (Some c.in-Some.branch) c.in-Some.ensures c.loop-branch.invariant.fit).1

pub returns-in_err-advance-clause-steps : goal.returns-in_err-advance-clause-steps
returns-in_err-advance-clause-steps g c =
    let p = c.args.problem.now in
    omega (arith, c.loop-branch.invariant.spent, c.advance.ensures.tick, ap (bulk p) c.in-Some.ensures, bulk_more p c.pop.new.self c.in-Some.branch)

pub loop-branch-smaller : goal.loop-branch-smaller
loop-branch-smaller g c = omega (arith, c.in_ok-advance.ensures.advanced.fewer, ap (bulk c.args.problem.now) c.in-Some.ensures)

pub loop-branch-preserved : goal.loop-branch-preserved
loop-branch-preserved g c =
    let p = c.args.problem.now in
    let at = c.loop-branch in
    let made = c.in_ok-advance.ensures.advanced in
    let before : Permutes (at.found ++ reps_all p (c.pop.new.self ++ c.in-Some.branch ∷ [])) (c.args.kept ++ reps_all p c.args.starts) =
    subst (λ bs. Permutes (at.found ++ reps_all p bs) (c.args.kept ++ reps_all p c.args.starts)) c.in-Some.ensures at.invariant.law in
    record {
      fit = made.fit (All-pop (Fits p) at.given c.pop.new.self (Some c.in-Some.branch) c.in-Some.ensures at.invariant.fit).0;
      law = permutes_on {xs = c.advance.new.found ++ reps_all p c.advance.new.given} made.law before;
      spent = omega (arith, at.invariant.spent, c.advance.ensures.tick, made.fewer, ap (bulk p) c.in-Some.ensures);
    }

pub returns-clause-found : goal.returns-clause-found
returns-clause-found g c =
    let p = c.args.problem.now in
    all_found p (c.args.kept ++ reps_all p c.args.starts) c.loop-branch.found c.loop-branch.given c.in_default.ensures.0 c.loop-branch.invariant.law
