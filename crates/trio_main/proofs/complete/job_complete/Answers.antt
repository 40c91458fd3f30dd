-- The fault of either file, or the list of models.
use Rattle.std.proofs.Common.{None, inr, refl}
use Rattle.std.proofs.lemmas.Result.{err_from_is_err_and}
use Rattle.branch_state.specs.Models.{models}
use Rattle.trio_jobs.specs.Call.{call_of}
use Rattle.trio_jobs.specs.Loading.{ProblemFault}
use Rattle.trio_jobs.proofs.Loaded.{load_cause_answers, no_goal_asked}
use Rattle.trio_main.specs.Complete.{complete_job}
use Rattle.trio_main.proofs.Completes.{load_fault_due, listed_ends}
use Rattle.trio_main.proofs.complete.job_complete.Goals as goal

pub returns-in_err-problem-clause-ends : goal.returns-in_err-problem-clause-ends
returns-in_err-problem-clause-ends g c =
    let p = err_from_is_err_and c.from_residual.result c.from_residual.ensures.1 in
    let before = g.F.Shelf.seen c.args.shelf.now in
    let now = g.F.Shelf.seen c.load.new.shelf in
    let s = c.args.spec.now in
    let h = c.args.history.now in
    λ bell. rw (p.1, p.2)
    (inr (
      load_cause_answers (complete_job s h) (call_of before now bell bell) s (ProblemFault before s h None) c.in_err-problem.field-0.0 (λ n here. here)
          (λ n f x. load_fault_due before s h n f (no_goal_asked before s h n f x)) c.in_err-problem.ensures.reads.files
          c.in_err-problem.ensures.loads,
      refl,
    ))

pub returns-clause-ends : goal.returns-clause-ends
returns-clause-ends g c =
    λ bell. listed_ends (g.F.Shelf.seen c.args.shelf.now) (g.F.Shelf.seen c.load.new.shelf) bell c.args.spec.now c.args.history.now c.in_ok-problem.problem
    c.in_ok-problem.problem.spec (models c.in_ok-problem.problem) (g.K.Sink.seen c.args.out.now) (g.K.Sink.seen c.give_models.new.out) c.give_models.result
    refl c.in_ok-problem.ensures.reads c.in_ok-problem.ensures.loads refl c.give_models.ensures
