-- The answer was given, or its fault is still to be said.
use Rattle.std.proofs.Common.{inr, refl}
use Rattle.trio_jobs.specs.Call.{call_of}
use Rattle.trio_jobs.specs.Check.{check_job}
use Rattle.trio_jobs.specs.Text.{text_of}
use Rattle.trio_jobs.proofs.Jobs.{given_ends}
use Rattle.trio_jobs.proofs.check.job_check.Goals as goal

pub returns-in-Ok-clause-ends : goal.returns-in-Ok-clause-ends
returns-in-Ok-clause-ends g c =
    λ bell. given_ends (check_job c.args.spec.now c.args.history.now)
    (call_of (g.F.Shelf.seen c.args.shelf.now) (g.F.Shelf.seen c.check_answer.new.shelf) bell bell) (g.K.Sink.seen c.args.out.now)
    (g.K.Sink.seen c.give.new.out) c.in-Ok.answer.status (text_of c.in-Ok.answer) c.give.result (c.in-Ok.ensures.computes bell) c.give.ensures

pub returns-in-Err-clause-ends : goal.returns-in-Err-clause-ends
returns-in-Err-clause-ends g c = λ bell. inr (c.in-Err.ensures.computes bell, refl)
