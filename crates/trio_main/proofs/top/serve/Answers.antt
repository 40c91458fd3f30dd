-- The job's answer, or its fault, said.
use Rattle.std.proofs.Common.{Some, inl, refl}
use Rattle.trio_jobs.specs.Call.{call_of}
use Rattle.trio_jobs.proofs.Jobs.{ended_said}
use Rattle.trio_main.specs.Due.{job_of}
use Rattle.trio_main.proofs.Tellings.{no_write}
use Rattle.trio_main.proofs.top.serve.Goals as goal

pub returns-in-Ok-clause-answer : goal.returns-in-Ok-clause-answer
returns-in-Ok-clause-answer g c = λ bell. let ends = c.in-Ok.ensures.ends bell in (c.in-Ok.status, ends.0, ends.1, inl (refl, ends.2))

pub returns-in-Err-clause-answer : goal.returns-in-Err-clause-answer
returns-in-Err-clause-answer g c = λ bell.
    let call = call_of (g.F.Shelf.seen c.args.shelf.now) (g.F.Shelf.seen c.job.new.shelf) bell bell in
    ended_said (job_of (Some c.args.command.now)) call (g.K.Sink.seen c.args.out.now)
    (g.K.Sink.seen c.job.new.out) (g.K.Sink.seen c.say.new.out) c.in-Err.fault c.say.result
    (no_write (Some c.args.command.now) call) (c.in-Err.ensures.ends bell) c.say.ensures
