-- The fault of either file, and the verdict.
use Rattle.std.proofs.Common.{◌∙◌}
use Rattle.std.proofs.lemmas.Result.{err_from_is_err_and}
use Rattle.trio_jobs.specs.Call.{call_of}
use Rattle.trio_jobs.specs.Check.{check_job}
use Rattle.trio_jobs.specs.Load.{LoadFault}
use Rattle.trio_jobs.proofs.Loaded.{load_cause_answers, spec_fault_caused, history_fault_caused}
use Rattle.trio_jobs.proofs.Checks.{load_fault_due, judged_computes}
use Rattle.trio_jobs.proofs.check.check_answer.Goals as goal

pub returns-in-Err-clause-computes : goal.returns-in-Err-clause-computes
returns-in-Err-clause-computes g c =
    let before = g.F.Shelf.seen c.args.shelf.now in
    let now = g.F.Shelf.seen c.load_spec.new.shelf in
    let s = c.args.spec_name.now in
    let h = c.args.history_name.now in
    λ bell. load_cause_answers (check_job s h) (call_of before now bell bell) s (LoadFault before s h) c.in-Err.fault (λ n here. here)
    (load_fault_due before s h) c.in-Err.ensures.reads.files
    (spec_fault_caused before now s h c.in-Err.fault c.in-Err.ensures.reads c.in-Err.ensures.loads)

pub returns-in_err-given-clause-computes : goal.returns-in_err-given-clause-computes
returns-in_err-given-clause-computes g c =
    let p = err_from_is_err_and c.from_residual.result c.from_residual.ensures.1 in
    let before = g.F.Shelf.seen c.args.shelf.now in
    let middle = g.F.Shelf.seen c.load_spec.new.shelf in
    let now = g.F.Shelf.seen c.load_history.new.shelf in
    let s = c.args.spec_name.now in
    let h = c.args.history_name.now in
    λ bell. rw (p.1, p.2)
    (load_cause_answers (check_job s h) (call_of before now bell bell) s (LoadFault before s h) c.in_err-given.field-0.0 (λ n here. here)
    (load_fault_due before s h) (λ name. c.in_err-given.ensures.reads.files name ∙ c.in-Ok.ensures.reads.files name)
    (history_fault_caused before middle now s h c.in-Ok.spec c.in_err-given.field-0.0 c.in-Ok.ensures.reads
    c.in_err-given.ensures.reads c.in-Ok.ensures.loads c.in_err-given.ensures.loads))

pub returns-clause-computes : goal.returns-clause-computes
returns-clause-computes g c =
    λ bell. judged_computes (g.F.Shelf.seen c.args.shelf.now) (g.F.Shelf.seen c.load_spec.new.shelf) (g.F.Shelf.seen c.load_history.new.shelf) bell
    c.args.spec_name.now c.args.history_name.now c.in-Ok.spec c.in_ok-given.given c.judged.result c.in-Ok.ensures.reads
    c.in_ok-given.ensures.reads c.in-Ok.ensures.loads c.in_ok-given.ensures.loads c.judged.ensures
