-- The fault of either file or of the goal, or the problem.
use Rattle.std.proofs.Common.{arith, inl, inr, refl}
use Rattle.std.specs.Option.{option_map}
use Rattle.std.proofs.lemmas.Result.{err_from_is_err_and}
use Rattle.trio_jobs.specs.Load.{LoadFault}
use Rattle.trio_jobs.specs.Loading.{ProblemFault}
use Rattle.trio_jobs.proofs.Loaded.{spec_fault_caused, history_fault_caused, caused_as, goal_caused, loaded_earlier, posed_loads}
use Rattle.trio_jobs.proofs.loading.load.Goals as goal

pub returns-in_err-spec-clause-loads : goal.returns-in_err-spec-clause-loads
returns-in_err-spec-clause-loads g c =
    let p = err_from_is_err_and c.from_residual.result c.from_residual.ensures.1 in
    let before = g.F.Shelf.seen c.args.shelf.now in
    let now = g.F.Shelf.seen c.load_spec.new.shelf in
    let s = c.args.spec_name.now in
    let h = c.args.history_name.now in
    rw (p.1, p.2)
    (caused_as before now s (LoadFault before s h) (ProblemFault before s h (option_map (λ name. name.now) c.args.goal)) c.in_err-spec.field-0.0
    (λ n f x. inl x) (spec_fault_caused before now s h c.in_err-spec.field-0.0 c.in_err-spec.ensures.reads c.in_err-spec.ensures.loads))

pub returns-in_err-given-clause-loads : goal.returns-in_err-given-clause-loads
returns-in_err-given-clause-loads g c =
    let p = err_from_is_err_and c.from_residual-in_err-given.result c.from_residual-in_err-given.ensures.1 in
    let before = g.F.Shelf.seen c.args.shelf.now in
    let now = g.F.Shelf.seen c.load_history.new.shelf in
    let s = c.args.spec_name.now in
    let h = c.args.history_name.now in
    rw (p.1, p.2)
    (caused_as before now s (LoadFault before s h) (ProblemFault before s h (option_map (λ name. name.now) c.args.goal)) c.in_err-given.field-0.0
    (λ n f x. inl x)
    (history_fault_caused before (g.F.Shelf.seen c.load_spec.new.shelf) now s h c.in_ok-spec.spec c.in_err-given.field-0.0 c.in_ok-spec.ensures.reads
    c.in_err-given.ensures.reads c.in_ok-spec.ensures.loads c.in_err-given.ensures.loads))

pub returns-in_err-spec-2-clause-loads : goal.returns-in_err-spec-2-clause-loads
returns-in_err-spec-2-clause-loads g c =
    let p = err_from_is_err_and c.from_residual-in_err-spec-2.result c.from_residual-in_err-spec-2.ensures.1 in
    let before = g.F.Shelf.seen c.args.shelf.now in
    let middle = g.F.Shelf.seen c.load_spec.new.shelf in
    rw (p.1, p.2)
    (goal_caused before middle (g.F.Shelf.seen c.load_history.new.shelf) c.args.spec_name.now c.args.history_name.now c.in_ok-spec.spec
    c.in_ok-given.given (option_map (λ name. name.now) c.args.goal) c.in_err-spec-2.field-0.0 c.in_ok-spec.ensures.reads c.in_ok-given.ensures.reads
    (loaded_earlier before middle c.args.spec_name.now c.args.history_name.now c.in_ok-spec.spec c.in_ok-given.given c.in_ok-spec.ensures.reads
    c.in_ok-spec.ensures.loads c.in_ok-given.ensures.loads) c.in_err-spec-2.ensures.fault)

pub returns-in-Ok-clause-loads : goal.returns-in-Ok-clause-loads
returns-in-Ok-clause-loads g c =
    posed_loads (g.F.Shelf.seen c.args.shelf.now) (g.F.Shelf.seen c.load_spec.new.shelf) c.args.spec_name.now c.args.history_name.now
    c.in_ok-spec.spec c.in_ok-spec-2.spec (option_map (λ name. name.now) c.args.goal) c.in-Ok.core c.in_ok-given.given c.pose.result c.pose.ensures
    c.in_ok-spec.ensures.reads c.in_ok-spec.ensures.loads c.in_ok-given.ensures.loads c.in_ok-spec-2.ensures.asked c.in-Ok.ensures.exact

pub returns-in-Err-clause-loads : goal.returns-in-Err-clause-loads
returns-in-Err-clause-loads g c =
    let before = g.F.Shelf.seen c.args.shelf.now in
    let middle = g.F.Shelf.seen c.load_spec.new.shelf in
    goal_caused before middle (g.F.Shelf.seen c.load_history.new.shelf) c.args.spec_name.now c.args.history_name.now c.in_ok-spec.spec
    c.in_ok-given.given (option_map (λ name. name.now) c.args.goal) _ c.in_ok-spec.ensures.reads c.in_ok-given.ensures.reads
    (loaded_earlier before middle c.args.spec_name.now c.args.history_name.now c.in_ok-spec.spec c.in_ok-given.given c.in_ok-spec.ensures.reads
    c.in_ok-spec.ensures.loads c.in_ok-given.ensures.loads) (inl refl)
