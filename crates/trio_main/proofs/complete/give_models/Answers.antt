-- The list of the models.
use Rattle.std.proofs.Common.{sym, ap, subst}
use Rattle.std.proofs.Math.Path.{ap₂}
use Rattle.history_table.specs.Texts.{list_text}
use Rattle.trio_types.specs.Verdict.{world_of}
use Rattle.branch_state.specs.Posed.{Posed}
use Rattle.trio_jobs.specs.Answer.{GivesOrWants}
use Rattle.trio_jobs.specs.declared.status.Status.TheVariants as status
use Rattle.trio_main.proofs.Completions.{models_fit}
use Rattle.trio_main.proofs.complete.give_models.Goals as goal

pub give_list-requires : goal.give_list-requires
give_list-requires g c =
    models_fit c.args.problem.now c.problem.inside.spec c.in-Ok.found (ap (λ (p : Posed). p.spec) (sym c.problem.view_is)) c.in-Ok.ensures

pub returns-in-Ok : goal.returns-in-Ok
returns-in-Ok g c =
    subst (λ text. GivesOrWants status.Done text (g.K.Sink.seen c.args.out.now) (g.K.Sink.seen c.give_list.new.out) c.give_list.result)
    (ap₂ (λ spec tables. list_text (world_of spec) tables) (ap (λ (p : Posed). p.spec) c.problem.view_is) c.in-Ok.ensures)
    c.give_list.ensures
