-- A row that is missing is one of the specification's.
use Rattle.std.proofs.Common.{Err, subst}
use Rattle.trio_types.specs.Verdict.{world_of}
use Rattle.history_table.specs.declared.fault.HistFault.{HistFault}
use Rattle.history_table.specs.History.{IsHistoryAnswer}
use Rattle.history_table.proofs.Faults.{missing_within}
use Rattle.explain_answers.proofs.explain.load_history.Goals as goal

pub history_refused-requires : goal.history_refused-requires
history_refused-requires g c =
    λ row is. missing_within (world_of c.args.spec.now) c.as_slice.result.now row
    (subst (λ (f : HistFault). IsHistoryAnswer (world_of c.args.spec.now) c.as_slice.result.now (Err f)) is c.in-Err-read_history.ensures.answer)
