-- A row that is missing is one of the specification's.
use Rattle.std.proofs.Common.{Err, subst}
use Rattle.trio_types.specs.Verdict.{world_of}
use Rattle.history_table.specs.declared.fault.HistFault.{HistFault}
use Rattle.history_table.specs.History.{IsHistoryAnswer}
use Rattle.history_table.proofs.Faults.{missing_within}
use Rattle.trio_jobs.proofs.loading.load_history_file.Goals as goal

pub of_history-requires : goal.of_history-requires
of_history-requires g c =
    λ row is. missing_within (world_of c.args.spec.now) c.as_slice.result.now row
    (subst (λ (f : HistFault). IsHistoryAnswer (world_of c.args.spec.now) c.as_slice.result.now (Err f)) is c.in-Err-read_history.ensures.answer)
