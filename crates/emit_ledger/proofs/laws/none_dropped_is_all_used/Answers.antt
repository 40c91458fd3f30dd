-- The answer to the goal of `none_dropped_is_all_used`.
use Rattle.emit_ledger.proofs.Unused.{none_dropped_law}
use Rattle.emit_ledger.proofs.laws.none_dropped_is_all_used.Goals as goal

pub returns : goal.returns
returns c = none_dropped_law
