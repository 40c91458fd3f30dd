-- The answer to the goal of `balanced_regions_are_all_used`.
use Rattle.emit_ledger.proofs.Unused.{used_law}
use Rattle.emit_ledger.proofs.laws.balanced_regions_are_all_used.Goals as goal

pub returns : goal.returns
returns c = used_law
