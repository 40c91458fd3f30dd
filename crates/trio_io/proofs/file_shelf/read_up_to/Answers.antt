-- All that was read was appended, and is short enough.
use Rattle.std.proofs.Common.{arith}
use Rattle.std.proofs.lemmas.Grind.{common_steps}
use Rattle.trio_io.proofs.Fetches.{appended}
use Rattle.trio_io.proofs.file_shelf.read_up_to.Goals as goal

pub returns-in-Ok-read_to_end-clause-ok : goal.returns-in-Ok-read_to_end-clause-ok
returns-in-Ok-read_to_end-clause-ok g c = λ shelf name untold.
    appended shelf name _ _ c.in-Ok-read_to_end.count _ untold c.in-Ok-read_to_end.ensures.appends (grind (arith, common_steps)) c.if-count-max.true
