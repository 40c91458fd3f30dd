-- The usage line is the one that is written.
use Rattle.std.proofs.Common.{inr, refl}
use Rattle.trio_main.proofs.top.say_usage.Goals as goal

pub returns-in-Err : goal.returns-in-Err
returns-in-Err g c = inr (refl, rw c.as_bytes.ensures.value at c.in-Err.ensures)
