-- How the program ends.
use Rattle.std.specs.Prelude.{ℕ}
use Rattle.trio_jobs.specs.declared.status.Status.{Status}
use Rattle.trio_jobs.specs.declared.status.Status.TheVariants as status

-- the number with which the program ends
abbrev pub status_number : Status → ℕ
status_number status.Done = 0
status_number status.False = 1
status_number status.Usage = 2
status_number status.Stopped = 3
status_number status.Refused = 4
status_number status.ReadFault = 5
status_number status.WriteFault = 6
status_number status.Memory = 7
status_number status.SaveFault = 8
