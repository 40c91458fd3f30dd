-- How a command with a fault ends, and which faults the refusals of the readers are.
use Rattle.trio_types.specs.World.{World}
use Rattle.trio_reader.specs.declared.fault.SpecFault.{SpecFault}
use Rattle.trio_reader.specs.declared.fault.SpecFault.TheVariants as spec_fault
use Rattle.history_table.specs.declared.fault.HistFault.{HistFault}
use Rattle.history_table.specs.declared.fault.HistFault.TheVariants as history_fault
use Rattle.trio_jobs.specs.declared.status.Status.{Status}
use Rattle.trio_jobs.specs.declared.status.Status.TheVariants as status
use Rattle.trio_jobs.specs.declared.fault.Fault.{Fault}
use Rattle.trio_jobs.specs.declared.fault.Fault.TheVariants as fault
use Rattle.history_table.specs.Printed.{name_of_row}

-- how a command with this fault ends
abbrev pub status_of : Fault → Status
status_of fault.Read = status.ReadFault
status_of (fault.TooLong which) = status.Refused
status_of (fault.Spec f) = status.Refused
status_of (fault.History f) = status.Refused
status_of (fault.Missing row) = status.Refused
status_of (fault.Unknown row instant) = status.Refused
status_of fault.Goal = status.Refused
status_of fault.Write = status.WriteFault
status_of fault.Memory = status.Memory

-- the refusal of a specification's text; want of memory stays no fault of the text
abbrev pub spec_refusal : SpecFault → Fault
spec_refusal spec_fault.Memory = fault.Memory
spec_refusal f = fault.Spec f

-- the refusal of a history's text; a row without a line is named
abbrev pub history_refusal : World → HistFault → Fault
history_refusal world history_fault.Memory = fault.Memory
history_refusal world (history_fault.MissingRow row) = fault.Missing (name_of_row world row)
history_refusal world f = fault.History f
