-- What a sink in memory holds and counts, and what it answers.
use Rattle.std.specs.Prelude.{ℕ, ◌-◌, ◌==◌, min, Bool, true, false, List, [], length, Result, Ok, Err, if◌then◌else◌, ◌||◌}
use Rattle.std.specs.Bool.{nat_le}
use Rattle.std.specs.List.{list_any}
use Rattle.trio_io.specs.Outside.{SinkView, raised}
use Rattle.trio_io.specs.declared.memory_sink.MemSink.{MemSink}
use Rattle.trio_io.specs.declared.sink.SinkFault.{SinkFault}
use Rattle.trio_io.specs.declared.sink.SinkFault.TheVariants as fault

abbrev pub mem_written : MemSink → List ℕ
mem_written sink = sink.bytes.items

abbrev pub mem_faults : MemSink → ℕ
mem_faults sink = sink.faults

-- It tells what was written.
abbrev pub mem_sink_seen : MemSink → SinkView
mem_sink_seen sink = record { tells = true; written = mem_written sink; faults = mem_faults sink }

-- Whether the next write of a piece that is not empty is one of those that fail; they are counted from 1.
abbrev pub sink_fails : MemSink → Bool
sink_fails sink = list_any (λ number. number == raised sink.writes) sink.failing

-- How many bytes a write of so many takes, or that it fails.
abbrev pub write_answer : MemSink → ℕ → Result ℕ SinkFault
write_answer sink asked =
    if asked == 0 then Ok 0
    else (if sink_fails sink || nat_le sink.room (length (mem_written sink)) then Err fault.Failed
    else Ok (min (min asked sink.most) (sink.room - length (mem_written sink))))

-- What a sink is seen as that never fails, and tells nothing.
abbrev pub unseen : SinkView
unseen = record { tells = false; written = []; faults = 0 }
