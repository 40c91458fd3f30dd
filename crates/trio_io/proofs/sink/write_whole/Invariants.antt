-- A front of the bytes went out, what is left is the rest, and no fault was counted.
use Rattle.std.proofs.Common.{◌≡◌, length}
use Rattle.trio_io.specs.Outside.{StaysSink, WritesFront}
use Rattle.trio_io.proofs.sink.write_whole.Given as goal

abbrev pub invariant-loop-rest : goal.invariant-loop-rest
invariant-loop-rest g l = record {
  stays : StaysSink (g.K.Sink.seen l.fn.sink) (g.K.Sink.seen l.sink);
  calm : (g.K.Sink.seen l.sink).faults ≡ (g.K.Sink.seen l.fn.sink).faults;
  front : (w : WritesFront (g.K.Sink.seen l.fn.sink) (g.K.Sink.seen l.sink) l.fn.bytes) × (w.rest ≡ l.rest);
}

abbrev pub decreases-loop-rest : goal.decreases-loop-rest
decreases-loop-rest g l = length l.rest
