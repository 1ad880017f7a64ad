use Rattle.std.proofs.Common.{length, ◌-◌, ◌≡◌, ◌≤◌, take}
use Rattle.port_base.specs.Bytes.{after}
use Rattle.port_base.proofs.drain.write_counted.Given as goal

abbrev pub invariant-loop-done : goal.invariant-loop-done
invariant-loop-done g l = record {
  within : l.done ≤ length l.bytes;
  bytes : g.K.Sink.got l.sink ≡ after (g.K.Sink.got l.fn.sink) (take l.done l.bytes);
  same : g.K.Sink.boxed l.sink ≡ g.K.Sink.boxed l.fn.sink;
  well : g.K.Sink.faults l.sink ≡ g.K.Sink.faults l.fn.sink;
  later : g.K.Sink.faults l.fn.sink ≤ g.K.Sink.faults l.sink;
  keeps : g.K.Sink.keeps l.sink ≡ g.K.Sink.keeps l.fn.sink;
}

abbrev pub decreases-loop-done : goal.decreases-loop-done
decreases-loop-done g l = length l.initial.bytes - l.done
