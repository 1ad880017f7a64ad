use Rattle.std.proofs.Common.{length, ◌-◌, ◌≡◌, ◌≤◌, take}
use Rattle.port_base.specs.Bytes.{after}
use Rattle.port_base.proofs.sink.Sink.write_lines.Given as goal

abbrev pub invariant-loop-done : goal.invariant-loop-done
invariant-loop-done g l = record {
  within : l.done ≤ length l.lines;
  bytes : g.Self.Sink.got l.self ≡ after (g.Self.Sink.got l.fn.self) (take l.done l.lines);
  same : g.Self.Sink.boxed l.self ≡ g.Self.Sink.boxed l.fn.self;
  well : g.Self.Sink.faults l.self ≡ g.Self.Sink.faults l.fn.self;
  later : g.Self.Sink.faults l.fn.self ≤ g.Self.Sink.faults l.self;
  keeps : g.Self.Sink.keeps l.self ≡ g.Self.Sink.keeps l.fn.self;
}

abbrev pub decreases-loop-done : goal.decreases-loop-done
decreases-loop-done g l = length l.lines - l.done
