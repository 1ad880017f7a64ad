use Rattle.std.proofs.Common.{◌≡◌, length}
use Rattle.pcap_packets.specs.HeldBytes.{held}
use Rattle.pcap_packets.specs.Steps.Writing.{Went}
use Rattle.pcap_packets.proofs.held.Held.drain.Given as goal

abbrev pub invariant-loop-sink : goal.invariant-loop-sink
invariant-loop-sink g l = record {
  written : Went (held l.fn.self) (g.S.Sink.got l.fn.sink) (held l.self) (g.S.Sink.got l.sink);
  well : g.S.Sink.faults l.sink ≡ g.S.Sink.faults l.fn.sink;
}

abbrev pub decreases-loop-sink : goal.decreases-loop-sink
decreases-loop-sink g l = length (held l.self)
