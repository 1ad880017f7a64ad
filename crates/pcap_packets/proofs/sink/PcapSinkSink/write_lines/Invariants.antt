use Rattle.std.proofs.Common.{◌≡◌, ◌≤◌, ◌-◌, length, take}
use Rattle.port_base.specs.Bytes.{after}
use Rattle.pcap_packets.specs.Sinks.{written_got, written_faults, written_to}
use Rattle.pcap_packets.proofs.sink.PcapSinkSink.write_lines.Given as goal

abbrev pub invariant-loop-done : goal.invariant-loop-done
invariant-loop-done g l = record {
  within : l.done ≤ length l.lines;
  bytes : written_got g.S.Sink.got l.self ≡ after (written_got g.S.Sink.got l.fn.self) (take l.done l.lines);
  well : written_faults g.S.Sink.faults l.self ≡ written_faults g.S.Sink.faults l.fn.self;
  still : g.S.Sink.faults (written_to l.self) ≡ g.S.Sink.faults (written_to l.fn.self);
}

abbrev pub decreases-loop-done : goal.decreases-loop-done
decreases-loop-done g l = length l.lines - l.done
