use Rattle.std.proofs.Common.{◌≡◌}
use Rattle.std.specs.Option.{option_map}
use Rattle.pcap_packets.specs.Captures.{lines_left}
use Rattle.pcap_packets.specs.Steps.Captures.{bytes_left}
use Rattle.pcap_packets.proofs.lines.CaptureLines.ready.Given as goal

abbrev pub invariant-loop-self : goal.invariant-loop-self
invariant-loop-self g l = record {
  same : option_map (lines_left l.self) (g.S.Source.left l.source) ≡ option_map (lines_left l.fn.self) (g.S.Source.left l.fn.source);
  well : g.S.Source.faults l.source ≡ g.S.Source.faults l.fn.source;
}

abbrev pub decreases-loop-self : goal.decreases-loop-self
decreases-loop-self g l = bytes_left l.self
