use Rattle.std.proofs.Common.{refl}
use Rattle.pcap_packets.specs.HeldBytes.{held}
use Rattle.pcap_packets.specs.Written.{packet_of}
use Rattle.pcap_packets.proofs.Standing.{made_some}
use Rattle.pcap_packets.proofs.sink.PcapSink.end_line.Goals as goal

pub write_record-requires-2 : goal.write_record-requires-2
write_record-requires-2 g c = made_some _ (held c.end_line.new.self.rest) (packet_of (held c.args.self.now.lines.line)) (c.if-not-end_line.ensures.rest refl)
