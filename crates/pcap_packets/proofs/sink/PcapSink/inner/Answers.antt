use Rattle.pcap_packets.specs.HeldBytes.{held}
use Rattle.pcap_packets.proofs.ReadingBack.{sink_reads, left_none}
use Rattle.pcap_packets.proofs.Standing.{record_fits}
use Rattle.pcap_packets.proofs.sink.PcapSink.inner.Goals as goal

pub returns-clause-whole : goal.returns-clause-whole
returns-clause-whole g c = λ bytes told none. left_none c.args.self.now.lines.begun (held c.args.self.now.lines.line) (held c.args.self.now.lines.rest) bytes (c.args.self.now.stands bytes told) none

pub returns-clause-reads : goal.returns-clause-reads
returns-clause-reads g c = λ bytes told. sink_reads c.args.self.now.lines.begun (held c.args.self.now.lines.line) (held c.args.self.now.lines.rest) bytes (c.args.self.now.stands bytes told) (record_fits c.args.self.now.lines)
