use Rattle.pcap_packets.proofs.ReadingBack.{written_reads_back}
use Rattle.pcap_packets.proofs.laws.written_reads_back.Goals as goal

pub returns : goal.returns
returns c = written_reads_back
