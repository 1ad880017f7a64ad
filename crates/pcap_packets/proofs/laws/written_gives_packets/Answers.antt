use Rattle.pcap_packets.proofs.ReadingBack.{written_gives_packets}
use Rattle.pcap_packets.proofs.laws.written_gives_packets.Goals as goal

pub returns : goal.returns
returns c = written_gives_packets
