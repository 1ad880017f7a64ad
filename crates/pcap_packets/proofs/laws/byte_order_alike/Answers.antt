use Rattle.pcap_packets.proofs.Turning.{byte_order_alike}
use Rattle.pcap_packets.proofs.laws.byte_order_alike.Goals as goal

pub returns : goal.returns
returns c = byte_order_alike
