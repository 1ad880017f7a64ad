use Rattle.pcap_packets.proofs.LowerLanes.{by_letters, none_map, worths_are}
use Rattle.pcap_packets.proofs.lanes.worths.Goals as goal

pub returns : goal.returns
returns c = worths_are c.args.bytes c.among.result c.fits-bytes.1 (c.among.ensures by_letters (c.among-letters.ensures (λ _. 255) (none_map c.args.bytes c.fits-bytes.0)))
