use Rattle.pcap_packets.proofs.LowerLanes.{chosen}
use Rattle.pcap_packets.proofs.lanes.among.Goals as goal

pub returns : goal.returns
returns c = λ f is. chosen c.args.bytes c.args.others c.args.first c.args.many c.args.zero f c.fits-bytes.0 is
