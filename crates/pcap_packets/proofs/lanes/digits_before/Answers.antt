use Rattle.pcap_packets.proofs.LowerLanes.{none_found, lowest_found}
use Rattle.pcap_packets.proofs.lanes.digits_before.Goals as goal

pub returns-then-others-eq0 : goal.returns-then-others-eq0
returns-then-others-eq0 c = none_found c.args.values c.fits-values.0 c.if-others-eq0.true

pub returns : goal.returns
returns c = lowest_found c.args.values c.fits-values.0 c.if-others-eq0.false
