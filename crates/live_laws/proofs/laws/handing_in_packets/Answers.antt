use Rattle.live_laws.proofs.GrownText.{packets_grow}
use Rattle.live_laws.proofs.laws.handing_in_packets.Goals as goal

pub returns : goal.returns
returns c = packets_grow
