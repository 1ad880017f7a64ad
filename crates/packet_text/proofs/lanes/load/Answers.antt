use Rattle.packet_text.proofs.DigitLanes.{sixteen_loaded}
use Rattle.packet_text.proofs.lanes.load.Goals as goal

pub returns : goal.returns
returns c = sixteen_loaded c.args.bytes.now c.args.at c.requires
