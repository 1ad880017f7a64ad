use Rattle.packet_text.proofs.DigitLanes.{pairs_halved}
use Rattle.packet_text.proofs.lanes.paired.Goals as goal

pub returns : goal.returns
returns c = λ f is. pairs_halved c.args.values f c.fits-values.1 is
