use Rattle.packet_text.proofs.DigitLanes.{numerals_are}
use Rattle.packet_text.proofs.lanes.numerals.Goals as goal

pub returns : goal.returns
returns c = numerals_are c.args.digits c.fits-digits.0
