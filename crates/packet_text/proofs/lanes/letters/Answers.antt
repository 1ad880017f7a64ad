use Rattle.packet_text.proofs.DigitLanes.{letters_are}
use Rattle.packet_text.proofs.lanes.letters.Goals as goal

pub returns : goal.returns
returns c = letters_are c.args.digits c.fits-digits.0
