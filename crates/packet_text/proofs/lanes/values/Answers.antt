use Rattle.packet_text.proofs.DigitLanes.{worths}
use Rattle.packet_text.proofs.lanes.values.Goals as goal

pub returns : goal.returns
returns c = worths c.args.digits c.numerals.result c.letters.result c.fits-digits.1 c.numerals.ensures c.letters.ensures
