use Rattle.packet_text.proofs.DigitLanes.{low_ok, looked_up}
use Rattle.packet_text.proofs.lanes.by_low.Goals as goal

pub swizzle : goal.swizzle
swizzle c = low_ok c.args.digits c.fits-digits.0

pub returns : goal.returns
returns c = looked_up c.args.row c.args.digits c.fits-digits.0
