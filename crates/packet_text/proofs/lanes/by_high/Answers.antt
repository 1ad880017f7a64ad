use Rattle.packet_text.proofs.ByteBlocks.{high_ok, looked_up_high}
use Rattle.packet_text.proofs.lanes.by_high.Goals as goal

pub swizzle : goal.swizzle
swizzle c = high_ok c.args.bytes c.fits-bytes.0 c.fits-bytes.1

pub returns : goal.returns
returns c = looked_up_high c.args.row c.args.bytes c.fits-bytes.0 c.fits-bytes.1
