use Rattle.std.proofs.Common.{◌+◌}
use Rattle.packet_text.proofs.DigitLanes.{pairs_joined}
use Rattle.packet_text.proofs.lanes.joined.Goals as goal

pub returns : goal.returns
returns c = λ f first second small. rw (c.paired.ensures f first, c.paired-2.ensures (λ i. f (16 + i)) second) (pairs_joined f small)
