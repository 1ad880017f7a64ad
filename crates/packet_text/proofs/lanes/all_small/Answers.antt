use Rattle.packet_text.proofs.DigitLanes.{none_over, one_over}
use Rattle.packet_text.proofs.lanes.all_small.Goals as goal

pub returns-clause-all : goal.returns-clause-all
returns-clause-all c = none_over c.args.seen c.fits-seen.0

pub returns-clause-none : goal.returns-clause-none
returns-clause-none c = one_over c.args.seen c.fits-seen.0
