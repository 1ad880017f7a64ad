use Rattle.live_laws.proofs.LivePairs.{rings_close}
use Rattle.live_laws.proofs.laws.ring_closes.Goals as goal

pub returns : goal.returns
returns c = rings_close
