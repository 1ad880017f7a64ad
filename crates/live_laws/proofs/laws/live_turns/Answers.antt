use Rattle.live_laws.proofs.LiveTurns.{live_turns}
use Rattle.live_laws.proofs.laws.live_turns.Goals as goal

pub returns : goal.returns
returns c = live_turns
