use Rattle.live_laws.proofs.LivePairs.{lives_are_isolated, lives_look_not_ahead}
use Rattle.live_laws.proofs.laws.lives_are_isolated.Goals as goal

pub returns : goal.returns
returns c = record { isolated = lives_are_isolated; ahead = lives_look_not_ahead }
