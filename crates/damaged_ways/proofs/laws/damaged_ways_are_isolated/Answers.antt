use Rattle.damaged_ways.proofs.Isolated.{isolated}
use Rattle.damaged_ways.proofs.laws.damaged_ways_are_isolated.Goals as goal

pub returns : goal.returns
returns c = isolated
