use Rattle.protected_ways.proofs.Protected.{isolated}
use Rattle.protected_ways.proofs.laws.protected_ways_are_isolated.Goals as goal

pub returns : goal.returns
returns c = isolated
