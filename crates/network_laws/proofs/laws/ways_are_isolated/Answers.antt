use Rattle.network_laws.proofs.Isolation.{isolated, isolated_up_to}
use Rattle.network_laws.proofs.laws.ways_are_isolated.Goals as goal

pub returns-clause-whole : goal.returns-clause-whole
returns-clause-whole c = isolated

pub returns-clause-turns : goal.returns-clause-turns
returns-clause-turns c = isolated_up_to
