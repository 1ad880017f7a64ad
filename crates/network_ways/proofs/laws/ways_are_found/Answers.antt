use Rattle.network_ways.proofs.Tracing.{is_before, finds_ways, finds_each}
use Rattle.network_ways.proofs.laws.ways_are_found.Goals as goal

pub returns-clause-before : goal.returns-clause-before
returns-clause-before c = is_before

pub returns-clause-found : goal.returns-clause-found
returns-clause-found c = finds_ways

pub returns-clause-each : goal.returns-clause-each
returns-clause-each c = finds_each
