use Rattle.network_view.proofs.Telling.{tells_ways, tells_each_way, tells_rounds, tells_the_turns, tells_what_meets, tells_free_slots}
use Rattle.network_view.proofs.laws.what_is_told.Goals as goal

pub returns-clause-ways : goal.returns-clause-ways
returns-clause-ways c = tells_ways

pub returns-clause-each : goal.returns-clause-each
returns-clause-each c = tells_each_way

pub returns-clause-rounds : goal.returns-clause-rounds
returns-clause-rounds c = tells_rounds

pub returns-clause-turns : goal.returns-clause-turns
returns-clause-turns c = tells_the_turns

pub returns-clause-met : goal.returns-clause-met
returns-clause-met c = tells_what_meets

pub returns-clause-free : goal.returns-clause-free
returns-clause-free c = tells_free_slots
