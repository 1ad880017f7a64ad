use Rattle.std.proofs.Common.{rules}
use Rattle.connection_laws.proofs.HeldBack.{emits_a_front, stays_up, holds_back_less, catches_up}
use Rattle.connection_laws.proofs.SecondNode.{passes_a_second_node}
use Rattle.connection_laws.proofs.damage.behind_a_gap.Goals as goal

pub returns-clause-front : goal.returns-clause-front
returns-clause-front c = search (rules, emits_a_front)

pub returns-clause-state : goal.returns-clause-state
returns-clause-state c = search (rules, stays_up)

pub returns-clause-held : goal.returns-clause-held
returns-clause-held c = search (rules, holds_back_less)

pub returns-clause-later : goal.returns-clause-later
returns-clause-later c = search (rules, catches_up)

pub returns-clause-second : goal.returns-clause-second
returns-clause-second c = search (rules, passes_a_second_node)
