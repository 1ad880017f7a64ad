use Rattle.std.proofs.Common.{rules}
use Rattle.run_laws.proofs.RunsDamaged.{hands_on_a_front}
use Rattle.run_laws.proofs.damage.runs_hand_on_a_front.Goals as goal

pub returns : goal.returns
returns c = search (rules, hands_on_a_front)
