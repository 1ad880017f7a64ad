use Rattle.std.proofs.Common.{arith, rules}
use Rattle.turn_pieces.proofs.UsedPorts.{wants_by_name}
use Rattle.turn_pieces.proofs.pieces.Pieces.of_plan.Goals as goal

pub returns-clause-wants : goal.returns-clause-wants
returns-clause-wants c = λ name. wants_by_name c.args.plan.now c.in_ok-wants.wants.items name c.requires.accepted (search (arith, rules)) c.in_ok-wants.ensures.each
