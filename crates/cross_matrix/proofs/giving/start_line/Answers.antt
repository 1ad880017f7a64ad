use Rattle.std.proofs.Common.{[]}
use Rattle.tributary_model.specs.Places.{tributary_of}
use Rattle.cross_matrix.proofs.giving.start_line.Goals as goal

pub returns-clause-stands : goal.returns-clause-stands
returns-clause-stands c = λ port. c.begin_turn.ensures.stands (tributary_of c.args.source.now.slots port) [] 0 (c.restart.ensures.stands port)
