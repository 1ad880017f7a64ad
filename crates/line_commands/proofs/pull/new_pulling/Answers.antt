use Rattle.tributary_model.specs.Places.{tributary_of}
use Rattle.line_commands.proofs.PullLoop.{own_first, new_stands}
use Rattle.line_commands.proofs.pull.new_pulling.Goals as goal

pub returns-clause-own : goal.returns-clause-own
returns-clause-own c = own_first (tributary_of c.args.slots.now c.args.port) (record { tap = c.in_ok-tap.tap; room = c.in_ok-room.room }) c.in_ok-tap.ensures.stands

pub returns-clause-new : goal.returns-clause-new
returns-clause-new c = new_stands (tributary_of c.args.slots.now c.args.port) (record { tap = c.in_ok-tap.tap; room = c.in_ok-room.room }) c.in_ok-tap.ensures.stands
