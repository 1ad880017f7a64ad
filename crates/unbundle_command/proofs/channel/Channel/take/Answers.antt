use Rattle.port_base.specs.OutPlace.{out_view}
use Rattle.unbundle_command.proofs.Holding.{lines_more}
use Rattle.unbundle_command.proofs.channel.Channel.take.Goals as goal

pub returns-clause-lines : goal.returns-clause-lines
returns-clause-lines g c = λ first packets h.
    lines_more first (out_view g.K.Sink c.make_room.new.place) packets c.args.packet.now c.make_room.new.self.text c.hold.new.self.text c.hold.ensures.text (c.make_room.ensures.lines first packets h)
