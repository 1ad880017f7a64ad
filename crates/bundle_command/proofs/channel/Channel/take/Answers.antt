use Rattle.port_base.specs.InPlace.{in_view}
use Rattle.bundle_command.proofs.Channels.{taken_one}
use Rattle.bundle_command.proofs.channel.Channel.take.Goals as goal

pub returns-clause-answered : goal.returns-clause-answered
returns-clause-answered g c = λ first read offered h.
    taken_one first (in_view g.I.Source c.args.place.now) (in_view g.I.Source c.take-line.new.place) read offered c.args.self.now
    (record { client = c.args.self.now.client; lines = c.take-line.new.self; standing = c.standing_of-self.result; packets = c.saturating_add-self.result }) c.take-line.result c.packet.result.now c.requires.open
    c.take-line.ensures.stands c.take-line.ensures.answer c.packet.ensures c.standing_of-self.ensures (rw c.count_of.ensures at c.saturating_add-self.ensures) h
