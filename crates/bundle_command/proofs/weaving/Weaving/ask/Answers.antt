use Rattle.std.proofs.Common.{refl}
use Rattle.port_base.specs.Racks.{bays_view}
use Rattle.bundle_command.proofs.Asked.{asks}
use Rattle.bundle_command.proofs.weaving.Weaving.ask.Goals as goal

pub returns-clause-stands : goal.returns-clause-stands
returns-clause-stands g c = λ clients first emitted ready.
    asks clients first (bays_view g.I.Source g.O.Sink c.args.bays.now) (bays_view g.I.Source g.O.Sink c.ask_channel-answer.new.bays) emitted c.args.self.now
    (record { channels = c.ask_channel-answer.new.channels; maker = c.args.self.now.maker; emitted = c.args.self.now.emitted; end = c.args.self.now.end }) c.tell.new.self c.args.index c.ask_channel-answer.result
    c.requires.idle c.requires.asked refl refl refl c.ask_channel-answer.ensures.asked c.tell.ensures.told ready
