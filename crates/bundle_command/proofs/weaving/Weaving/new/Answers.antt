use Rattle.std.proofs.Common.{refl}
use Rattle.bundle_command.proofs.Given.{weaving_begins}
use Rattle.bundle_command.proofs.weaving.Weaving.new.Goals as goal

pub returns : goal.returns
returns c = weaving_begins c.args.clients.now (record { channels = c.in_ok-channels.channels; maker = c.in_ok-maker.maker; emitted = 0; end = 0 }) c.requires c.in_ok-maker.ensures c.in_ok-channels.ensures refl refl
