use Rattle.std.proofs.Common.{◌≡◌, ◌<◌, ℕ, false}
use Rattle.port_base.specs.Racks.{bays_view}
use Rattle.port_base.specs.Views.{is_dead, client_in_at}
use Rattle.bundle_command.specs.Steps.Channels.{HasChannel}
use Rattle.bundle_command.specs.declared.channel.Channel.{Channel}
use Rattle.bundle_command.proofs.settling.has_dead.Given as goal

abbrev pub invariant-loop-channel : goal.invariant-loop-channel
invariant-loop-channel g l = (k : ℕ) (channel : Channel) → k < l.channel-index → HasChannel l.channels k channel
    → is_dead (client_in_at (bays_view g.I.Source g.O.Sink l.bays) channel.client).state ≡ false
