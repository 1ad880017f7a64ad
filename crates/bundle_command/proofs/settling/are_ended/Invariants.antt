use Rattle.std.proofs.Common.{◌≡◌, ◌<◌, ℕ}
use Rattle.bundle_command.specs.Steps.Channels.{HasChannel}
use Rattle.bundle_command.specs.declared.channel.Channel.{Channel}
use Rattle.bundle_command.specs.declared.channel.Standing.TheVariants.{Ended}
use Rattle.bundle_command.proofs.settling.are_ended.Given as goal

abbrev pub invariant-loop-channel : goal.invariant-loop-channel
invariant-loop-channel l = (k : ℕ) (channel : Channel) → k < l.channel-index → HasChannel l.channels k channel → channel.standing ≡ Ended
