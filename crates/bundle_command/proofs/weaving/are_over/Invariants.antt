use Rattle.std.proofs.Common.{◌≡◌, ◌<◌, ℕ, true}
use Rattle.bundle_command.specs.Steps.Channels.{HasChannel, is_over}
use Rattle.bundle_command.specs.declared.channel.Channel.{Channel}
use Rattle.bundle_command.proofs.weaving.are_over.Given as goal

abbrev pub invariant-loop-channel : goal.invariant-loop-channel
invariant-loop-channel l = (k : ℕ) (channel : Channel) → k < l.channel-index → HasChannel l.channels k channel → is_over channel.standing ≡ true
