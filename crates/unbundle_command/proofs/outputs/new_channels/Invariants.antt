use Rattle.std.proofs.Common.{◌≡◌, replicate}
use Rattle.unbundle_command.specs.Steps.Receiving.{no_channel}
use Rattle.unbundle_command.proofs.outputs.new_channels.Given as goal

abbrev pub invariant-loop : goal.invariant-loop
invariant-loop l = l.channels.items ≡ replicate l.counter no_channel
