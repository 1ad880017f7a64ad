use Rattle.bundle_command.proofs.Lists.{Made}
use Rattle.bundle_command.proofs.weaving.new_channels.Given as goal

abbrev pub invariant-loop-client : goal.invariant-loop-client
invariant-loop-client l = Made l.clients l.channels.items l.client-index
