use Rattle.live_node.specs.Kept.{ClientsKeep}
use Rattle.live_node.proofs.kept.clients_keep.Given as goal

abbrev pub invariant-loop-n : goal.invariant-loop-n
invariant-loop-n l = ClientsKeep l.n l.sent l.bays
