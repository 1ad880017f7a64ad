use Rattle.std.proofs.Common.{length}
use Rattle.network_carry.proofs.Opened.{OpenedBelow}
use Rattle.otn_network.proofs.sites.open_sites.Given as goal

-- the nodes so far are before their first turn
abbrev pub invariant-loop-bays : goal.invariant-loop-bays
invariant-loop-bays g l = record {
  opened : OpenedBelow g.P.Source g.K.Sink l.whole l.joined.plans.items (length l.yielded) l.sites.items;
}
