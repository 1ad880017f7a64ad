use Rattle.network_run.specs.Going.{KeepsGoing}
use Rattle.network_run.proofs.Over.{turns_left}
use Rattle.network_carry.proofs.turns.do_all_turns.Given as goal

-- the network still stands
abbrev pub invariant-loop-fillings : goal.invariant-loop-fillings
invariant-loop-fillings g l = record {
  keeps : KeepsGoing g.P.Source g.K.Sink l.fn.sites.items l.fn.fillings.items l.sites.items l.fillings.items;
}

abbrev pub decreases-loop-fillings : goal.decreases-loop-fillings
decreases-loop-fillings g l = turns_left l.sites.items
