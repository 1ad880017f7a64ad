use Rattle.port_base.specs.Racks.{bays_view}
use Rattle.unbundle_command.specs.Steps.Unbundling.{DeadChannel}
use Rattle.unbundle_command.proofs.settling.has_dead_output.Given as goal

-- none of the channels so far
abbrev pub invariant-loop-cid : goal.invariant-loop-cid
invariant-loop-cid g l = DeadChannel l.cid l.outputs.channels (bays_view g.I.Source g.O.Sink l.bays) → ⊥
