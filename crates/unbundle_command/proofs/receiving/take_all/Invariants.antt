use Rattle.std.proofs.Common.{◌≤◌, ◌++◌, ◌-◌, ℕ, List, length, take}
use Rattle.odu_client.specs.View.{aligner_state}
use Rattle.port_base.specs.Racks.{bays_view}
use Rattle.port_base.specs.Views.{BaysView}
use Rattle.unbundle_command.specs.Steps.Receiving.{HoldsAfter, OnlyClientsOut}
use Rattle.unbundle_command.proofs.receiving.take_all.Given as goal

abbrev pub invariant-loop-done : goal.invariant-loop-done
invariant-loop-done g l = record {
  within : l.done ≤ length l.bytes;
  holds : (first : BaysView) (read : List ℕ) → HoldsAfter first (bays_view g.I.Source g.O.Sink l.fn.bays) read (aligner_state l.fn.aligner) l.fn.reader l.fn.outputs
      → HoldsAfter first (bays_view g.I.Source g.O.Sink l.bays) (read ++ take l.done l.bytes) (aligner_state l.aligner) l.reader l.outputs;
  alone : OnlyClientsOut (bays_view g.I.Source g.O.Sink l.fn.bays) (bays_view g.I.Source g.O.Sink l.bays);
}

abbrev pub decreases-loop-done : goal.decreases-loop-done
decreases-loop-done g l = length l.bytes - l.done
