use Rattle.std.proofs.Common.{◌≤◌, ◌++◌, ◌-◌, ℕ, List, length, take}
use Rattle.port_base.specs.Racks.{bays_view}
use Rattle.port_base.specs.Views.{BaysView}
use Rattle.gfp_linear.specs.ChannelArrivals.{ChannelArrival}
use Rattle.unbundle_command.specs.Steps.Receiving.{RunRead, OnlyClientsOut}
use Rattle.unbundle_command.proofs.receiving.read_bytes.Given as goal

abbrev pub invariant-loop-done : goal.invariant-loop-done
invariant-loop-done g l = record {
  within : l.done ≤ length l.bytes;
  read : (first : BaysView) (earlier : List ChannelArrival) (read : List ℕ) → RunRead first (bays_view g.I.Source g.O.Sink l.fn.bays) earlier read l.fn.reader l.fn.outputs
      → RunRead first (bays_view g.I.Source g.O.Sink l.bays) earlier (read ++ take l.done l.bytes) l.reader l.outputs;
  alone : OnlyClientsOut (bays_view g.I.Source g.O.Sink l.fn.bays) (bays_view g.I.Source g.O.Sink l.bays);
}

abbrev pub decreases-loop-done : goal.decreases-loop-done
decreases-loop-done g l = length l.bytes - l.done
