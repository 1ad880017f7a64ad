use Rattle.std.proofs.Common.{◌≡◌, ◌≤◌, ◌-◌, ◌++◌, ℕ, List, length, take}
use Rattle.port_base.specs.Racks.{bays_view}
use Rattle.port_base.specs.Views.{BaysView}
use Rattle.bundle_command.specs.Steps.Channels.{IsReady, WeavingStands}
use Rattle.bundle_command.specs.Steps.Framed.{OnlyInputs}
use Rattle.bundle_command.proofs.weaving.Weaving.fill.Given as goal

abbrev pub invariant-loop-done : goal.invariant-loop-done
invariant-loop-done g l = record {
  within : l.done ≤ length l.into;
  size : length l.into ≡ length l.fn.into;
  ready : IsReady (bays_view g.I.Source g.O.Sink l.bays) l.self;
  stands : (clients : List ℕ) (first : BaysView) (emitted : List ℕ) → WeavingStands clients first (bays_view g.I.Source g.O.Sink l.fn.bays) emitted l.fn.self
      → WeavingStands clients first (bays_view g.I.Source g.O.Sink l.bays) (emitted ++ take l.done l.into) l.self;
  alone : OnlyInputs (bays_view g.I.Source g.O.Sink l.fn.bays) (bays_view g.I.Source g.O.Sink l.bays);
}

abbrev pub decreases-loop-done : goal.decreases-loop-done
decreases-loop-done g l = length l.into - l.done
