use Rattle.std.proofs.Common.{◌≡◌, ◌≤◌, ◌-◌, ◌++◌, ℕ, List, length, take}
use Rattle.port_base.specs.Racks.{bays_view}
use Rattle.port_base.specs.Views.{BaysView}
use Rattle.bundle_command.specs.Steps.Framed.{AreReady, FramesStand, OnlyInputs}
use Rattle.bundle_command.proofs.framing.Framing.fill.Given as goal

abbrev pub invariant-loop-done : goal.invariant-loop-done
invariant-loop-done g l = record {
  within : l.done ≤ length l.into;
  size : length l.into ≡ length l.fn.into;
  ready : AreReady (bays_view g.I.Source g.O.Sink l.bays) l.self;
  stands : (clients : List ℕ) (first : BaysView) (due : List ℕ) → FramesStand clients first (bays_view g.I.Source g.O.Sink l.fn.bays) due l.fn.self
      → FramesStand clients first (bays_view g.I.Source g.O.Sink l.bays) (due ++ take l.done l.into) l.self;
  alone : OnlyInputs (bays_view g.I.Source g.O.Sink l.fn.bays) (bays_view g.I.Source g.O.Sink l.bays);
}

abbrev pub decreases-loop-done : goal.decreases-loop-done
decreases-loop-done g l = length l.into - l.done
