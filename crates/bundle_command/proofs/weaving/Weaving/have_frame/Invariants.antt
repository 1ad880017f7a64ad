use Rattle.std.proofs.Common.{ℕ, List, length}
use Rattle.port_base.specs.Racks.{bays_view}
use Rattle.port_base.specs.Views.{BaysView}
use Rattle.bundle_command.specs.Steps.Channels.{IsReady, WeavingReady, left_to_ask}
use Rattle.bundle_command.specs.Steps.Framed.{OnlyInputs}
use Rattle.bundle_command.proofs.weaving.Weaving.have_frame.Given as goal

abbrev pub invariant-loop-index : goal.invariant-loop-index
invariant-loop-index g l = record {
  ready : IsReady (bays_view g.I.Source g.O.Sink l.bays) l.self;
  stands : (clients : List ℕ) (first : BaysView) (emitted : List ℕ) → WeavingReady clients first (bays_view g.I.Source g.O.Sink l.fn.bays) emitted l.fn.self
      → WeavingReady clients first (bays_view g.I.Source g.O.Sink l.bays) emitted l.self;
  alone : OnlyInputs (bays_view g.I.Source g.O.Sink l.fn.bays) (bays_view g.I.Source g.O.Sink l.bays);
}

abbrev pub decreases-loop-index : goal.decreases-loop-index
decreases-loop-index g l = left_to_ask l.self.maker.maker.hand (length l.self.maker.cids) l.self.maker.asked
