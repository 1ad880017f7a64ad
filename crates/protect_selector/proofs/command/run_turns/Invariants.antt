use Rattle.std.proofs.Common.{◌≡◌, ℕ, vec_len}
use Rattle.port_base.specs.PortViews.{sink_view}
use Rattle.port_base.specs.Racks.{bays_view}
use Rattle.tributary_model.specs.Laws.{IsTributary}
use Rattle.tributary_model.specs.Places.{Tributary}
use Rattle.protect_selector.specs.Protecting.{OnlyProtected, ends_of}
use Rattle.protect_selector.specs.Steps.Protecting.{AreReady, TurnsGone}
use Rattle.protect_selector.proofs.command.run_turns.Given as goal

-- the turns so far
abbrev pub invariant-loop-t : goal.invariant-loop-t
invariant-loop-t g l = record {
  ready : AreReady l.parts;
  slots : l.parts.feed.source.slots ≡ l.fn.parts.feed.source.slots;
  working_room : vec_len l.working_room ≡ vec_len l.fn.working_room;
  protection_room : vec_len l.protection_room ≡ vec_len l.fn.protection_room;
  alone : OnlyProtected (bays_view g.I.Source g.O.Sink l.fn.bays) (bays_view g.I.Source g.O.Sink l.bays);
  well : g.K.Sink.faults l.report ≡ g.K.Sink.faults l.fn.report;
  gone : (own : Tributary) (n : ℕ) → IsTributary own
      → TurnsGone own n (ends_of (bays_view g.I.Source g.O.Sink l.fn.bays) (sink_view g.K.Sink l.fn.report)) (ends_of (bays_view g.I.Source g.O.Sink l.fn.bays) (sink_view g.K.Sink l.fn.report)) 0 l.fn.parts
      → TurnsGone own n (ends_of (bays_view g.I.Source g.O.Sink l.fn.bays) (sink_view g.K.Sink l.fn.report)) (ends_of (bays_view g.I.Source g.O.Sink l.bays) (sink_view g.K.Sink l.report)) l.t l.parts;
}
