use Rattle.std.proofs.Common.{◌≡◌, ℕ, List, vec_len}
use Rattle.port_base.specs.Racks.{bays_view}
use Rattle.port_base.specs.Views.{BaysView}
use Rattle.bundle_command.specs.Steps.Channels.{WeavingStands}
use Rattle.bundle_command.specs.Steps.Framed.{OnlyInputs}
use Rattle.bundle_command.specs.Steps.Settled.{IsSettled}
use Rattle.bundle_command.proofs.settling.settle.Given as goal

abbrev pub invariant-loop-i : goal.invariant-loop-i
invariant-loop-i g l = record {
  many : vec_len l.weaving.channels ≡ vec_len l.fn.weaving.channels;
  settled : (clients : List ℕ) (first : BaysView) (emitted : List ℕ) → WeavingStands clients first (bays_view g.I.Source g.O.Sink l.fn.bays) emitted l.fn.weaving
      → IsSettled l.i clients first (bays_view g.I.Source g.O.Sink l.bays) emitted l.weaving;
  alone : OnlyInputs (bays_view g.I.Source g.O.Sink l.fn.bays) (bays_view g.I.Source g.O.Sink l.bays);
}
