use Rattle.std.proofs.Common.{◌≡◌, [], ◌∷◌, ℕ, List, vec_len}
use Rattle.otn_base.specs.declared.line_kind.LineKind.TheVariants.{Otu2}
use Rattle.port_base.specs.Racks.{bays_view}
use Rattle.port_base.specs.Views.{BaysView}
use Rattle.bundle_command.specs.Steps.Bundled.{CanTurn, TurnsGone}
use Rattle.bundle_command.proofs.command.run_turns.Given as goal

abbrev pub invariant-loop : goal.invariant-loop
invariant-loop g l = record {
  ready : CanTurn (bays_view g.I.Source g.O.Sink l.bays) l.parts;
  source : l.parts.feed.source.slots ≡ record { kind = Otu2; list = 1 ∷ [] };
  room : vec_len l.room ≡ 15233;
  gone : (clients : List ℕ) (first : BaysView) → TurnsGone clients first (bays_view g.I.Source g.O.Sink l.fn.bays) 0 l.fn.parts
      → TurnsGone clients first (bays_view g.I.Source g.O.Sink l.bays) l.counter l.parts;
}
