use Rattle.std.proofs.Common.{◌≡◌, ◌+◌, vec_len}
use Rattle.otn_base.specs.declared.limits.TheConstants.{GROUPS}
use Rattle.port_base.specs.Racks.{bays_view}
use Rattle.port_base.specs.Views.{BaysView}
use Rattle.unbundle_command.specs.Unbundling.{OnlyUnbundled}
use Rattle.unbundle_command.specs.Steps.Unbundling.{IsReady, TurnsGone}
use Rattle.unbundle_command.proofs.command.run_turns.Given as goal

-- the turns so far
abbrev pub invariant-loop : goal.invariant-loop
invariant-loop g l = record {
  ready : IsReady l.parts;
  room : vec_len l.room ≡ GROUPS + 1;
  gone : (first : BaysView) → TurnsGone first (bays_view g.I.Source g.O.Sink l.fn.bays) 0 l.fn.parts → TurnsGone first (bays_view g.I.Source g.O.Sink l.bays) l.counter l.parts;
  alone : OnlyUnbundled (bays_view g.I.Source g.O.Sink l.fn.bays) (bays_view g.I.Source g.O.Sink l.bays);
}
