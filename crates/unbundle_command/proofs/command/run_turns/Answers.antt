use Rattle.std.proofs.Common.{◌∙◌, sym, subst, add-one}
use Rattle.port_base.specs.Racks.{bays_view}
use Rattle.unbundle_command.specs.Steps.Unbundling.{TurnsGone}
use Rattle.unbundle_command.proofs.Turns.{one_more, only_twice}
use Rattle.unbundle_command.proofs.command.run_turns.Goals as goal

pub loop-preserved : goal.loop-preserved
loop-preserved g c = record {
  ready = c.turn.ensures.ready;
  room = c.turn.ensures.room_stays ∙ c.loop.invariant.room;
  gone = λ first start.
      subst (λ t. TurnsGone first (bays_view g.I.Source g.O.Sink c.turn.new.bays) t c.turn.new.self) (sym (add-one c.loop.counter))
      (one_more first (bays_view g.I.Source g.O.Sink c.loop.bays) (bays_view g.I.Source g.O.Sink c.turn.new.bays) c.loop.counter c.loop.parts c.turn.new.self
      (λ read stood. c.turn.ensures.gone first read c.loop.counter stood) (c.loop.invariant.gone first start));
  alone = only_twice _ _ _ c.loop.invariant.alone c.turn.ensures.alone;
}
