use Rattle.std.proofs.Common.{◌≡◌, ◌∙◌, arith, subst}
use Rattle.port_base.specs.Racks.{bays_view}
use Rattle.bundle_command.specs.Steps.Bundled.{TurnsGone}
use Rattle.bundle_command.proofs.Turning.{can_turn_on}
use Rattle.bundle_command.proofs.command.run_turns.Goals as goal

pub loop-init : goal.loop-init
loop-init g c = record { ready = c.requires.ready; source = c.requires.source; room = c.requires.room; gone = λ clients first h. h }

pub loop-preserved : goal.loop-preserved
loop-preserved g c =
    let i = c.loop.invariant in
    record {
      ready = can_turn_on (bays_view g.I.Source g.O.Sink c.loop.bays) (bays_view g.I.Source g.O.Sink c.turn.new.bays) c.loop.parts c.turn.new.self c.turn.ensures.gone i.ready;
      source = c.turn.ensures.source ∙ i.source;
      room = c.turn.ensures.room ∙ i.room;
      gone = λ clients first h. c.turn.ensures.gone clients first c.loop.counter (i.gone clients first h);
    }

pub returns : goal.returns
returns g c = record {
  gone = λ clients first h.
      let all : c.loop.counter ≡ c.args.turns = (let done = c.loop-test.false in let most = c.loop.auto.counter-end in omega arith) in
      subst (λ n. TurnsGone clients first (bays_view g.I.Source g.O.Sink c.loop.bays) n c.loop.parts) all (c.loop.invariant.gone clients first h);
}
