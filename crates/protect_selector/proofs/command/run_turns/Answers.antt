use Rattle.std.proofs.Common.{◌≡◌, ◌∙◌, subst, arith, rules}
use Rattle.port_base.specs.PortViews.{sink_view}
use Rattle.port_base.specs.Racks.{bays_view}
use Rattle.port_base.specs.declared.drain.Written.TheVariants as written
use Rattle.protect_selector.specs.Protecting.{ends_of}
use Rattle.protect_selector.specs.Steps.Protecting.{TurnGone, TurnsGone}
use Rattle.protect_selector.proofs.ProtectEnds.{all_done, one_more, one_lost, only_twice}
use Rattle.protect_selector.proofs.command.run_turns.Goals as goal

pub returns-then-eq-clause-ran : goal.returns-then-eq-clause-ran
returns-then-eq-clause-ran g c = λ own n trib start.
    let first = ends_of (bays_view g.I.Source g.O.Sink c.args.bays.now) (sink_view g.K.Sink c.args.report.now) in
    let was = ends_of (bays_view g.I.Source g.O.Sink c.loop-t.bays) (sink_view g.K.Sink c.loop-t.report) in
    let is = ends_of (bays_view g.I.Source g.O.Sink c.turn.new.bays) (sink_view g.K.Sink c.turn.new.report) in
    let lost : c.turn.result ≡ written.Lost = search rules in
    one_lost own c.args.turns n c.loop-t.t first was is c.loop-t.parts c.turn.new.self c.turn.ensures.ready c.loop-t-test.true
    (λ w p stood. subst (λ r. TurnGone r own n first is w p c.loop-t.t c.turn.new.self) lost (c.turn.ensures.gone own n first w p trib stood)) (c.loop-t.invariant.gone own n trib start)

pub loop-t-preserved : goal.loop-t-preserved
loop-t-preserved g c =
    let whole : c.turn.result ≡ written.Whole = search rules in
    let before = c.loop-t.invariant in
    record {
      ready = c.turn.ensures.ready;
      slots = c.turn.ensures.slots ∙ before.slots;
      working_room = c.turn.ensures.working_stays ∙ before.working_room;
      protection_room = c.turn.ensures.protection_stays ∙ before.protection_room;
      alone = only_twice _ _ _ before.alone c.turn.ensures.alone;
      well = c.turn.ensures.well (λ e. cc (whole, e)) ∙ before.well;
      gone = λ own n trib start.
          let first = ends_of (bays_view g.I.Source g.O.Sink c.args.bays.now) (sink_view g.K.Sink c.args.report.now) in
          let was = ends_of (bays_view g.I.Source g.O.Sink c.loop-t.bays) (sink_view g.K.Sink c.loop-t.report) in
          let is = ends_of (bays_view g.I.Source g.O.Sink c.turn.new.bays) (sink_view g.K.Sink c.turn.new.report) in
          one_more own n c.loop-t.t first was is c.loop-t.parts c.turn.new.self
          (λ w p stood. subst (λ r. TurnGone r own n first is w p c.loop-t.t c.turn.new.self) whole (c.turn.ensures.gone own n first w p trib stood)) (before.gone own n trib start);
    }

pub returns-clause-ran : goal.returns-clause-ran
returns-clause-ran g c = λ own n trib start.
    let first = ends_of (bays_view g.I.Source g.O.Sink c.args.bays.now) (sink_view g.K.Sink c.args.report.now) in
    let mid = ends_of (bays_view g.I.Source g.O.Sink c.loop-t.bays) (sink_view g.K.Sink c.loop-t.report) in
    let last = ends_of (bays_view g.I.Source g.O.Sink c.settle.new.bays) (sink_view g.K.Sink c.loop-t.report) in
    let all : c.loop-t.t ≡ c.args.turns = (let done = c.loop-t-test.false in let most = c.loop-t.auto.t-end in omega arith) in
    all_done own c.args.turns n first mid last c.loop-t.parts c.settle.result c.loop-t.invariant.ready
    (subst (λ t. TurnsGone own n first mid t c.loop-t.parts) all (c.loop-t.invariant.gone own n trib start)) (c.settle.ensures.settled (sink_view g.K.Sink c.loop-t.report))
