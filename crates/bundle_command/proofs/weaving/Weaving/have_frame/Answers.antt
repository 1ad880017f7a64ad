use Rattle.port_base.specs.Racks.{bays_view}
use Rattle.bundle_command.proofs.Given.{only_none, only_twice, ready_on}
use Rattle.bundle_command.proofs.weaving.Weaving.have_frame.Goals as goal

pub loop-index-init : goal.loop-index-init
loop-index-init g c = record {
  ready = c.requires.ready;
  stands = λ clients first emitted h. h;
  alone = only_none (bays_view g.I.Source g.O.Sink c.args.bays.now);
}

pub loop-index-preserved : goal.loop-index-preserved
loop-index-preserved g c =
    let i = c.loop-index.invariant in
    record {
      ready = ready_on (bays_view g.I.Source g.O.Sink c.loop-index.bays) (bays_view g.I.Source g.O.Sink c.ask.new.bays) c.loop-index.self c.ask.new.self c.ask.ensures.stands i.ready;
      stands = λ clients first emitted h. c.ask.ensures.stands clients first emitted (i.stands clients first emitted h);
      alone = only_twice (bays_view g.I.Source g.O.Sink c.args.bays.now) (bays_view g.I.Source g.O.Sink c.loop-index.bays) (bays_view g.I.Source g.O.Sink c.ask.new.bays) i.alone c.ask.ensures.alone;
    }
