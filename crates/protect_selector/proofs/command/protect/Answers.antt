use Rattle.port_base.specs.PortViews.{sink_view}
use Rattle.port_base.specs.Racks.{bays_view}
use Rattle.tributary_model.specs.Places.{tributary_of}
use Rattle.protect_selector.specs.Protecting.{ends_of}
use Rattle.protect_selector.proofs.command.protect.Goals as goal

pub returns-clause-ran : goal.returns-clause-ran
returns-clause-ran g c = λ some.
    c.run_turns.ensures.ran (tributary_of c.args.slots.now c.args.port) c.args.wait c.in-Ok.ensures.tributary
    (c.in-Ok.ensures.gone (ends_of (bays_view g.I.Source g.O.Sink c.args.bays.now) (sink_view g.K.Sink c.args.report.now)))
