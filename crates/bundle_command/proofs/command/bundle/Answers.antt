use Rattle.port_base.specs.Racks.{bays_view}
use Rattle.bundle_command.proofs.command.bundle.Goals as goal

pub run_turns-requires-clause-ready : goal.run_turns-requires-clause-ready
run_turns-requires-clause-ready g c =
    let bays = bays_view g.I.Source g.O.Sink c.args.bays.now in
    record { clients = c.args.clients.now; first = bays; t = 0; ready = c.in-Ok.ensures.gone bays }

pub finish-requires-clause-ready : goal.finish-requires-clause-ready
finish-requires-clause-ready g c =
    let bays = bays_view g.I.Source g.O.Sink c.args.bays.now in
    record { clients = c.args.clients.now; first = bays; t = c.args.turns; ready = c.run_turns.ensures.gone c.args.clients.now bays (c.in-Ok.ensures.gone bays) }

pub returns-clause-ran : goal.returns-clause-ran
returns-clause-ran g c = λ some.
    let bays = bays_view g.I.Source g.O.Sink c.args.bays.now in
    (c.finish.ensures.ran c.args.clients.now bays (c.run_turns.ensures.gone c.args.clients.now bays (c.in-Ok.ensures.gone bays))).0

pub returns-clause-alone : goal.returns-clause-alone
returns-clause-alone g c =
    let bays = bays_view g.I.Source g.O.Sink c.args.bays.now in
    (c.finish.ensures.ran c.args.clients.now bays (c.run_turns.ensures.gone c.args.clients.now bays (c.in-Ok.ensures.gone bays))).1
