use Rattle.port_base.specs.Racks.{bays_view}
use Rattle.unbundle_command.proofs.Turns.{only_twice}
use Rattle.unbundle_command.proofs.command.unbundle.Goals as goal

pub returns-clause-ran : goal.returns-clause-ran
returns-clause-ran g c = λ some.
    let first = bays_view g.I.Source g.O.Sink c.args.bays.now in
    c.settle.ensures.ran first c.args.turns c.requires.turns (c.run_turns.ensures.gone first (c.in-Ok.ensures.gone first))

pub returns-clause-alone : goal.returns-clause-alone
returns-clause-alone g c = only_twice _ _ _ c.run_turns.ensures.alone c.settle.ensures.alone
