use Rattle.std.specs.Prelude.{flat_map}
use Rattle.gfp_linear.specs.ChannelArrivals.{channel_arrivals}
use Rattle.port_base.specs.Racks.{bays_view}
use Rattle.unbundle_command.proofs.Holding.{clients_none}
use Rattle.unbundle_command.proofs.Runs.{before, open_run, goes_on, whole_read, break_read, nothing_read}
use Rattle.unbundle_command.proofs.receiving.hand_on.Goals as goal

pub returns-in-Nothing-clause-read : goal.returns-in-Nothing-clause-read
returns-in-Nothing-clause-read g c = λ first arrived h. rw c.in-Nothing.is (nothing_read first (bays_view g.I.Source g.O.Sink c.args.bays.now) arrived c.args.reader.now c.args.outputs.now h)

pub returns-in-Whole-clause-read : goal.returns-in-Whole-clause-read
returns-in-Whole-clause-read g c = λ first arrived h. rw c.in-Whole.is (
    whole_read first (bays_view g.I.Source g.O.Sink c.read_frame.new.bays) arrived c.args.frame.now c.read_frame.new.reader c.read_frame.new.outputs
    (c.read_frame.ensures.read first (flat_map channel_arrivals (before arrived)) (open_run arrived) (goes_on first (bays_view g.I.Source g.O.Sink c.args.bays.now) arrived c.args.reader.now c.args.outputs.now h))
    )

pub returns-in-Break-clause-read : goal.returns-in-Break-clause-read
returns-in-Break-clause-read g c = λ first arrived h. rw c.in-Break.is (break_read first (bays_view g.I.Source g.O.Sink c.args.bays.now) arrived c.args.reader.now c.restart.new.self c.args.outputs.now c.restart.ensures.read h)

pub returns-in-Nothing-clause-alone : goal.returns-in-Nothing-clause-alone
returns-in-Nothing-clause-alone g c = clients_none _

pub returns-in-Break-clause-alone : goal.returns-in-Break-clause-alone
returns-in-Break-clause-alone g c = clients_none _
