use Rattle.std.proofs.Common.{arith}
use Rattle.port_base.specs.Racks.{bays_view}
use Rattle.unbundle_command.proofs.Ends.{none_dead_more}
use Rattle.unbundle_command.proofs.settling.has_dead_output.Goals as goal

pub loop-cid-init : goal.loop-cid-init
loop-cid-init g c = λ d. absurd (omega (arith, d.low))

pub loop-cid-preserved : goal.loop-cid-preserved
loop-cid-preserved g c =
    none_dead_more c.loop-cid.cid c.args.outputs.now.channels (bays_view g.I.Source g.O.Sink c.args.bays.now) c.loop-cid.invariant (c.is_dead_channel.ensures.none c.if-is_dead_channel.false)

pub returns-clause-none : goal.returns-clause-none
returns-clause-none g c = λ e d. c.loop-cid.invariant (record { cid = d.cid; low = omega (arith, d.low, c.loop-cid-test.false); at = d.at })
