use Rattle.std.proofs.Common.{◌<◌, ◌⊎◌, inl, inr, length, rules, Some, ap, sym}
use Rattle.port_base.specs.PortViews.{sink_view}
use Rattle.otn_c.proofs.Filling.{view}
use Rattle.otn_c.proofs.Handing.{handed_wanting, handed_whole}
use Rattle.otn_c.specs.contracts.growing_sink.GrowingSinkSink.TheImpl as sink
use Rattle.otn_c.proofs.call.hand_out.Goals.{then-outputs-total-via-then-outputs-total}
use Rattle.otn_c.proofs.call.hand_out.Goals.{then-outputs-total-via-else-outputs-total+then-report-bytes}
use Rattle.otn_c.proofs.call.hand_out.Goals as goal

pub returns : goal.returns
returns c =
    handed_whole c.args.status (view c.args.bays.now) (sink_view sink.ghosts c.args.got.now) c.told_of.result c.put_outputs.new.block c.put_outputs.new.ends c.told_of.ensures.tells
    c.in-Some.total c.told_of.ensures.outputs c.in-Some.ensures.out c.bytes-bytes.result.now (ap Some (sym c.bytes-bytes.ensures)) (search rules)
    c.put.new.block (search rules) (search rules) (search rules)

pub returns-then-outputs-total : goal.returns-then-outputs-total
returns-then-outputs-total c =
    handed_wanting c.args.status (view c.args.bays.now) (sink_view sink.ghosts c.args.got.now) c.told_of.result
    c.put_outputs.new.block c.put_outputs.new.ends c.told_of.ensures.tells c.in-Some.total c.told_of.ensures.outputs
    c.in-Some.ensures.out c.bytes-bytes.result.now (ap Some (sym c.bytes-bytes.ensures)) (search rules) c.args.report.now
    (elim c.then-outputs-total.branch as (λ _. (length c.put_outputs.new.block < c.told_of.result.outputs) ⊎ (length c.args.report.now < c.told_of.result.report)) [
      | then-outputs-total-via-then-outputs-total w ↦ inl (search rules)
      | then-outputs-total-via-else-outputs-total+then-report-bytes w ↦ inr (search rules)
    ])
