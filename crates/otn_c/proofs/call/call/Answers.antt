use Rattle.std.proofs.Common.{rules}
use Rattle.port_base.specs.PortViews.{sink_view}
use Rattle.line_tool.specs.Words.{texts}
use Rattle.otn_c.proofs.Answering.{sink_is}
use Rattle.otn_c.proofs.Calm.{calm_inputs}
use Rattle.otn_c.proofs.Filling.{view}
use Rattle.otn_c.proofs.Handing.{is_called}
use Rattle.otn_c.specs.Growing.{growing_got, growing_faults}
use Rattle.otn_c.specs.contracts.growing_sink.GrowingSinkSink.TheImpl as sink
use Rattle.otn_c.proofs.call.call.Goals as goal

pub returns : goal.returns
returns c =
    is_called c.args.words.now c.args.plan.now c.args.inputs.now c.args.ends.now c.args.present.now c.in_ok-code.code c.hand_out.new.told
    c.hand_out.new.outputs c.hand_out.new.output_ends c.hand_out.new.report (texts c.deref-3.result.now) c.answer-status.result
    (view c.in-Some-2.bays) (view c.answer-status.new.bays) (sink_view sink.ghosts c.new-got.result) (sink_view sink.ghosts c.answer-status.new.report)
    (search rules) (sink_is (growing_got c.new-got.result) (growing_faults c.new-got.result) c.new-got.ensures.got c.new-got.ensures.faults)
    (search rules) (calm_inputs c.answer-status.new.bays) c.answer-status.ensures c.in_ok-code.ensures (search rules) (search rules)
