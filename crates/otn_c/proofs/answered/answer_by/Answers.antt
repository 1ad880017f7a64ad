use Rattle.std.proofs.Common.{ap}
use Rattle.otn_c.specs.Lent.{lent_left, lent_ended}
use Rattle.port_base.specs.PortViews.{source_view, sink_view}
use Rattle.otn_c.specs.contracts.slice_source.SliceSourceSource.TheImpl as source
use Rattle.line_tool.specs.Words.{texts}
use Rattle.otn_c.proofs.Answering.{is_answered, source_is}
use Rattle.otn_c.proofs.Filling.{view}
use Rattle.otn_c.specs.contracts.growing_sink.GrowingSinkSink.TheImpl as sink
use Rattle.otn_c.proofs.answered.answer_by.Goals as goal

pub returns : goal.returns
returns g c =
    is_answered (texts c.args.words.now) c.args.plan.now (source_view source.ghosts c.new-source.result) (source_view source.ghosts c.run.new.plan)
    (view c.args.bays.now) (view c.run.new.bays) (sink_view sink.ghosts c.args.report.now) (sink_view sink.ghosts c.run.new.report)
    (g.C.Chooser.asked c.args.chooser.now) (g.C.Chooser.asked c.run.new.chooser) c.run.result
    (source_is (lent_left c.new-source.result) c.args.plan.now (lent_ended c.new-source.result) c.new-source.ensures.left c.new-source.ensures.ended)
    c.requires c.run.ensures.words c.run.ensures.answers
    (λ h. (ap view (c.run.ensures.refused h).0, ap (sink_view sink.ghosts) (c.run.ensures.refused h).1))
    (λ command form leaves. ap view ((c.run.ensures.alone command form).1 leaves))
