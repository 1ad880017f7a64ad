use Rattle.std.proofs.Common.{◌∙◌, sym, subst}
use Rattle.port_base.specs.InPlace.{in_view}
use Rattle.port_base.specs.AtHand.{place_at_hand}
use Rattle.line_commands.specs.Steps.SlotRuns.{FramesStep, SlotStep}
use Rattle.line_commands.proofs.SlotBatches.{until-of_front}
use Rattle.line_commands.proofs.SlotFrames.{step_of_one}
use Rattle.line_commands.proofs.slot.write_some.Goals as goal

pub returns-then-frames-eq0-clause-step : goal.returns-then-frames-eq0-clause-step
returns-then-frames-eq0-clause-step g c =
    let old = in_view g.I.Source c.args.line.now in
    let new = in_view g.I.Source c.write_frame.new.line in
    let got = g.K.Sink.got c.args.report.now in
    let gets = g.K.Sink.got c.write_frame.new.report in
    let step : SlotStep c.args.slot old new got gets c.write_frame.result =
    subst (λ view. SlotStep c.args.slot view new got gets c.write_frame.result) c.look_ahead.ensures.view c.write_frame.ensures.step in
    subst (λ answer. FramesStep c.args.slot c.args.most old new got gets answer) (sym c.after_frame.ensures)
    (step_of_one c.write_frame.result c.args.slot c.args.most old new got gets c.requires.most step)

pub returns-clause-step : goal.returns-clause-step
returns-clause-step g c =
    let slot = c.args.slot in
    let frames = c.gather_frames-frames.result in
    let hand = place_at_hand g.I.Source c.look_ahead.new.self in
    let new = in_view g.I.Source c.write_gathered.new.line in
    let got = g.K.Sink.got c.args.report.now in
    let gets = g.K.Sink.got c.write_gathered.new.report in
    let gathered = c.gather_frames-frames.ensures.gathered ∙ until-of_front slot c.peek.result.now hand frames c.peek.ensures.front c.gather_frames-frames.ensures.whole in
    subst (λ view. FramesStep slot c.args.most view new got gets c.write_gathered.result) c.look_ahead.ensures.view
    (c.write_gathered.ensures.step slot c.args.most c.requires.low c.requires.high c.gather_frames-frames.ensures.most gathered)
