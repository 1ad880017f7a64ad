use Rattle.std.proofs.Common.{◌≡◌, ◌∙◌, suc, length, sym, ap, subst}
use Rattle.port_base.proofs.GivenLaws.{read_gave}
use Rattle.port_base.specs.Given.{Gave}
use Rattle.port_base.specs.InPlace.{in_view}
use Rattle.port_base.specs.Reads.{state_after, idle_reading}
use Rattle.port_base.specs.Views.{Live}
use Rattle.port_base.specs.declared.in_place.Reading.TheVariants.{Full}
use Rattle.frame_geometry.specs.Loans.{after_loan-whole}
use Rattle.line_commands.proofs.SlotSteps.{live_of, step_written}
use Rattle.port_base.specs.PortViews.{sink_view}
use Rattle.command_base.specs.Ends.{ReportAfter}
use Rattle.line_commands.specs.Steps.SlotRuns.{SlotStep}
use Rattle.line_commands.proofs.slot.write_frame.Goals as goal

pub returns-in-Full-clause-step : goal.returns-in-Full-clause-step
returns-in-Full-clause-step g c =
    let old = in_view g.I.Source c.args.line.now in
    let new = in_view g.I.Source c.read_full.new.self in
    let frame = c.read_full.new.into in
    let size : length frame ≡ 16320 = c.read_full.auto.into ∙ c.as_bytes_mut.ensures.size in
    let room : length c.as_bytes_mut.result.now ≡ suc 16319 = c.as_bytes_mut.ensures.size in
    let reads = c.in-Full.ensures in
    let live : old.state ≡ Live = live_of old.state 16319 c.requires.alive (λ no. (reads.idle no).2 ∙ ap idle_reading room) in
    let gave : Gave old frame new = read_gave Full old new frame 16320 size reads.state reads.live (λ no. absurd (no live)) in
    let goes_on : new.state ≡ old.state = reads.state ∙ ap (λ s. state_after s Full) live ∙ sym live in
    let loan = after_loan-whole 4080 c.args.frame.now frame size in
    let after = c.step_after.ensures in
    subst (λ answer. SlotStep c.args.slot old new (g.K.Sink.got c.args.report.now) (g.K.Sink.got c.write_slot_of.new.report) answer) (sym after)
    (step_written c.write_slot_of.result c.args.slot frame old new (g.K.Sink.got c.args.report.now) (g.K.Sink.got c.write_slot_of.new.report)
    gave size goes_on (reads.live live).2 (rw loan at c.write_slot_of.ensures.written))

pub returns-in-Full-clause-report : goal.returns-in-Full-clause-report
returns-in-Full-clause-report g c =
    subst (λ answer. ReportAfter answer (sink_view g.K.Sink c.args.report.now) (sink_view g.K.Sink c.write_slot_of.new.report)) (sym c.step_after.ensures) c.write_slot_of.ensures.report
