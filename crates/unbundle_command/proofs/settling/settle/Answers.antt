use Rattle.std.proofs.Common.{◌≡◌, ◌∙◌, sym, subst, rules}
use Rattle.port_base.proofs.BaysLaws.{line_in_seen, line_in_set, only_line_in}
use Rattle.port_base.specs.InPlace.{in_view}
use Rattle.port_base.specs.PortViews.{sink_view, SinkWrites}
use Rattle.port_base.specs.Racks.{bays_view, with_line_in}
use Rattle.port_base.specs.declared.drain.Written.TheVariants as written
use Rattle.unbundle_command.specs.Unbundled.{report_text}
use Rattle.tributary_line.specs.Settling.{ended_by}
use Rattle.unbundle_command.specs.UnbundleLeft.{UnbundleRan}
use Rattle.port_base.specs.declared.ended.Ended.TheVariants.{ReportFault}
use Rattle.unbundle_command.proofs.Ends.{ended_so, ends_lost, ends_whole, whole_by}
use Rattle.unbundle_command.proofs.Turns.{only_all}
use Rattle.unbundle_command.proofs.settling.settle.Goals as goal

pub returns-then-eq-clause-ran : goal.returns-then-eq-clause-ran
returns-then-eq-clause-ran g c = λ first turns many due.
    let bays = c.args.bays.now in
    let mid = with_line_in bays 0 c.ask_more-more.new.place in
    let is = bays_view g.I.Source g.O.Sink c.flush.new.bays in
    let value = c.line_in_mut.ensures.value in
    let was_told = sink_view g.K.Sink c.args.report.now in
    let is_told = sink_view g.K.Sink c.write_report.new.report in
    let lost : c.write_report.result ≡ written.Lost = search rules in
    ended_so first (bays_view g.I.Source g.O.Sink bays) (bays_view g.I.Source g.O.Sink mid) is turns c.args.parts.now (in_view g.I.Source c.line_in_mut.result.now) (in_view g.I.Source c.ask_more-more.new.place)
    c.ask_more-more.result c.flush.new.self was_told is_told ReportFault c.requires.ready many (only_line_in g.I.Source g.O.Sink bays 0 c.ask_more-more.new.place)
    (line_in_seen g.I.Source g.O.Sink bays 0 c.line_in_mut.result.now value) (line_in_set g.I.Source g.O.Sink bays 0 c.line_in_mut.result.now c.ask_more-more.new.place value) c.flush.ensures.alone c.ask_more-more.ensures
    (λ arrived held. c.flush.ensures.stands first arrived held) c.flush.ensures.none
    (λ arrived held few. subst (λ r. SinkWrites r was_told (report_text arrived) is_told) lost (c.write_report.ensures.told first is arrived held few))
    (λ arrived available held a b some. ends_lost _ _ some) due

pub returns-clause-ran : goal.returns-clause-ran
returns-clause-ran g c = λ first turns many due.
    let bays = c.args.bays.now in
    let mid = with_line_in bays 0 c.ask_more-more.new.place in
    let is = bays_view g.I.Source g.O.Sink c.flush.new.bays in
    let value = c.line_in_mut.ensures.value in
    let was_told = sink_view g.K.Sink c.args.report.now in
    let is_told = sink_view g.K.Sink c.write_report.new.report in
    let dead = c.has_dead.result in
    let more = c.ask_more-more.result in
    let whole : c.write_report.result ≡ written.Whole = search rules in
    subst (λ e. UnbundleRan turns first is was_told is_told e) (sym c.ended_by.ensures.value)
    (ended_so first (bays_view g.I.Source g.O.Sink bays) (bays_view g.I.Source g.O.Sink mid) is turns c.args.parts.now (in_view g.I.Source c.line_in_mut.result.now) (in_view g.I.Source c.ask_more-more.new.place)
    more c.flush.new.self was_told is_told (ended_by dead more) c.requires.ready many (only_line_in g.I.Source g.O.Sink bays 0 c.ask_more-more.new.place)
    (line_in_seen g.I.Source g.O.Sink bays 0 c.line_in_mut.result.now value) (line_in_set g.I.Source g.O.Sink bays 0 c.line_in_mut.result.now c.ask_more-more.new.place value) c.flush.ensures.alone c.ask_more-more.ensures
    (λ arrived held. c.flush.ensures.stands first arrived held) c.flush.ensures.none
    (λ arrived held few. subst (λ r. SinkWrites r was_told (report_text arrived) is_told) (whole ∙ sym (whole_by dead more)) (c.write_report.ensures.told first is arrived held few))
    (λ arrived available held a b some. ends_whole first is arrived c.flush.new.self turns available dead more c.has_dead.ensures.some c.has_dead.ensures.none held a b) due)

pub returns-then-eq-clause-alone : goal.returns-then-eq-clause-alone
returns-then-eq-clause-alone g c = only_all _ _ _ (only_line_in g.I.Source g.O.Sink c.args.bays.now 0 c.ask_more-more.new.place) c.flush.ensures.alone

pub returns-clause-alone : goal.returns-clause-alone
returns-clause-alone g c = only_all _ _ _ (only_line_in g.I.Source g.O.Sink c.args.bays.now 0 c.ask_more-more.new.place) c.flush.ensures.alone
