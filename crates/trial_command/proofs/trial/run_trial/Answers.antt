use Rattle.std.proofs.Common.{◌≡◌, ◌++◌, ap, ◌∙◌}
use Rattle.std.specs.Prelude.{string_bytes}
use Rattle.port_base.specs.PortViews.{sink_view}
use Rattle.trial_command.specs.TrialReport.{check_line}
use Rattle.trial_command.specs.declared.places.TheConstants.{TEXT_ROOM}
use Rattle.trial_command.proofs.TrialAnswers.{all_live, trial_ran}
use Rattle.trial_command.proofs.TrialPlaces.{text_sink, view}
use Rattle.trial_command.proofs.trial.run_trial.Goals as goal

pub lines_of_clients-requires : goal.lines_of_clients-requires
lines_of_clients-requires g c =
    all_live TEXT_ROOM c.args.number c.in_ok-first.first.items c.in_ok-second.second.items c.in_ok-third.third.items (view text_sink c.in_ok-bays.bays)
    (g.C.Chooser.asked c.args.chooser.now) (g.C.Chooser.asked c.first_run.new.chooser) (g.C.Chooser.asked c.middle_run.new.chooser) (g.C.Chooser.asked c.middle_run-2.new.chooser) (g.C.Chooser.asked c.last_run.new.chooser)
    c.in_ok-first.ensures c.in_ok-second.ensures c.in_ok-third.ensures c.in_ok-bays.ensures c.rooms_suffice.ensures.text

pub returns-clause-ran : goal.returns-clause-ran
returns-clause-ran g c =
    let first = c.in_ok-first.first.items in
    let second = c.in_ok-second.second.items in
    let third = c.in_ok-third.third.items in
    let lines = string_bytes c.in_ok-lines_of_clients.field-0 in
    let text : c.as_bytes.result.now ≡ ((check_line 0 first ++ check_line 1 second) ++ check_line 2 third) ++ lines =
    c.as_bytes.ensures.value
    ∙ c.in_ok-push_str-3.ensures.bytes
    ∙ ap (λ l. string_bytes c.push_str-2.new.self ++ l) c.deref-6.ensures
    ∙ ap (λ t. t ++ lines)
    (c.in_ok-push_str-2.ensures.bytes
    ∙ ap (λ l. string_bytes c.push_str.new.self ++ l) (c.deref-5.ensures ∙ c.in_ok-line_of_check-2.ensures ∙ ap (check_line 2) c.deref-4.ensures.value)
    ∙ ap (λ t. t ++ check_line 2 third)
    (c.in_ok-push_str.ensures.bytes
    ∙ ap (λ l. string_bytes c.in_ok-text.text ++ l) (c.deref-3.ensures ∙ c.in_ok-line_of_check.ensures ∙ ap (check_line 1) c.deref-2.ensures.value)
    ∙ ap (λ t. t ++ check_line 1 second) (c.in_ok-text.ensures ∙ ap (check_line 0) c.deref.ensures.value))) in
    trial_ran TEXT_ROOM c.args.number first second third lines c.as_bytes.result.now (view text_sink c.in_ok-bays.bays) c.write_whole.result
    (sink_view g.K.Sink c.args.report.now) (sink_view g.K.Sink c.write_whole.new.sink)
    (g.C.Chooser.asked c.args.chooser.now) (g.C.Chooser.asked c.first_run.new.chooser) (g.C.Chooser.asked c.middle_run.new.chooser) (g.C.Chooser.asked c.middle_run-2.new.chooser) (g.C.Chooser.asked c.last_run.new.chooser)
    c.in_ok-first.ensures c.in_ok-second.ensures c.in_ok-third.ensures c.in_ok-bays.ensures c.rooms_suffice.ensures.text c.in_ok-lines_of_clients.ensures text c.write_whole.ensures.port
