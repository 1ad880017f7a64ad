use Rattle.std.proofs.Common.{◌≡◌, ◌∙◌, ◌++◌, sym, ap, arith}
use Rattle.view_events.specs.EventsOf.{all_sums, line_events, said_after}
use Rattle.view_events.specs.Stands.{IsTold}
use Rattle.view_events.specs.Steps.Words.{nth_word}
use Rattle.view_events.specs.ViewLines.{line_text}
use Rattle.view_events.specs.declared.view_lines.Kind.TheVariants.{Turn, Msi, Tributary, End, Other}
use Rattle.view_events.proofs.Reading.{kind_read, only_end, only_msi, only_other, only_tributary, only_turn}
use Rattle.view_events.proofs.Spelling.{line_word}
use Rattle.view_events.proofs.events.Events.take_line.Goals as goal

pub returns-in_ok-begin_turn-in-Turn-clause-told : goal.returns-in_ok-begin_turn-in-Turn-clause-told
returns-in_ok-begin_turn-in-Turn-clause-told c said one h is stands =
    let line = c.args.line.now in
    let e = c.in-Turn.ensures in
    let kind = kind_read Turn one (nth_word 0 line) h (line_word one h line is 0 (omega arith)) e.turn e.msi e.tributary e.end e.other in
    only_turn (λ o. line ≡ line_text o → IsTold said o c.begin_turn.new.self c.args.out.now.items c.begin_turn.new.out.items) one h (sym kind)
    (λ f t g i. c.in_ok-begin_turn-in-Turn.ensures.told said f t g i stands) is

pub returns-in_ok-note_msi-in-Msi-clause-told : goal.returns-in_ok-note_msi-in-Msi-clause-told
returns-in_ok-note_msi-in-Msi-clause-told c said one h is stands =
    let line = c.args.line.now in
    let e = c.in-Msi.ensures in
    let kind = kind_read Msi one (nth_word 0 line) h (line_word one h line is 0 (omega arith)) e.turn e.msi e.tributary e.end e.other in
    only_msi (λ o. line ≡ line_text o → IsTold said o c.note_msi.new.self c.args.out.now.items c.note_msi.new.out.items) one h (sym kind)
    (λ s b l f i. c.in_ok-note_msi-in-Msi.ensures.told said s b l f i stands) is

pub returns-in_ok-take_tributary-in-Tributary-clause-told : goal.returns-in_ok-take_tributary-in-Tributary-clause-told
returns-in_ok-take_tributary-in-Tributary-clause-told c said one h is stands =
    let line = c.args.line.now in
    let e = c.in-Tributary.ensures in
    let kind = kind_read Tributary one (nth_word 0 line) h (line_word one h line is 0 (omega arith)) e.turn e.msi e.tributary e.end e.other in
    only_tributary (λ o. line ≡ line_text o → IsTold said o c.take_tributary.new.self c.args.out.now.items c.take_tributary.new.out.items) one h (sym kind)
    (λ x g i. c.in_ok-take_tributary-in-Tributary.ensures.told said x g i stands) is

pub returns-in_ok-end-in-End-clause-told : goal.returns-in_ok-end-in-End-clause-told
unfolding line_events said_after
returns-in_ok-end-in-End-clause-told c said one h is stands =
    let line = c.args.line.now in
    let e = c.in-End.ensures in
    let kind = kind_read End one (nth_word 0 line) h (line_word one h line is 0 (omega arith)) e.turn e.msi e.tributary e.end e.other in
    only_end (λ o. line ≡ line_text o → IsTold said o c.args.self.now c.args.out.now.items c.end.new.out.items) one h (sym kind)
    (λ turns rest i. record { stands = stands; text = c.in_ok-end-in-End.ensures said stands ∙ ap (λ l. c.args.out.now.items ++ (l ++ all_sums said)) i }) is

pub returns-in_ok-extend_from_slice-in-Other-clause-told : goal.returns-in_ok-extend_from_slice-in-Other-clause-told
unfolding line_events said_after
returns-in_ok-extend_from_slice-in-Other-clause-told c said one h is stands =
    let line = c.args.line.now in
    let e = c.in-Other.ensures in
    let kind = kind_read Other one (nth_word 0 line) h (line_word one h line is 0 (omega arith)) e.turn e.msi e.tributary e.end e.other in
    only_other (λ o. line ≡ line_text o → IsTold said o c.args.self.now c.args.out.now.items c.extend_from_slice.new.self.items) one h (sym kind)
    (λ word more i. record { stands = stands; text = c.in_ok-extend_from_slice-in-Other.ensures.items ∙ ap (λ l. c.args.out.now.items ++ l) i }) is
