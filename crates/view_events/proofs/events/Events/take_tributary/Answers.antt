use Rattle.std.proofs.Common.{◌≡◌, ◌∙◌, sym, ap, arith}
use Rattle.std.specs.List.{position_or_len}
use Rattle.view_events.specs.EventsOf.{label_of}
use Rattle.view_events.specs.Shown.{ToldAt}
use Rattle.view_events.specs.Steps.Places.{is_next}
use Rattle.view_events.proofs.Telling.{known_is_told, new_is_told}
use Rattle.view_events.proofs.events.Events.take_tributary.Goals as goal

pub returns-in_ok-tell_known-in-Some-clause-after : goal.returns-in_ok-tell_known-in-Some-clause-after
returns-in_ok-tell_known-in-Some-clause-after c = ToldAt c.in-Some.i c.in_ok-tell_known-in-Some.ensures.at

pub returns-in_ok-tell_known-in-Some-clause-told : goal.returns-in_ok-tell_known-in-Some-clause-told
returns-in_ok-tell_known-in-Some-clause-told c said x h is stands =
    let old = c.args.self.now in
    let items = old.tributaries.items in
    let name : c.as_slice.result.now ≡ label_of x = c.as_slice.ensures.value ∙ c.in_ok-label.ensures x h is in
    let size = old.tributaries.ok.0 in
    let few = c.in-Some.ensures.some.0 in
    let e = c.in_ok-tell_known-in-Some.ensures in
    known_is_told said x c.in-Some.i old c.tell_known.new.self c.args.out.now.items c.tell_known.new.out.items stands
    (ap (λ l. position_or_len (is_next old.turn l) items) (sym name) ∙ c.in-Some.ensures.some.1) (omega (arith, size, few)) e.turn e.line e.slots (e.told said x h is stands)

pub returns-in_ok-tell_new-in-None-clause-told : goal.returns-in_ok-tell_new-in-None-clause-told
returns-in_ok-tell_new-in-None-clause-told c said x h is stands =
    let old = c.args.self.now in
    let items = old.tributaries.items in
    let name = c.in_ok-label.ensures x h is in
    let same : c.as_slice.result.now ≡ label_of x = c.as_slice.ensures.value ∙ name in
    let size = old.tributaries.ok.0 in
    let e = c.in_ok-tell_new-in-None.ensures in
    new_is_told said x old c.tell_new.new.self c.args.out.now.items c.tell_new.new.out.items stands
    (ap (λ l. position_or_len (is_next old.turn l) items) (sym same) ∙ c.in-None.ensures.none ∙ size) e.turn e.line e.slots (e.told said x h is stands name)
