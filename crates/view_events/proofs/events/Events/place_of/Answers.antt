use Rattle.std.proofs.Common.{◌<◌, ◌∙◌, sym, arith, vec_len}
use Rattle.std.proofs.lemmas.Option.{slice_get_read}
use Rattle.view_events.specs.Steps.Places.{is_next}
use Rattle.view_events.proofs.Places.{no_place, none_more, place_found}
use Rattle.view_events.proofs.events.Events.place_of.Goals as goal

pub loop-i-preserved : goal.loop-i-preserved
loop-i-preserved c =
    let s = c.args.self.now in
    let items = s.tributaries.items in
    let was = c.index.result.now in
    let test = c.loop-i-test.true in
    let full = c.len-i-end.ensures in
    let less : c.loop-i.i < vec_len s.tributaries = omega (arith, test, full) in
    let here = slice_get_read items _ c.loop-i.i was s.tributaries.ok.0 less c.index.ensures in
    none_more (is_next s.turn c.args.label.now) items c.loop-i.i was c.loop-i.invariant here (sym c.is_next.ensures ∙ c.if-is_next.false)

pub returns-then-is_next-clause-some : goal.returns-then-is_next-clause-some
returns-then-is_next-clause-some c =
    let s = c.args.self.now in
    let items = s.tributaries.items in
    let was = c.index.result.now in
    let size = s.tributaries.ok.0 in
    let test = c.loop-i-test.true in
    let full = c.len-i-end.ensures in
    let less : c.loop-i.i < vec_len s.tributaries = omega (arith, test, full) in
    let here = slice_get_read items _ c.loop-i.i was size less c.index.ensures in
    (less, place_found (is_next s.turn c.args.label.now) items c.loop-i.i was c.loop-i.invariant (omega (arith, size, less)) here (sym c.is_next.ensures ∙ c.if-is_next.true))

pub returns-clause-none : goal.returns-clause-none
returns-clause-none c =
    let s = c.args.self.now in
    let items = s.tributaries.items in
    let size = s.tributaries.ok.0 in
    let past = c.loop-i-test.false in
    let most = c.loop-i.auto.i-end in
    let full = c.len-i-end.ensures in
    no_place (is_next s.turn c.args.label.now) items c.loop-i.i c.loop-i.invariant (omega (arith, size, past, full)) (omega (arith, size, most, full)) ∙ sym size
