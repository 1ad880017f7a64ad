use Rattle.std.proofs.Common.{◌≡◌, ◌≤◌, ◌-◌, [], ◌∷◌, ◌++◌, drop, length, slice_range, sym, subst, ◌∙◌, rules}
use Rattle.port_base.proofs.BaysLaws.{line_in_seen, line_in_set, only_line_in, line_out_seen, line_out_set, only_line_out}
use Rattle.port_base.specs.InPlace.{in_view}
use Rattle.port_base.specs.OutPlace.{out_view}
use Rattle.port_base.specs.PortViews.{sink_view, SinkWrites}
use Rattle.port_base.specs.declared.drain.Written.TheVariants as written
use Rattle.tributary_line.specs.FeedTurn.{FeedStands}
use Rattle.protect_selector.specs.OfLines.{bytes_of, switch_line}
use Rattle.protect_selector.specs.Protecting.{ends_of}
use Rattle.port_base.specs.Racks.{bays_view, with_line_in, with_line_out}
use Rattle.port_base.specs.Views.{line_out_at}
use Rattle.protect_selector.proofs.ProtectTurns.{turn_chosen, whole_turn, lost_turn, only_both, only_all, seen_of, skip_within, span}
use Rattle.protect_selector.proofs.protecting.Protecting.turn.Goals as goal

pub returns-then-eq-clause-alone : goal.returns-then-eq-clause-alone
returns-then-eq-clause-alone g c =
    let first = c.args.bays.now in
    let mid = with_line_in first 0 c.turn-working.new.place in
    only_both _ _ _ (only_line_in g.I.Source g.O.Sink first 0 c.turn-working.new.place) (only_line_in g.I.Source g.O.Sink mid 1 c.turn-protection.new.place)

pub returns-clause-alone : goal.returns-clause-alone
returns-clause-alone g c =
    let first = c.args.bays.now in
    let mid = with_line_in first 0 c.turn-working.new.place in
    let last = with_line_in mid 1 c.turn-protection.new.place in
    only_all _ _ _ (only_both _ _ _ (only_line_in g.I.Source g.O.Sink first 0 c.turn-working.new.place) (only_line_in g.I.Source g.O.Sink mid 1 c.turn-protection.new.place))
    (only_line_out g.I.Source g.O.Sink last 0 c.give_on.new.place)

-- how many bytes each of the sinks emitted
pub give_on-requires-clause-skip : goal.give_on-requires-clause-skip
give_on-requires-clause-skip g c =
    let working : c.turn-working.result.end - c.turn-working.result.start ≡ length (slice_range c.turn-working.new.room.items c.turn-working.result.start c.turn-working.result.end) =
    span c.turn-working.new.room.items c.turn-working.result.start c.turn-working.result.end c.turn-working.ensures.in_order (let whole : c.turn-working.new.room.len ≡ length c.turn-working.new.room.items = search rules in subst (λ k. c.turn-working.result.end ≤ k) whole c.turn-working.ensures.within) in
    let protection : c.turn-protection.result.end - c.turn-protection.result.start ≡ length (slice_range c.turn-protection.new.room.items c.turn-protection.result.start c.turn-protection.result.end) =
    span c.turn-protection.new.room.items c.turn-protection.result.start c.turn-protection.result.end c.turn-protection.ensures.in_order (let whole : c.turn-protection.new.room.len ≡ length c.turn-protection.new.room.items = search rules in subst (λ k. c.turn-protection.result.end ≤ k) whole c.turn-protection.ensures.within) in
    skip_within c.pick-choice.result.side c.state.result c.state-2.result _ _ _ _ c.pick-choice.result.skip working protection c.pick-choice.ensures.within

pub returns-then-eq-clause-gone : goal.returns-then-eq-clause-gone
returns-then-eq-clause-gone g c = λ own n first w p trib stood.
    let bays = c.args.bays.now in
    let mid = with_line_in bays 0 c.turn-working.new.place in
    let last = with_line_in mid 1 c.turn-protection.new.place in
    let x = in_view g.I.Source c.line_in_mut.result.now in
    let y = in_view g.I.Source c.line_in_mut-2.result.now in
    let x' = in_view g.I.Source c.turn-working.new.place in
    let y' = in_view g.I.Source c.turn-protection.new.place in
    let seen = seen_of (bays_view g.I.Source g.O.Sink bays) (bays_view g.I.Source g.O.Sink mid) (bays_view g.I.Source g.O.Sink last) x y x' y'
    (only_line_in g.I.Source g.O.Sink bays 0 c.turn-working.new.place) (only_line_in g.I.Source g.O.Sink mid 1 c.turn-protection.new.place)
    (line_in_seen g.I.Source g.O.Sink bays 0 c.line_in_mut.result.now c.line_in_mut.ensures.value) (line_in_set g.I.Source g.O.Sink bays 0 c.line_in_mut.result.now c.turn-working.new.place c.line_in_mut.ensures.value)
    (line_in_seen g.I.Source g.O.Sink mid 1 c.line_in_mut-2.result.now c.line_in_mut-2.ensures.value) (line_in_set g.I.Source g.O.Sink mid 1 c.line_in_mut-2.result.now c.turn-protection.new.place c.line_in_mut-2.ensures.value) in
    let was = ends_of (bays_view g.I.Source g.O.Sink bays) (sink_view g.K.Sink c.args.report.now) in
    let ew = slice_range c.turn-working.new.room.items c.turn-working.result.start c.turn-working.result.end in
    let ep = slice_range c.turn-protection.new.room.items c.turn-protection.result.start c.turn-protection.result.end in
    let working : c.turn-working.result.end - c.turn-working.result.start ≡ length (slice_range c.turn-working.new.room.items c.turn-working.result.start c.turn-working.result.end) =
    span c.turn-working.new.room.items c.turn-working.result.start c.turn-working.result.end c.turn-working.ensures.in_order (let whole : c.turn-working.new.room.len ≡ length c.turn-working.new.room.items = search rules in subst (λ k. c.turn-working.result.end ≤ k) whole c.turn-working.ensures.within) in
    let protection : c.turn-protection.result.end - c.turn-protection.result.start ≡ length (slice_range c.turn-protection.new.room.items c.turn-protection.result.start c.turn-protection.result.end) =
    span c.turn-protection.new.room.items c.turn-protection.result.start c.turn-protection.result.end c.turn-protection.ensures.in_order (let whole : c.turn-protection.new.room.len ≡ length c.turn-protection.new.room.items = search rules in subst (λ k. c.turn-protection.result.end ≤ k) whole c.turn-protection.ensures.within) in
    let is = ends_of (bays_view g.I.Source g.O.Sink last) (sink_view g.K.Sink c.write_switch.new.report) in
    let done = turn_chosen own first was is x y x' y' w p c.args.t c.args.self.now c.turn-working.new.self c.turn-protection.new.self ew ep c.state.result c.state-2.result
    (c.turn-working.result.end - c.turn-working.result.start) (c.turn-protection.result.end - c.turn-protection.result.start) c.pick-choice.result c.pick-choice.new.self
    seen.working_was seen.working_is seen.protection_was seen.protection_is stood.on_working stood.on_protection c.turn-working.ensures.moves c.turn-protection.ensures.moves
    c.state.ensures c.state-2.ensures working protection c.pick-choice.ensures.choice in
    let lost : c.write_switch.result ≡ written.Lost = search rules in
    lost_turn own n first was is w p c.args.t c.args.self.now c.turn-working.new.self c.turn-protection.new.self ew ep c.pick-choice.result c.pick-choice.new.self stood done seen.output
    (subst (λ r. SinkWrites r (sink_view g.K.Sink c.args.report.now) (switch_line c.args.t c.pick-choice.result.side c.pick-choice.result.cause) (sink_view g.K.Sink c.write_switch.new.report)) lost c.write_switch.ensures)

pub returns-clause-gone : goal.returns-clause-gone
returns-clause-gone g c = λ own n first w p trib stood.
    let bays = c.args.bays.now in
    let mid = with_line_in bays 0 c.turn-working.new.place in
    let last = with_line_in mid 1 c.turn-protection.new.place in
    let x = in_view g.I.Source c.line_in_mut.result.now in
    let y = in_view g.I.Source c.line_in_mut-2.result.now in
    let x' = in_view g.I.Source c.turn-working.new.place in
    let y' = in_view g.I.Source c.turn-protection.new.place in
    let seen = seen_of (bays_view g.I.Source g.O.Sink bays) (bays_view g.I.Source g.O.Sink mid) (bays_view g.I.Source g.O.Sink last) x y x' y'
    (only_line_in g.I.Source g.O.Sink bays 0 c.turn-working.new.place) (only_line_in g.I.Source g.O.Sink mid 1 c.turn-protection.new.place)
    (line_in_seen g.I.Source g.O.Sink bays 0 c.line_in_mut.result.now c.line_in_mut.ensures.value) (line_in_set g.I.Source g.O.Sink bays 0 c.line_in_mut.result.now c.turn-working.new.place c.line_in_mut.ensures.value)
    (line_in_seen g.I.Source g.O.Sink mid 1 c.line_in_mut-2.result.now c.line_in_mut-2.ensures.value) (line_in_set g.I.Source g.O.Sink mid 1 c.line_in_mut-2.result.now c.turn-protection.new.place c.line_in_mut-2.ensures.value) in
    let was = ends_of (bays_view g.I.Source g.O.Sink bays) (sink_view g.K.Sink c.args.report.now) in
    let ew = slice_range c.turn-working.new.room.items c.turn-working.result.start c.turn-working.result.end in
    let ep = slice_range c.turn-protection.new.room.items c.turn-protection.result.start c.turn-protection.result.end in
    let working : c.turn-working.result.end - c.turn-working.result.start ≡ length (slice_range c.turn-working.new.room.items c.turn-working.result.start c.turn-working.result.end) =
    span c.turn-working.new.room.items c.turn-working.result.start c.turn-working.result.end c.turn-working.ensures.in_order (let whole : c.turn-working.new.room.len ≡ length c.turn-working.new.room.items = search rules in subst (λ k. c.turn-working.result.end ≤ k) whole c.turn-working.ensures.within) in
    let protection : c.turn-protection.result.end - c.turn-protection.result.start ≡ length (slice_range c.turn-protection.new.room.items c.turn-protection.result.start c.turn-protection.result.end) =
    span c.turn-protection.new.room.items c.turn-protection.result.start c.turn-protection.result.end c.turn-protection.ensures.in_order (let whole : c.turn-protection.new.room.len ≡ length c.turn-protection.new.room.items = search rules in subst (λ k. c.turn-protection.result.end ≤ k) whole c.turn-protection.ensures.within) in
    let out = with_line_out last 0 c.give_on.new.place in
    let is = ends_of (bays_view g.I.Source g.O.Sink out) (sink_view g.K.Sink c.write_switch.new.report) in
    let done = turn_chosen own first was is x y x' y' w p c.args.t c.args.self.now c.turn-working.new.self c.turn-protection.new.self ew ep c.state.result c.state-2.result
    (c.turn-working.result.end - c.turn-working.result.start) (c.turn-protection.result.end - c.turn-protection.result.start) c.pick-choice.result c.pick-choice.new.self
    seen.working_was seen.working_is seen.protection_was seen.protection_is stood.on_working stood.on_protection c.turn-working.ensures.moves c.turn-protection.ensures.moves
    c.state.ensures c.state-2.ensures working protection c.pick-choice.ensures.choice in
    let whole : c.write_switch.result ≡ written.Whole = search rules in
    let out_was : line_out_at (bays_view g.I.Source g.O.Sink bays) 0 ≡ out_view g.O.Sink c.line_out_mut.result.now = sym seen.output ∙ line_out_seen g.I.Source g.O.Sink last 0 c.line_out_mut.result.now c.line_out_mut.ensures.value in
    let out_is : line_out_at (bays_view g.I.Source g.O.Sink out) 0 ≡ out_view g.O.Sink c.give_on.new.place = line_out_set g.I.Source g.O.Sink last 0 c.line_out_mut.result.now c.give_on.new.place c.line_out_mut.ensures.value in
    whole_turn own n first was is w p c.args.t c.args.self.now c.turn-working.new.self c.turn-protection.new.self ew ep c.pick-choice.result c.pick-choice.new.self c.give_on.new.feed trib stood done
    (subst (λ r. SinkWrites r (sink_view g.K.Sink c.args.report.now) (switch_line c.args.t c.pick-choice.result.side c.pick-choice.result.cause) (sink_view g.K.Sink c.write_switch.new.report)) whole c.write_switch.ensures)
    (λ turns fed fits. subst (λ v. FeedStands own first.output v (turns ++ drop c.pick-choice.result.skip (bytes_of c.pick-choice.result.side ew ep) ∷ []) c.give_on.new.feed) (sym out_is)
    (c.give_on.ensures.stands own first.output turns (subst (λ v. FeedStands own first.output v turns c.args.self.now.feed) out_was fed) fits))
