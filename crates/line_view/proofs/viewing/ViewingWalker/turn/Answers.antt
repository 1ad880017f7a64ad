use Rattle.std.proofs.Common.{sym, subst}
use Rattle.std.specs.Vec.{with_items}
use Rattle.port_base.specs.InPlace.{in_view}
use Rattle.port_base.specs.PortViews.{SinkWrites, sink_view}
use Rattle.tributary_line.specs.Walking.{TurnWalked}
use Rattle.tributary_line.specs.declared.walking.After.{After}
use Rattle.line_view.specs.Steps.ViewRuns.{ViewHolds, ViewLost, form_in, lines_of}
use Rattle.line_view.specs.declared.viewing.Viewing.{Viewing}
use Rattle.line_view.proofs.Runs.{view_stands, turn_walked}
use Rattle.line_view.proofs.viewing.ViewingWalker.turn.Goals as goal

pub returns-clause-walked : goal.returns-clause-walked
returns-clause-walked g c = λ origin first was read h.
    let old : Viewing = c.args.self.now in
    let new : Viewing = record { kind = old.kind; scrambled = old.scrambled; line = c.do_turn-seen.new.line; watched = c.do_turn-seen.new.watched; room = with_items old.room c.do_turn-seen.new.room } in
    let mid = sink_view g.K.Sink c.args.report.now in
    let is = sink_view g.K.Sink c.write_lines-written.new.report in
    let place = in_view g.I.Source c.args.place.now in
    let now = in_view g.I.Source c.do_turn-seen.new.place in
    let seen = c.do_turn-seen.result in
    let result = c.write_lines-written.result in
    subst (λ (a : After). TurnWalked a (form_in origin) first now read c.args.t old.line new.line (ViewHolds origin new was is) (ViewLost origin new was is)) (sym c.after_turn.ensures)
    (turn_walked result origin old new was mid is first place now read c.args.t seen c.do_turn-seen.new.msi.items h
    (c.do_turn-seen.ensures.moves (form_in origin) first read (view_stands origin old was mid first place read c.args.t h)) c.do_turn-seen.ensures.between
    (subst (λ xs. SinkWrites result mid (lines_of c.args.t seen c.do_turn-seen.new.msi.items xs) is) c.as_slice-2.ensures.value
    (subst (λ ms. SinkWrites result mid (lines_of c.args.t seen ms c.as_slice-2.result.now) is) c.as_slice.ensures.value c.write_lines-written.ensures)))
