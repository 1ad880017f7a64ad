use Rattle.std.proofs.Common.{◌≡◌, ◌∙◌, ap, sym, subst}
use Rattle.std.specs.Prelude.{slice_range}
use Rattle.port_base.specs.InPlace.{in_view}
use Rattle.port_base.specs.PortViews.{sink_view}
use Rattle.port_base.specs.Writes.{Gains}
use Rattle.line_side.specs.LineForm.{plain_otu2}
use Rattle.line_side.specs.LineStands.{LineView}
use Rattle.tributary_line.specs.Walking.{TurnWalked, after_by}
use Rattle.tributary_line.specs.declared.walking.After.{After}
use Rattle.line_commands.specs.Steps.PullRuns.{PullHolds, PullLost, own_of}
use Rattle.line_commands.specs.declared.pull.Pulling.{Pulling}
use Rattle.line_commands.proofs.PullLoop.{tap_stands, turn_walked}
use Rattle.line_commands.proofs.pull.PullingWalker.turn.Goals as goal

pub returns-clause-walked : goal.returns-clause-walked
returns-clause-walked g c = λ origin first was read h.
    let old : Pulling = c.args.self.now in
    let new : Pulling = record { tap = c.turn-emitted.new.self; room = c.turn-emitted.new.room } in
    let mid = sink_view g.K.Sink c.args.report.now in
    let is = sink_view g.K.Sink c.write_emitted-written.new.report in
    let place = in_view g.I.Source c.args.place.now in
    let now = in_view g.I.Source c.turn-emitted.new.place in
    let emitted = slice_range c.turn-emitted.new.room.items c.turn-emitted.result.start c.turn-emitted.result.end in
    let stands = tap_stands origin old was mid first place read c.args._t h in
    let answer : c.after_turn.result ≡ after_by c.write_emitted-written.result c.turn-emitted.new.self.line.ended
    = c.after_turn.ensures ∙ ap (after_by c.write_emitted-written.result) (c.ended.ensures ∙ ap (λ (l : LineView). l.ended) c.line.ensures) in
    subst (λ (a : After). TurnWalked a plain_otu2 first now read c.args._t old.tap.line new.tap.line (PullHolds origin new was is) (PullLost origin new was is)) (sym answer)
    (turn_walked c.write_emitted-written.result origin old new was mid is first place now read c.args._t emitted h
    (c.turn-emitted.ensures.moves (own_of origin) first read c.args._t stands) c.turn-emitted.ensures.between.pieces
    (subst (λ bytes. Gains c.write_emitted-written.result mid.got (slice_range bytes c.turn-emitted.result.start c.turn-emitted.result.end) is.got) c.deref.ensures.value c.write_emitted-written.ensures.got)
    c.write_emitted-written.ensures.report)
