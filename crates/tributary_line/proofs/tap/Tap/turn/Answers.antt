use Rattle.std.proofs.Common.{◌++◌, ◌∙◌, ap, sym, subst}
use Rattle.std.specs.Prelude.{slice_range}
use Rattle.port_base.specs.InPlace.{in_view}
use Rattle.line_side.specs.LineForm.{plain_otu2}
use Rattle.tributary_line.specs.TapTurn.{TapView}
use Rattle.tributary_line.specs.Steps.TapTurn.{TapMoves}
use Rattle.tributary_line.proofs.TapTurns.{turn_ends}
use Rattle.tributary_line.proofs.tap.Tap.turn.Goals as goal

pub returns-clause-moves : goal.returns-clause-moves
returns-clause-moves g c = λ own first read t h.
    let now = in_view g.I.Source c.take_frames.new.place in
    let m = subst (TapMoves own first now read t c.args.self.now) (sym c.self.view_is) (c.take_frames.ensures.moves own first read t h) in
    let line = c.end_turn-whole.ensures in
    let sink = c.hand_over.ensures in
    turn_ends own first now read t c.args.self.now (record { line = c.self.inside.line; sink = c.self.inside.sink }) c.end_turn-whole.result c.end_turn-whole.new.self c.hand_over.new.self
    (slice_range c.hand_over.new.buffer.items c.hand_over.result.start c.hand_over.result.end)
    m (ap (λ (tap : TapView). tap.line.pieces) c.self.view_is ∙ c.take_frames.ensures.pieces) line.pieces line.ending (line.stands now plain_otu2 first (read ++ m.further) t m.stands.line)
    (λ available may. (line.turn now plain_otu2 first (read ++ m.further) t m.stands.line available may).has_multiframe) (λ available may. (line.turn now plain_otu2 first (read ++ m.further) t m.stands.line available may).has_ended)
    (λ past frames st. sink.stands own past frames st) (λ past frames st. sink.bytes own past frames st)
