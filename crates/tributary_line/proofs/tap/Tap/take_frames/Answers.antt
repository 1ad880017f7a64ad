use Rattle.std.proofs.Common.{◌∙◌, ◌+◌, ◌++◌, refl, ap}
use Rattle.port_base.specs.InPlace.{in_view}
use Rattle.tributary_line.proofs.TapTurns.{moves_none, moves_twice}
use Rattle.tributary_line.proofs.tap.Tap.take_frames.Goals as goal

pub loop-init : goal.loop-init
loop-init g c = record {
  pieces = c.requires.between.pieces;
  step = c.requires.between.step;
  slots = refl;
  moves = λ own first read t h. moves_none own first (in_view g.I.Source c.args.place.now) read t c.args.self.now h;
}

pub loop-preserved : goal.loop-preserved
loop-preserved g c =
    let piece = c.take_piece-frames.ensures in
    record {
      pieces = piece.pieces ∙ ap (λ n. n + 1) c.loop.invariant.pieces;
      step = piece.step;
      slots = piece.slots ∙ c.loop.invariant.slots;
      moves = λ own first read t h.
          moves_twice own first (in_view g.I.Source c.loop.place) (in_view g.I.Source c.take_piece-frames.new.place) read t c.args.self.now c.loop.self c.take_piece-frames.new.self
          (c.loop.invariant.moves own first read t h) (λ stands. piece.moves own first (read ++ (c.loop.invariant.moves own first read t h).further) t stands);
    }
