use Rattle.std.proofs.Common.{◌∙◌, ◌+◌, ◌++◌, ap, length, arith}
use Rattle.port_base.specs.InPlace.{in_view}
use Rattle.line_view.proofs.Pieces.{moves_none, moves_twice}
use Rattle.line_view.proofs.turns.take_frames.Goals as goal

pub loop-init : goal.loop-init
loop-init g c = record {
  pieces = c.requires.between;
  kind = c.requires.kind;
  few = let none = ap length c.requires.none in omega (arith, none);
  moves = λ form first read h. moves_none form first (in_view g.I.Source c.args.place.now) read c.args.t c.args.line.now c.args.watched.now.items c.args.msi.now.items h;
}

pub loop-preserved : goal.loop-preserved
loop-preserved g c =
    let piece = c.take_piece.ensures in
    record {
      pieces = piece.pieces ∙ ap (λ n. n + 1) c.loop.invariant.pieces;
      kind = piece.kind ∙ c.loop.invariant.kind;
      few = piece.few;
      moves = λ form first read h.
          moves_twice form first (in_view g.I.Source c.loop.place) (in_view g.I.Source c.take_piece.new.place) read c.args.t c.args.line.now c.loop.line c.take_piece.new.line
          c.args.watched.now.items c.loop.watched.items c.take_piece.new.watched.items c.loop.msi.items c.take_piece.new.msi.items
          (c.loop.invariant.moves form first read h) (λ stands. piece.moves form first (read ++ (c.loop.invariant.moves form first read h).further) stands);
    }
