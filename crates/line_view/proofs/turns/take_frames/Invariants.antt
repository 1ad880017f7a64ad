use Rattle.std.proofs.Common.{◌≡◌, ◌≤◌, ℕ, List, length}
use Rattle.port_base.specs.InPlace.{in_view}
use Rattle.port_base.specs.Views.{InView}
use Rattle.line_side.specs.LineForm.{LineForm}
use Rattle.line_view.specs.Steps.Viewing.{ViewStands, ViewMoves}
use Rattle.line_view.proofs.turns.take_frames.Given as goal

-- the pieces so far
abbrev pub invariant-loop : goal.invariant-loop
invariant-loop g l = record {
  pieces : l.line.pieces ≡ l.counter;
  kind : l.line.kind ≡ l.fn.kind;
  few : length l.msi.items ≤ l.line.pieces;
  moves : (form : LineForm) (first : InView) (read : List ℕ) → ViewStands form first (in_view g.I.Source l.fn.place) read l.t l.fn.line l.fn.watched.items l.fn.msi.items
      → ViewMoves form first (in_view g.I.Source l.place) read l.t l.fn.line l.line l.fn.watched.items l.watched.items l.msi.items;
}
