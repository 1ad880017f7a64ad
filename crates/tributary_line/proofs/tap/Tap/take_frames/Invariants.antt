use Rattle.std.proofs.Common.{◌≡◌, ℕ, List}
use Rattle.port_base.specs.InPlace.{in_view}
use Rattle.port_base.specs.Views.{InView}
use Rattle.tributary_model.specs.Places.{Tributary}
use Rattle.tributary_line.specs.TapTurn.{TapStands, IsInStep}
use Rattle.tributary_line.specs.Steps.TapTurn.{TapMoves}
use Rattle.tributary_line.proofs.tap.Tap.take_frames.Given as goal

-- the pieces so far
abbrev pub invariant-loop : goal.invariant-loop
invariant-loop g l = record {
  pieces : l.self.line.pieces ≡ l.counter;
  step : IsInStep l.frames l.self;
  slots : l.self.sink.slots ≡ l.fn.self.sink.slots;
  moves : (own : Tributary) (first : InView) (read : List ℕ) (t : ℕ) → TapStands own first (in_view g.I.Source l.fn.place) read t l.fn.self
      → TapMoves own first (in_view g.I.Source l.place) read t l.fn.self l.self;
}
