-- Steps of `take_frames` and `take_piece`: what private contracts alone cite, beside the definitions of `TapTurn`.
use Rattle.std.specs.Prelude.{ℕ, ◌+◌, false, List, ◌++◌}
use Rattle.port_base.specs.Views.{InView}
use Rattle.line_side.specs.MayBe.{MayBe}
use Rattle.tributary_model.specs.Places.{Tributary}
use Rattle.tributary_line.specs.TapTurn.{TapView, TapStands}

-- some pieces of a turn went by
pub record TapMoves (own : Tributary) (first now : InView) (read : List ℕ) (t : ℕ) (old new : TapView) : Type 0 where
  pub further : List ℕ
  pub stands : TapStands own first now (read ++ further) t new
  pub earlier : (available : List ℕ) → MayBe false new.line.reader.ending (read ++ further) available
      → MayBe false old.line.reader.ending read available
