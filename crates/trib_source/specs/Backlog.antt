-- API: the bytes that a source took and has not put.
use Rattle.std.specs.Prelude.{ℕ, List}

-- those of all turns, in the order in which they came; how many of them, at the end, the newest turn brought; and for
-- how many slots there is room
pub record BacklogView : Type 0 where
  pub items : List ℕ
  pub newest : ℕ
  pub slots : ℕ
