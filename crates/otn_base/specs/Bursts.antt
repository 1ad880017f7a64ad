-- API: the bytes of one turn.
use Rattle.std.specs.Prelude.{ℕ, List}

-- the bytes, and how many there is room for
pub record BurstView : Type 0 where
  pub bytes : List ℕ
  pub room : ℕ
