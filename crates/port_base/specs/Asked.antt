-- API: an input place that was asked for one byte more.
use Rattle.std.specs.Prelude.{◌≡◌, ◌≤◌, ℕ, Bool, true, false, List, [], ◌∷◌, length}
use Rattle.port_base.specs.Given.{Gave, DiedUnended}
use Rattle.port_base.specs.Reads.{HasEnded}
use Rattle.port_base.specs.Views.{Live, InView}

-- a byte came
abbrev pub has_come : List ℕ → Bool
has_come [] = false
has_come (byte ∷ bytes) = true

-- A place was asked for one byte, or was not to be asked. Where it was asked and none came, a live place has ended.
pub record ByteAsked (asks : Bool) (was is : InView) (further : List ℕ) : Type 0 where
  pub gave : Gave was further is
  pub quiet : asks ≡ false → (is ≡ was) × (further ≡ [])
  pub most : length further ≤ 1
  pub died : DiedUnended was is
  pub lives : has_come further ≡ true → is.state ≡ Live
  pub over : asks ≡ true → has_come further ≡ false → is.state ≡ Live → HasEnded is.left is.ended

-- and this says whether it came
pub record ByteAnswer (asks : Bool) (was is : InView) (answer : Bool) : Type 0 where
  pub further : List ℕ
  pub asked : ByteAsked asks was is further
  pub tells : answer ≡ has_come further
