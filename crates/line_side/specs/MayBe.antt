-- API: the bytes that a line may turn out to have.
use Rattle.std.specs.Prelude.{◌≡◌, ◌≢◌, ℕ, Bool, List, [], ◌++◌}
use Rattle.line_side.specs.LineForm.{through_mask}
use Rattle.line_side.specs.declared.ending.Ending.{Ending}
use Rattle.line_side.specs.declared.ending.Ending.TheVariants.{Open}

-- Bytes that a line may turn out to have: those that were read of its place, and any behind them, through its mask.
-- None are behind them where the end of the place was seen or it died.
pub record MayBe (scrambled : Bool) (ending : Ending) (read available : List ℕ) : Type 0 where
  pub rest : List ℕ
  pub over : ending ≢ Open → rest ≡ []
  pub parts : available ≡ through_mask scrambled (read ++ rest)
