-- Believed: what was read of an input at its end, and what may stand behind that.
use Rattle.std.specs.Prelude.{◌≡◌, ℕ, Bool, true, false, List, [], ◌++◌}
use Rattle.port_base.specs.Given.{Gave, DiedUnended}
use Rattle.port_base.specs.Reads.{HasEnded}
use Rattle.port_base.specs.Views.{Live, InView}
use Rattle.line_side.specs.declared.ending.Ending.{Ending}
use Rattle.line_side.specs.declared.ending.Ending.TheVariants.{Open, Seen, Died}

-- a read came to the end of the bytes
abbrev pub is_seen : Ending → Bool
is_seen Open = false
is_seen Seen = true
is_seen Died = false

-- ---- what may stand behind

-- bytes that an input may turn out to have, of which these were read: they begin with these, and are no others where
-- no more may follow
pub record MayHave (more : Bool) (read available : List ℕ) : Type 0 where
  pub rest : List ℕ
  pub over : more ≡ false → rest ≡ []
  pub parts : available ≡ read ++ rest

-- These bytes were read of an input place. More may stand behind them only where it is live; where none may, a live
-- place has answered its end, whether or not it tells its bytes. A place that died had not answered it: nothing was
-- asked of its port behind its end.
pub record InputLeft (first last : InView) (read : List ℕ) (more : Bool) : Type 0 where
  pub gave : Gave first read last
  pub live : more ≡ true → last.state ≡ Live
  pub over : more ≡ false → last.state ≡ Live → HasEnded last.left last.ended
  pub died : DiedUnended first last
