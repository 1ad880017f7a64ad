-- Believed: what was due to a place, and what of it is gone.
use Rattle.std.specs.Prelude.{◌≡◌, ℕ, List, [], ◌++◌}
use Rattle.port_base.specs.Given.{Gained}
use Rattle.port_base.specs.Views.{Live, OutView}

-- Of these bytes, which were due to a place, a part went out, from the front, and all of them where the place is live:
-- so says one whole write, and so say many, one after the other.
pub record IsSent (first : OutView) (due : List ℕ) (now : OutView) : Type 0 where
  pub written : List ℕ
  pub rest : List ℕ
  pub parts : written ++ rest ≡ due
  pub gained : Gained first written now
  pub whole : now.state ≡ Live → rest ≡ []
