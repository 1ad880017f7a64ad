-- Steps of `numbered`, `ends` and others: fibres whose ends are at lines, and cuts in range.
use Rattle.std.specs.Prelude.{◌≡◌, ℕ, ℤ, IsTrue, List, Some, slice_get}
use Rattle.otn_base.specs.declared.limits.TheConstants.{MOST_TURNS}
use Rattle.plan_table.specs.NumberTests.{is_within}
use Rattle.network_file.specs.Outline.{Cut, Fibre}
use Rattle.network_file.specs.declared.limits.TheConstants.{MOST_FIBRES}

pub record IsAtLines (f : Fibre) : Type 0 where
  pub from : IsTrue (is_within 0 3 f.from.line)
  pub to : IsTrue (is_within 0 3 f.to.line)

pub record AreAtLines (fibres : List Fibre) : Type 0 where
  pub each : (i : ℕ) (f : Fibre) → slice_get fibres i ≡ Some f → IsAtLines f

pub record IsInRange (cut : Cut) : Type 0 where
  pub fibre : IsTrue (is_within 1 MOST_FIBRES cut.fibre)
  pub turns : (pair : ℤ × ℤ) → cut.turns ≡ Some pair → IsTrue (is_within 0 MOST_TURNS pair.0)
      × IsTrue (is_within 0 MOST_TURNS pair.1)

pub record AreInRange (cuts : List Cut) : Type 0 where
  pub each : (i : ℕ) (cut : Cut) → slice_get cuts i ≡ Some cut → IsInRange cut
