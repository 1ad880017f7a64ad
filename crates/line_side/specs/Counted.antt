-- API: what is counted of the overhead of the frames that a line has used.
use Rattle.std.specs.Prelude.{ℕ, List, Option, IfSome}
use Rattle.otn_base.specs.declared.limits.TheConstants.{LINE_COLUMNS}
use Rattle.frame_geometry.specs.declared.overhead.TheConstants.{PM_ROW, PM_BIP8_COLUMN}
use Rattle.frame_overhead.specs.TwoBefore.{Checked, HasChecked}
use Rattle.otu_overhead.specs.Section.{Taken, HasTaken}

-- what the checks of section and path overhead keep
pub record Checks : Type 0 where
  pub section : Taken
  pub path : Checked

-- These frames were taken.
pub record HaveTaken (frames : List (List ℕ)) (checks : Checks) : Type 0 where
  pub section : HasTaken frames checks.section
  pub path : HasChecked LINE_COLUMNS PM_ROW PM_BIP8_COLUMN frames checks.path

-- what a line counts by, where it counts: one that counts nothing has none
abbrev pub Counted : Type 0
Counted = Option Checks

-- Of these frames was counted, where anything is.
pub record HasCounted (frames : List (List ℕ)) (seen : Counted) : Type 0 where
  pub checks : IfSome seen (HaveTaken frames)
