-- API: how `slot` goes: what it took of its line, what its report gained, and why it ended.
use Rattle.std.specs.Prelude.{◌≡◌, ◌≢◌, ◌<◌, ◌≤◌, ◌⊎◌, ◌*◌, ℕ, List, Option, length}
use Rattle.otn_base.specs.declared.limits.TheConstants.{LINE_FRAME_BYTES}
use Rattle.port_base.specs.Bytes.{after}
use Rattle.port_base.specs.Given.{Gave, DiedUnended}
use Rattle.port_base.specs.Reads.{HasEnded}
use Rattle.port_base.specs.Views.{InView, Dead}
use Rattle.line_commands.specs.SlotReport.{slot_report, whole_frames_used, most_read_of_line, StoppedInFrame}
use Rattle.port_base.specs.declared.ended.Ended.{Ended}
use Rattle.port_base.specs.declared.ended.Ended.TheVariants.{Done, Unfinished, Cut, ReportFault, Memory}

-- the answer of a command that took these bytes of its line, of the most frames and one byte more at most
abbrev pub SlotEnds : Ended → (slot : ℕ) → (read : List ℕ) → (first now : InView) → (old new : Option (List ℕ))
    → Type 0
SlotEnds Done slot read first now old new =
    (new ≡ after old (slot_report slot read)) × (now.state ≢ Dead) × HasEnded now.left now.ended
    × (length read ≡ whole_frames_used (length read) * LINE_FRAME_BYTES)
    × (length read ≤ most_read_of_line)
SlotEnds Unfinished slot read first now old new =
    (new ≡ after old (slot_report slot read)) × (now.state ≢ Dead)
    × (whole_frames_used (length read) * LINE_FRAME_BYTES < length read)
    × (HasEnded now.left now.ended ⊎ (length read ≡ most_read_of_line)) × (length read ≤ most_read_of_line)
SlotEnds Cut slot read first now old new = (new ≡ after old (slot_report slot read)) × (now.state ≡ Dead)
    × (length read ≤ most_read_of_line)
SlotEnds ReportFault slot read first now old new = StoppedInFrame slot read (length read) old new
    × (now.state ≡ first.state) × (length read ≤ most_read_of_line)
SlotEnds Memory slot read first now old new = ⊥

-- a command from the line and the report as they were to how they are
pub record SlotEnded (slot : ℕ) (first now : InView) (old new : Option (List ℕ)) (ended : Ended) : Type 0 where
  pub read : List ℕ
  pub gave : Gave first read now
  pub died : DiedUnended first now
  pub ends : SlotEnds ended slot read first now old new
