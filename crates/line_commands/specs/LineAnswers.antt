-- Believed: what the commands over line input 0 answer for, over all that they are handed: as it was, and as it is.
use Rattle.std.specs.Prelude.{◌≡◌, ◌≢◌, ◌<◌, ◌≤◌, ◌%◌, ◌⊎◌, ◌↔◌, ℕ, Bool, false, List, ◌++◌, length}
use Rattle.otn_base.specs.declared.limits.TheConstants.{LINE_FRAME_BYTES, OTU2_SLOTS}
use Rattle.port_base.specs.Given.{Gave, DiedUnended}
use Rattle.port_base.specs.Reads.{HasEnded}
use Rattle.port_base.specs.Views.{Live, Dead}
use Rattle.tributary_model.specs.Places.{Tributary}
use Rattle.command_base.specs.Device.{Device, OnlyLine, line_zero}
use Rattle.command_base.specs.AnswerWords.{CountsBy, Reports, IsLineAnswer}
use Rattle.command_base.specs.declared.status.Status.{Status}
use Rattle.command_base.specs.declared.status.Status.TheVariants.{Unfinished, ReportFault, Cut, Memory}
use Rattle.tributary_line.specs.TurnsDone.{MayFollow, bytes_read}
use Rattle.line_commands.specs.PullReport.{LeavesBytes, pull_report, StoppedInTurn}
use Rattle.line_commands.specs.SlotReport.{HasBytesBehind, slot_report, most_read_of_line, StoppedInFrame}

-- ---- a command over line input 0, by what it is to have done once there was memory

pub record LineAnswers (Ran : (old new : Device) → Status → Type 0) (old new : Device) (status : Status) : Type 0 where
  pub answer : IsLineAnswer status
  -- the report's count of faults rose or stands at its end where the answer is ReportFault, and else it is as it was:
  -- no write that failed was tried again and then went well
  pub counts : CountsBy ReportFault status old.report.faults new.report.faults
  pub memory : status ≡ Memory → new ≡ old
  -- no other place has changed: of the views; `refused` and `alone` of `run` say it of the values
  pub alone : OnlyLine old new
  pub ran : status ≢ Memory → Ran old new status

-- ---- `slot K`: the slot's payload bytes of each whole frame of line input 0

pub record SlotRan (slot : ℕ) (old new : Device) (status : Status) : Type 0 where
  -- these bytes were taken of the line
  pub read : List ℕ
  pub gave : Gave (line_zero old) read (line_zero new)
  -- a line that died had not answered its end: nothing is asked of it behind that
  pub died : DiedUnended (line_zero old) (line_zero new)
  -- what they give was written, whole, or a part of it from the front where a write failed
  pub wrote : Reports status old.report.got new.report.got (slot_report slot read)
  -- that ended the command at once, with the frame whose slot was being written the last that was taken
  pub stopped : status ≡ ReportFault → StoppedInFrame slot read (length read) old.report.got new.report.got
  -- Cut is the answer exactly where the line is dead
  pub cut : (status ≡ Cut) ↔ ((line_zero new).state ≡ Dead)
  -- and, where no write failed, Unfinished exactly where the line is not dead, and bytes were taken behind the whole
  -- frames that are used; Done is the answer where none of Memory, ReportFault, Cut and Unfinished is
  pub unfinished : status ≢ ReportFault → (status ≡ Unfinished) ↔
      (((line_zero new).state ≢ Dead) × HasBytesBehind (length read))
  -- never more than 131,072 frames and one byte
  pub most : length read ≤ most_read_of_line
  -- where no write failed, all that there is was taken, so that a line that is not dead has answered its end, or that
  -- many
  pub all : status ≢ ReportFault → (line_zero new).state ≢ Dead → HasEnded (line_zero new).left (line_zero new).ended
      ⊎ (length read ≡ most_read_of_line)

-- ---- `pull PORT K,K`: what the sink of a tributary on line input 0 emits, turn by turn

pub record PullRan (own : Tributary) (old new : Device) (status : Status) : Type 0 where
  -- These bytes were taken of the line. Where `more` is true, bytes may stand behind them, and what has a `rest` holds
  -- whatever that is; else `rest` is empty, and a live line has answered its end, whether or not it tells its bytes.
  pub read : List ℕ
  pub gave : Gave (line_zero old) read (line_zero new)
  pub more : Bool
  pub over : more ≡ false → (line_zero new).state ≡ Live → HasEnded (line_zero new).left (line_zero new).ended
  -- a line that died had not answered its end: nothing is asked of it behind that
  pub died : DiedUnended (line_zero old) (line_zero new)
  -- what they give was written, whole, or a part of it from the front where a write failed
  pub wrote : (rest : List ℕ) → MayFollow more rest
      → Reports status old.report.got new.report.got (pull_report own (read ++ rest))
  -- Cut is the answer where the line is dead, and Unfinished where it is not, and bytes stand behind the frames that
  -- the turns wanted: exactly so, but that a write may have failed before. Done is the answer where none of Memory,
  -- ReportFault, Cut and Unfinished is.
  pub cut : status ≢ ReportFault → (status ≡ Cut) ↔ ((line_zero new).state ≡ Dead)
  pub unfinished : status ≢ ReportFault → (rest : List ℕ) → MayFollow more rest
      → (status ≡ Unfinished) ↔ (((line_zero new).state ≢ Dead) × LeavesBytes (read ++ rest))
  -- the same, seen from the bytes taken alone, with no rest
  pub counted : status ≢ ReportFault → (status ≡ Unfinished) ↔
      (((line_zero new).state ≢ Dead) × (0 < length read % LINE_FRAME_BYTES))
  -- as many bytes were taken as the turns want and one more, or all that there are
  pub took : status ≢ ReportFault → (rest : List ℕ) → MayFollow more rest
      → length read ≡ bytes_read OTU2_SLOTS (read ++ rest)
  -- and where a write failed, that ended the command at once, with the turn whose bytes were being written the last
  pub stopped : status ≡ ReportFault
      → (t : ℕ) × ((rest : List ℕ) → MayFollow more rest
      → StoppedInTurn own (read ++ rest) (length read) t old.report.got new.report.got)
