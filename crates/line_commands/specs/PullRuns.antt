-- API: how `pull` goes: what it took of its line, what its report gained, and why it ended.
use Rattle.std.specs.Prelude.{◌≡◌, ◌≢◌, ◌<◌, ◌%◌, ℕ, Bool, false, List, ◌++◌, Option, length}
use Rattle.port_base.specs.Given.{Gave, DiedUnended}
use Rattle.port_base.specs.Reads.{HasEnded}
use Rattle.port_base.specs.Views.{InView, Live, Dead}
use Rattle.tributary_model.specs.Places.{Tributary}
use Rattle.command_base.specs.Ends.{line_status}
use Rattle.otn_base.specs.declared.limits.TheConstants.{LINE_FRAME_BYTES, OTU2_SLOTS}
use Rattle.tributary_line.specs.TurnsDone.{MayFollow, bytes_read}
use Rattle.line_commands.specs.PullReport.{pull_report, LeavesBytes, StoppedInTurn}
use Rattle.command_base.specs.AnswerWords.{Reports}
use Rattle.port_base.specs.declared.ended.Ended.{Ended}
use Rattle.port_base.specs.declared.ended.Ended.TheVariants.{Done, Unfinished, Cut, ReportFault, Memory}

-- what an answer says of the bytes taken, and of all that may stand behind them
abbrev pub PullEnds : Ended → (more : Bool) → (read : List ℕ) → (now : InView) → Type 0
PullEnds Done more read now = (now.state ≢ Dead) × (more ≡ false) × (LeavesBytes read → ⊥)
    × (length read % LINE_FRAME_BYTES ≡ 0)
PullEnds Unfinished more read now = (now.state ≢ Dead)
    × ((rest : List ℕ) → MayFollow more rest → LeavesBytes (read ++ rest)) × (0 < length read % LINE_FRAME_BYTES)
PullEnds Cut more read now = now.state ≡ Dead
PullEnds ReportFault more read now = Unit {0}
PullEnds Memory more read now = ⊥

-- A command from the line and the report as they were to how they are. Where no more bytes may follow, a live line has
-- answered its end.
pub record PullEnded (own : Tributary) (first now : InView) (old new : Option (List ℕ)) (ended : Ended) : Type 0 where
  pub read : List ℕ
  pub gave : Gave first read now
  pub more : Bool
  pub over : more ≡ false → now.state ≡ Live → HasEnded now.left now.ended
  pub died : DiedUnended first now
  pub report : (rest : List ℕ) → MayFollow more rest
      → Reports (line_status ended) old new (pull_report own (read ++ rest))
  pub ends : PullEnds ended more read now
  pub took : ended ≢ ReportFault → (rest : List ℕ) → MayFollow more rest
      → length read ≡ bytes_read OTU2_SLOTS (read ++ rest)
  pub stopped : ended ≡ ReportFault → (t : ℕ)
      × ((rest : List ℕ) → MayFollow more rest → StoppedInTurn own (read ++ rest) (length read) t old new)
