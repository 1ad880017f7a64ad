-- API: how a view goes: what it took of its line, what its report gained, and why it ended.
use Rattle.std.specs.Prelude.{◌≡◌, ◌≢◌, ◌≤◌, ◌+◌, ◌*◌, ◌==◌, if◌then◌else◌, min, ℕ, zero, suc, Bool, false, List, [], ◌++◌, length}
use Rattle.otn_base.specs.declared.limits.TheConstants.{LINE_FRAME_BYTES}
use Rattle.port_base.specs.Given.{Gave}
use Rattle.port_base.specs.PortViews.{SinkView, SinkWrites}
use Rattle.port_base.specs.Reads.{HasEnded}
use Rattle.port_base.specs.Views.{InView, Live}
use Rattle.port_base.specs.declared.drain.Written.{Written}
use Rattle.port_base.specs.declared.drain.Written.TheVariants as written
use Rattle.port_base.specs.declared.ended.Ended.{Ended}
use Rattle.port_base.specs.declared.ended.Ended.TheVariants.{Done, Unfinished, Cut, ReportFault, Memory}
use Rattle.line_side.specs.LineFile.{mfas_of}
use Rattle.line_side.specs.LineForm.{LineForm, size_of, through_mask}
use Rattle.line_side.specs.Reader.{EndedAs, rest_of}
use Rattle.line_side.specs.declared.ending.Ending.{Ending}
use Rattle.multiframe.specs.LineTurns.{wanted}
use Rattle.tributary_line.specs.TurnsDone.{MayFollow, bytes_read, turns_of}
use Rattle.tributary_line.specs.Walking.{LeftAs}
use Rattle.line_view.specs.ViewText.{Showing, view_text, text_until, turn_text, head_line, end_line}

-- whether the report was written whole
abbrev pub written_of : Ended → Written
written_of ReportFault = written.Lost
written_of Done = written.Whole
written_of Unfinished = written.Whole
written_of Cut = written.Whole
written_of Memory = written.Whole

-- ---- a write that failed

-- The text is written in parts: the line of the line is part 0, the lines of turn t are part t, and the last line is
-- the part behind those of all turns. How many turns a view of a line of these bytes tells.
abbrev pub turn_count : (size : ℕ) → (available : List ℕ) → ℕ
turn_count size available = length (turns_of size (mfas_of available))

-- the text before a part
abbrev pub text_before : LineForm → List Showing → (available : List ℕ) → (part : ℕ) → List ℕ
text_before form shows available zero = []
text_before form shows available (suc t) = text_until form shows available t

-- a part
abbrev pub text_part : LineForm → List Showing → Ending → (available : List ℕ) → (part : ℕ) → List ℕ
text_part form shows ending available zero = head_line form.kind form.scrambled
text_part form shows ending available (suc t) =
    if t == turn_count (size_of form) available then end_line t
    (rest_of ending available) else turn_text form shows available t

-- A write failed: the parts before this one were written, and of it a part from the front. Of the line were taken all
-- bytes that the turns want that were told up to then, the turn of this part among them, or all that there are.
pub record WriteFailed (form : LineForm) (shows : List Showing) (ending : Ending) (available read : List ℕ)
    (old new : SinkView) : Type 0 where
  pub part : ℕ
  pub few : part ≤ turn_count (size_of form) available + 1
  pub took : length read ≡ min (length available)
      (LINE_FRAME_BYTES * wanted (size_of form) (mfas_of available) (min part (turn_count (size_of form) available)))
  pub between : SinkView
  pub wrote : SinkWrites written.Whole old (text_before form shows available part) between
  pub lost : SinkWrites written.Lost between (text_part form shows ending available part) new

-- ---- how a view ends

-- A view from the line and the report as they were to how they are. Where no more bytes may follow, a live line has
-- answered its end. The report gained the text of the view, all of it or, where a write failed, a part of it from the
-- front.
pub record ViewEnded (form : LineForm) (shows : List Showing) (first now : InView) (old new : SinkView)
    (ended : Ended) : Type 0 where
  pub read : List ℕ
  pub gave : Gave first read now
  pub more : Bool
  pub over : more ≡ false → now.state ≡ Live → HasEnded now.left now.ended
  pub ending : Ending
  pub ended_as : ended ≢ ReportFault → EndedAs ending now
  pub report : (rest : List ℕ) → MayFollow more rest
      → SinkWrites (written_of ended) old (view_text form shows ending (through_mask form.scrambled (read ++ rest)))
      new
  pub ends : LeftAs ended ending more read now
  pub took : ended ≢ ReportFault → (rest : List ℕ) → MayFollow more rest
      → length read ≡ bytes_read (size_of form) (through_mask form.scrambled (read ++ rest))
  pub failed : ended ≡ ReportFault → (rest : List ℕ) → MayFollow more rest
      → WriteFailed form shows ending (through_mask form.scrambled (read ++ rest)) read old new
