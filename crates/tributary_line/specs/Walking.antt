-- API: a walk along a line: what a turn of it does, what holds after the last one, and how it ends.
use Rattle.std.specs.Prelude.{◌≡◌, ◌≢◌, ◌⊎◌, ◌+◌, ◌%◌, ◌<◌, ◌≤◌, ℕ, nat_lt, not, ◌||◌, Bool, true, false, List, ◌++◌, length, Option, Some, None}
use Rattle.otn_base.specs.declared.limits.TheConstants.{LINE_FRAME_BYTES, MOST_TURNS}
use Rattle.port_base.specs.Asked.{ByteAsked, has_come}
use Rattle.port_base.specs.Given.{Gave, DiedUnended}
use Rattle.port_base.specs.Reads.{HasEnded}
use Rattle.port_base.specs.Views.{InView, Live, Dead, is_dead}
use Rattle.port_base.specs.declared.drain.Written.{Written}
use Rattle.port_base.specs.declared.drain.Written.TheVariants as written
use Rattle.port_base.specs.declared.ended.Ended.{Ended}
use Rattle.port_base.specs.declared.ended.Ended.TheVariants.{Done, Unfinished, Cut, ReportFault, Memory}
use Rattle.line_side.specs.LineFile.{mfas_of}
use Rattle.line_side.specs.LineForm.{LineForm, size_of, through_mask}
use Rattle.line_side.specs.LineStands.{LineView, LineStands}
use Rattle.line_side.specs.MayBe.{MayBe}
use Rattle.line_side.specs.Reader.{EndedAs}
use Rattle.line_side.specs.declared.ending.Ending.{Ending}
use Rattle.line_side.specs.declared.ending.Ending.TheVariants.{Open, Seen}
use Rattle.multiframe.specs.LineTurns.{line_state, has_ended}
use Rattle.tributary_line.specs.Settling.{ended_by}
use Rattle.tributary_line.specs.TurnsDone.{MayFollow, bytes_read}
use Rattle.tributary_line.specs.declared.walking.After.{After}
use Rattle.tributary_line.specs.declared.walking.After.TheVariants.{NextTurn, LineEnded, ReportFailed}

-- what is said of all bytes of a line, and of a number of turns
abbrev pub OfTurns : Type 1
OfTurns = (available : List ℕ) → (t : ℕ) → Type 0

-- The line stands between its turns, t of which went by, and these bytes were taken of its place: whatever else may
-- come, this holds.
pub record Walked (form : LineForm) (first now : InView) (read : List ℕ) (t : ℕ) (line : LineView)
    (Holds : OfTurns) : Type 0 where
  pub stands : LineStands form first now read t line
  pub between : line.pieces ≡ 0
  pub holds : (available : List ℕ) → MayBe form.scrambled line.reader.ending read available → Holds available t

-- ---- a turn

-- what holds after turn t + 1: it is done, or its write failed
abbrev pub TurnHolds : After → (Holds Lost : OfTurns) → OfTurns
TurnHolds NextTurn Holds Lost available t = Holds available (t + 1)
TurnHolds LineEnded Holds Lost available t = Holds available (t + 1)
TurnHolds ReportFailed Holds Lost available t = Lost available t

-- what comes after a turn, by how its write went and whether the line has ended
abbrev pub after_by : Written → (ended : Bool) → After
after_by written.Lost ended = ReportFailed
after_by written.Whole true = LineEnded
after_by written.Whole false = NextTurn

-- whether the line has ended, by what comes after a turn
abbrev pub EndsWith : After → (ended : Bool) → Type 0
EndsWith NextTurn ended = ended ≡ false
EndsWith LineEnded ended = ended ≡ true
EndsWith ReportFailed ended = Unit {0}

-- turn t + 1 went by, in which further bytes were taken
pub record TurnWalked (answer : After) (form : LineForm) (first now : InView) (read : List ℕ) (t : ℕ)
    (old new : LineView) (Holds Lost : OfTurns) : Type 0 where
  pub further : List ℕ
  pub stands : LineStands form first now (read ++ further) (t + 1) new
  pub between : new.pieces ≡ 0
  pub earlier : (available : List ℕ) → MayBe form.scrambled new.reader.ending (read ++ further) available
      → MayBe form.scrambled old.reader.ending read available
  pub holds : (available : List ℕ) → MayBe form.scrambled new.reader.ending (read ++ further) available
      → TurnHolds answer Holds Lost available t
  pub ended : (available : List ℕ) → MayBe form.scrambled new.reader.ending (read ++ further) available
      → EndsWith answer (has_ended (line_state (size_of form) (mfas_of available) (t + 1)))

-- ---- all turns

-- the line had not ended before turn t + 1, nor before any turn until then
abbrev pub GoesOn : LineForm → (available : List ℕ) → (t : ℕ) → Type 0
GoesOn form available t = (s : ℕ) → s < t → has_ended (line_state (size_of form) (mfas_of available) s) ≡ false

-- t turns were done: up to and with the one in which the line ended, 16,384 at most
pub record WalkDone (form : LineForm) (first now : InView) (t : ℕ) (line : LineView) (Holds : OfTurns)
    : Type 0 where
  pub read : List ℕ
  pub walked : Walked form first now read t line Holds
  pub few : t ≤ MOST_TURNS
  pub unended : (available : List ℕ) → MayBe form.scrambled line.reader.ending read available
      → GoesOn form available t
  pub last : (available : List ℕ) → MayBe form.scrambled line.reader.ending read available
      → (has_ended (line_state (size_of form) (mfas_of available) t) ≡ true) ⊎ (t ≡ MOST_TURNS)

-- a write of turn t + 1 failed, and ended the walk at once
pub record WalkLost (form : LineForm) (first now : InView) (line : LineView) (Lost : OfTurns) : Type 0 where
  pub read : List ℕ
  pub t : ℕ
  pub few : t < MOST_TURNS
  pub stands : LineStands form first now read (t + 1) line
  pub between : line.pieces ≡ 0
  pub unended : (available : List ℕ) → MayBe form.scrambled line.reader.ending read available
      → GoesOn form available (t + 1)
  pub lost : (available : List ℕ) → MayBe form.scrambled line.reader.ending read available → Lost available t

-- how a walk went, which answers how many turns were done, and nothing where a write failed
abbrev pub WalkWent : Option ℕ → LineForm → (first now : InView) → LineView → (Holds Lost : OfTurns) → Type 0
WalkWent (Some t) form first now line Holds Lost = WalkDone form first now t line Holds
WalkWent None form first now line Holds Lost = WalkLost form first now line Lost

-- ---- the end

-- How a walk ends after its last turn, of a line with so many bytes after its last whole frame, none where its end was
-- not seen: then its place was asked for one byte more.
pub record WalkEnds (end_seen : Bool) (rest : ℕ) (was now : InView) (ended : Ended) : Type 0 where
  pub further : List ℕ
  pub asked : ByteAsked (not end_seen) was now further
  pub answer : ended ≡ ended_by (is_dead now.state) (has_come further || nat_lt 0 rest)

-- bytes stand behind the last whole frame: the end of the place was seen, or where more may follow it was not
abbrev pub EndsBehind : (more : Bool) → Ending → Type 0
EndsBehind false ending = ending ≡ Seen
EndsBehind true ending = ending ≡ Open

-- What an answer says of the bytes taken: Done where the line has ended with a whole frame, Unfinished where bytes
-- stand behind its last whole frame or it has more than the turns take, and Cut where its place is dead.
abbrev pub LeftAs : Ended → Ending → (more : Bool) → (read : List ℕ) → (now : InView) → Type 0
LeftAs Done ending more read now = (now.state ≢ Dead) × (more ≡ false) × (length read % LINE_FRAME_BYTES ≡ 0)
LeftAs Unfinished ending more read now = (now.state ≢ Dead) × (0 < length read % LINE_FRAME_BYTES)
    × EndsBehind more ending
LeftAs Cut ending more read now = now.state ≡ Dead
LeftAs ReportFault ending more read now = Unit {0}
LeftAs Memory ending more read now = ⊥

-- A line from its place as it was to how it is, after a walk for which these bytes were `kept`, and perhaps one more
-- `read`. Where no more may follow, a live place has answered its end; a place that died had not answered it.
pub record LineLeft (form : LineForm) (first now : InView) (ending : Ending) (kept : List ℕ) (ended : Ended)
    : Type 0 where
  pub read : List ℕ
  pub gave : Gave first read now
  -- where a write failed nothing more was asked
  pub same : ended ≡ ReportFault → read ≡ kept
  pub more : Bool
  pub over : more ≡ false → now.state ≡ Live → HasEnded now.left now.ended
  pub died : DiedUnended first now
  pub ended_as : ended ≢ ReportFault → EndedAs ending now
  pub may : (rest : List ℕ) → MayFollow more rest
      → MayBe form.scrambled ending kept (through_mask form.scrambled (read ++ rest))
  pub ends : LeftAs ended ending more read now
  pub took : ended ≢ ReportFault → (rest : List ℕ) → MayFollow more rest
      → length read ≡ bytes_read (size_of form) (through_mask form.scrambled (read ++ rest))
