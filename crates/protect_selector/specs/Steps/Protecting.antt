-- Steps of `run_turns`, `new` and others: what private contracts alone cite, beside the definitions of `Protecting`.
use Rattle.std.specs.Prelude.{◌≡◌, ◌<◌, ℕ, suc, Bool, false, not, ◌||◌, List, ◌++◌, length, take}
use Rattle.otn_base.specs.declared.line_kind.LineKind.TheVariants.{Otu2}
use Rattle.port_base.specs.PortViews.{SinkGot}
use Rattle.port_base.specs.declared.drain.Written.{Written}
use Rattle.port_base.specs.declared.drain.Written.TheVariants as written
use Rattle.port_base.specs.Asked.{ByteAsked, has_come}
use Rattle.port_base.specs.Views.{is_dead}
use Rattle.device_model.specs.LineAsked.{is_seen}
use Rattle.port_base.specs.declared.ended.Ended.{Ended}
use Rattle.line_side.specs.MayBe.{MayBe}
use Rattle.tributary_model.specs.Laws.{IsTributary}
use Rattle.tributary_model.specs.Places.{Tributary}
use Rattle.tributary_line.specs.TapTurn.{TapStands, IsBetweenTurns}
use Rattle.tributary_line.specs.FeedTurn.{FeedStands}
use Rattle.tributary_line.specs.Settling.{ended_by}
use Rattle.protect_selector.specs.Selector.{HasChosen}
use Rattle.protect_selector.specs.OfLines.{turns_before, due_before, switch_text, switch_text_at}
use Rattle.protect_selector.specs.declared.protecting.Protecting.{Protecting}
use Rattle.protect_selector.specs.Protecting.{Ends}

-- After t turns of lines of these bytes: which choices were made, what was given on, and what was told.
pub record AgreesAfter (own : Tributary) (n t : ℕ) (first now : Ends) (w p : List ℕ) (parts : Protecting) : Type 0 where
  pub chosen : HasChosen (length own.slots) n (turns_before own w p t) parts.selector
  pub fed : FeedStands own first.output now.output (due_before own n w p t) parts.feed
  pub told : SinkGot first.report (switch_text own n w p t) now.report

-- In turn t + 1 the report failed at the line of a switch, of which it got a part.
pub record AgreesLost (own : Tributary) (n t : ℕ) (first now : Ends) (w p : List ℕ) (parts : Protecting) : Type 0 where
  pub fed : FeedStands own first.output now.output (due_before own n w p t) parts.feed
  pub sent : ℕ
  pub part : sent < length (switch_text_at own n w p t)
  pub told : SinkGot first.report (switch_text own n w p t ++ take sent (switch_text_at own n w p t)) now.report

-- The sinks have seen t turns of their lines, of which these bytes were taken: whatever else may come, this holds of
-- all bytes of both.
pub record Seen (own : Tributary) (first now : Ends) (working protection : List ℕ) (t : ℕ) (parts : Protecting)
    (Holds : (w p : List ℕ) → Type 0) : Type 0 where
  pub on_working : TapStands own first.working now.working working t parts.working
  pub on_protection : TapStands own first.protection now.protection protection t parts.protection
  pub holds : (w p : List ℕ) → MayBe false parts.working.line.reader.ending working w
      → MayBe false parts.protection.line.reader.ending protection p → Holds w p

-- after t turns, and after a turn in which the report failed
abbrev pub Stands : Tributary → (n : ℕ) → (first now : Ends) → (working protection : List ℕ) → (t : ℕ) → Protecting
    → Type 0
Stands own n first now working protection t parts = Seen own first now working protection t parts
    (λ w p. AgreesAfter own n t first now w p parts)

abbrev pub StandsLost : Tributary → (n : ℕ) → (first now : Ends) → (working protection : List ℕ) → (t : ℕ) → Protecting
    → Type 0
StandsLost own n first now working protection t parts = Seen own first now working protection (suc t) parts
    (λ w p. AgreesLost own n t first now w p parts)

-- both sinks stand between turns, and are of as many slots as the source, all on plain OTU2 lines
pub record AreReady (parts : Protecting) : Type 0 where
  pub working : IsBetweenTurns parts.working
  pub protection : IsBetweenTurns parts.protection
  pub working_slots : parts.working.sink.slots ≡ parts.feed.source.slots
  pub protection_slots : parts.protection.sink.slots ≡ parts.feed.source.slots
  pub plain : parts.feed.source.slots.kind ≡ Otu2

-- how turn t + 1 leaves the parts: done, or with a report that failed
abbrev pub LeftBy : Written → Tributary → (n : ℕ) → (first now : Ends) → (working protection : List ℕ) → (t : ℕ)
    → Protecting → Type 0
LeftBy written.Whole own n first now working protection t parts = Stands own n first now working protection
    (suc t) parts
LeftBy written.Lost own n first now working protection t parts = StandsLost own n first now working protection t parts

-- turn t + 1, with the bytes that were taken in it
pub record TurnGone (result : Written) (own : Tributary) (n : ℕ) (first now : Ends) (working protection : List ℕ)
    (t : ℕ) (parts : Protecting) : Type 0 where
  pub working_further : List ℕ
  pub protection_further : List ℕ
  pub left : LeftBy result own n first now (working ++ working_further) (protection ++ protection_further) t parts

-- What holds of parts of a tributary that stand after t turns with these ends: of how long they wait, of what the ends
-- were first, and of the bytes that were taken of both lines.
abbrev pub OfTheirLines : (now : Ends) → (t : ℕ) → Protecting
    → ((own : Tributary) → (n : ℕ) → (first : Ends) → (working protection : List ℕ) → Type 0) → Type 0
OfTheirLines now t parts Holds = (own : Tributary) (n : ℕ) (first : Ends) (working protection : List ℕ)
    → IsTributary own → Stands own n first now working protection t parts → Holds own n first working protection

-- the first t turns went by, in which these bytes were taken
pub record TurnsGone (own : Tributary) (n : ℕ) (first now : Ends) (t : ℕ) (parts : Protecting) : Type 0 where
  pub working : List ℕ
  pub protection : List ℕ
  pub stands : Stands own n first now working protection t parts

-- a place of the command is dead
abbrev pub has_dead : Ends → Bool
has_dead ends = is_dead ends.working.state || is_dead ends.protection.state || is_dead ends.output.state

-- after the last turn: both lines were asked for a byte more, where their end was not seen
pub record SettledAs (parts : Protecting) (was is : Ends) (ended : Ended) : Type 0 where
  pub working_further : List ℕ
  pub working_asked : ByteAsked (not (is_seen parts.working.line.reader.ending)) was.working is.working working_further
  pub protection_further : List ℕ
  pub protection_asked : ByteAsked (not (is_seen parts.protection.line.reader.ending)) was.protection is.protection
      protection_further
  pub output : is.output ≡ was.output
  pub report : is.report ≡ was.report
  pub answer : ended ≡ ended_by (has_dead is) (has_come working_further || has_come protection_further)
