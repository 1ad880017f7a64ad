-- API: a sink on a line, within a turn and between turns.
use Rattle.std.specs.Prelude.{◌≡◌, ℕ, ◌+◌, false, List, ◌++◌}
use Rattle.otn_base.specs.declared.limits.TheConstants.{OTU2_SLOTS}
use Rattle.otn_base.specs.declared.line_kind.LineKind.TheVariants.{Otu2}
use Rattle.port_base.specs.Views.{InView}
use Rattle.line_side.specs.LineFile.{mfas_of}
use Rattle.line_side.specs.LineForm.{plain_otu2}
use Rattle.line_side.specs.LineStands.{LineView, LineStands, frames_taken}
use Rattle.line_side.specs.MayBe.{MayBe}
use Rattle.multiframe.specs.LineTurns.{line_state, has_ended}
use Rattle.tributary_model.specs.Places.{Tributary}
use Rattle.trib_sink.specs.Sink.{Sink, StandsAfter}
use Rattle.device_model.specs.LineViews.{views_until, emitted_at}
use Rattle.device_model.specs.TurnFrames.{frames_in}

-- what is seen of it: the line, and the sink
pub record TapView : Type 0 where
  pub line : LineView
  pub sink : Sink

-- The sink stands in turn t + 1 of its line, of whose place these bytes were taken: whatever else may come, it has seen
-- the turns before, and of this one the frames that its pieces took.
pub record TapStands (own : Tributary) (first now : InView) (read : List ℕ) (t : ℕ) (tap : TapView) : Type 0 where
  pub size : own.line_slots ≡ OTU2_SLOTS
  pub line : LineStands plain_otu2 first now read t tap.line
  pub sink : (available : List ℕ) → MayBe false tap.line.reader.ending read available
      → StandsAfter own (views_until own available t) (frames_in OTU2_SLOTS available t tap.line.pieces) tap.sink

-- What holds of a tap in the turn in which it stands, t + 1, whichever that is and whatever its line may turn out to
-- have: `available` are all bytes of the line.
abbrev pub OfItsTurn : TapView → ((own : Tributary) → (available : List ℕ) → (t : ℕ) → Type 0) → Type 0
OfItsTurn tap Holds = (own : Tributary) (first now : InView) (read : List ℕ) (t : ℕ)
    → TapStands own first now read t tap
    → (available : List ℕ) → MayBe false tap.line.reader.ending read available → Holds own available t

-- the line is an OTU2 line, the sink one of such a line, and as many frames were taken by it as the line's turn has
-- come to
pub record IsInStep (n : ℕ) (tap : TapView) : Type 0 where
  pub line : tap.line.kind ≡ Otu2
  pub sink : tap.sink.slots.kind ≡ Otu2
  pub taken : n ≡ tap.sink.taken
  pub frames_taken : frames_taken tap.line ≡ n

-- no piece of the next turn is done
pub record IsBetweenTurns (tap : TapView) : Type 0 where
  pub pieces : tap.line.pieces ≡ 0
  pub step : IsInStep 0 tap

-- turn t + 1 went by, and emitted these bytes
pub record TurnMoves (own : Tributary) (first now : InView) (read : List ℕ) (t : ℕ) (old new : TapView)
    (emitted : List ℕ) : Type 0 where
  pub further : List ℕ
  pub stands : TapStands own first now (read ++ further) (t + 1) new
  pub earlier : (available : List ℕ) → MayBe false new.line.reader.ending (read ++ further) available
      → MayBe false old.line.reader.ending read available
  pub emits : (available : List ℕ) → MayBe false new.line.reader.ending (read ++ further) available
      → emitted ≡ emitted_at own available t
  pub ended : (available : List ℕ) → MayBe false new.line.reader.ending (read ++ further) available
      → new.line.ended ≡ has_ended (line_state OTU2_SLOTS (mfas_of available) (t + 1))
