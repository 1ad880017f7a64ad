-- Steps of `do_turn`, `take_frames` and others: a line with the tributaries that are watched on it, within a turn and
-- between turns.
use Rattle.std.specs.Prelude.{◌≡◌, ℕ, ◌+◌, Bool, true, false, List, [], ◌++◌, Some, map, slice_get}
use Rattle.std.specs.List.{flat_map}
use Rattle.port_base.specs.Views.{InView}
use Rattle.line_side.specs.LineForm.{LineForm, size_of}
use Rattle.line_side.specs.LineStands.{LineView, LineStands, frames_taken}
use Rattle.line_side.specs.MayBe.{MayBe}
use Rattle.tributary_model.specs.Places.{Taken, msi_in}
use Rattle.trib_sink.specs.Sink.{StandsAfter}
use Rattle.device_model.specs.TurnFrames.{frames_in}
use Rattle.line_view.specs.ViewText.{all_slots, msi_at_turn, seen_at, told_at, views_from}
use Rattle.line_view.specs.Steps.Watching.{begun, own_of, showing_of}
use Rattle.line_view.specs.declared.told.TurnSeen.{TurnSeen}
use Rattle.line_view.specs.declared.watched.Watched.{Watched}

-- how many frames a sink has taken of a turn, of these that came: none before its first turn
abbrev pub taken_by : (is_begun : Bool) → ℕ → ℕ
taken_by true n = n
taken_by false n = 0

-- and which
abbrev pub frames_by : (is_begun : Bool) → List Taken → List Taken
frames_by true frames = frames
frames_by false frames = []

-- its sink is one of such a line, and has taken as many frames as the line's turn, turn t + 1, has come to
pub record IsInStep (line : LineView) (t : ℕ) (one : Watched) : Type 0 where
  pub kind : one.sink.slots.kind ≡ line.kind
  pub taken : one.sink.taken ≡ taken_by (begun one t) (frames_taken line)
  pub port : one.port ≡ one.sink.port

-- its sink has seen the turns from its first to turn t, and of the next one the frames that so many pieces came to
abbrev pub HasSeen : LineForm → (available : List ℕ) → (t pieces : ℕ) → Watched → Type 0
HasSeen form available t pieces one =
    StandsAfter (own_of one) (views_from (own_of one) one.first available t)
    (frames_by (begun one t) (frames_in (size_of form) available t pieces)) one.sink

-- The line stands in turn t + 1, of whose place these bytes were taken: whatever else may come, each sink has seen the
-- turns before, and of this one the frames that its pieces took; and these are the MSI bytes of these frames.
pub record ViewStands (form : LineForm) (first now : InView) (read : List ℕ) (t : ℕ) (line : LineView)
    (watched : List Watched) (msi : List (ℕ × ℕ)) : Type 0 where
  pub line_is : LineStands form first now read t line
  pub step : (i : ℕ) (one : Watched) → slice_get watched i ≡ Some one → IsInStep line t one
  pub sinks : (available : List ℕ) → MayBe form.scrambled line.reader.ending read available → (i : ℕ) (one : Watched)
      → slice_get watched i ≡ Some one
      → HasSeen form available t line.pieces one
  pub msi_is : (available : List ℕ) → MayBe form.scrambled line.reader.ending read available
      → msi ≡ flat_map (msi_in (all_slots form)) (frames_in (size_of form) available t line.pieces)

-- some pieces of a turn went by
pub record ViewMoves (form : LineForm) (first now : InView) (read : List ℕ) (t : ℕ) (old new : LineView)
    (olds news : List Watched) (msi : List (ℕ × ℕ)) : Type 0 where
  pub further : List ℕ
  pub stands : ViewStands form first now (read ++ further) t new news msi
  pub earlier : (available : List ℕ) → MayBe form.scrambled new.reader.ending (read ++ further) available
      → MayBe form.scrambled old.reader.ending read available
  pub shows : map showing_of news ≡ map showing_of olds

-- turn t + 1 went by, and this was seen of the line
pub record TurnMoves (form : LineForm) (first now : InView) (read : List ℕ) (t : ℕ) (old new : LineView)
    (olds news : List Watched) (seen : TurnSeen) (msi : List (ℕ × ℕ)) : Type 0 where
  pub further : List ℕ
  pub stands : ViewStands form first now (read ++ further) (t + 1) new news []
  pub earlier : (available : List ℕ) → MayBe form.scrambled new.reader.ending (read ++ further) available
      → MayBe form.scrambled old.reader.ending read available
  pub shows : map showing_of news ≡ map showing_of olds
  pub seen_is : (available : List ℕ) → MayBe form.scrambled new.reader.ending (read ++ further) available
      → seen ≡ seen_at form available t
  pub msi_is : (available : List ℕ) → MayBe form.scrambled new.reader.ending (read ++ further) available
      → msi ≡ msi_at_turn form available t
  pub told : (available : List ℕ) → MayBe form.scrambled new.reader.ending (read ++ further) available
      → (i : ℕ) (one : Watched)
      → slice_get news i ≡ Some one
      → begun one t ≡ true → one.told ≡ told_at (own_of one) one.first available t
