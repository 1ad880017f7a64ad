-- Steps of `write_text`, `turn` and others: what private contracts alone cite, beside the definitions of `ViewRuns`.
use Rattle.std.specs.Prelude.{◌≡◌, ◌+◌, ◌*◌, if◌then◌else◌, ℕ, List, [], ◌++◌, Some, flat_map, map, slice_get, vec_len}
use Rattle.otn_base.specs.declared.limits.TheConstants.{GROUPS, MOST_SLOTS}
use Rattle.port_base.specs.PortViews.{SinkView, SinkWrites}
use Rattle.port_base.specs.Views.{InView}
use Rattle.port_base.specs.declared.drain.Written.TheVariants as written
use Rattle.line_side.specs.LineForm.{LineForm, size_of}
use Rattle.tributary_model.specs.Places.{msi_in}
use Rattle.device_model.specs.TurnFrames.{frames_in}
use Rattle.line_view.specs.ViewText.{Showing, all_slots, is_shown, turn_line, msi_line, tributary_line, turn_text, text_until}
use Rattle.line_view.specs.Steps.Viewing.{ViewStands, IsInStep, HasSeen}
use Rattle.line_view.specs.Steps.Watching.{showing_of}
use Rattle.line_view.specs.declared.told.TurnSeen.{TurnSeen}
use Rattle.line_view.specs.declared.viewing.Viewing.{Viewing}
use Rattle.line_view.specs.declared.watched.Watched.{Watched}

-- the line of a tributary in turn t + 1, where that is one of its turns
abbrev pub watched_line : (t : ℕ) → Watched → List ℕ
watched_line t one = if is_shown (showing_of one) t
    then tributary_line one.name.bytes one.port one.sink.slots.list one.told else []

-- the lines of turn t + 1: its own, one of each MSI byte, and one of each tributary that is shown in it
unfoldable pub lines_of : (t : ℕ) → TurnSeen → (msi : List (ℕ × ℕ)) → List Watched → List ℕ
lines_of t seen msi watched = turn_line (t + 1) seen ++ (flat_map msi_line msi ++ flat_map (watched_line t) watched)

-- what is fixed of its line
abbrev pub form_in : Viewing → LineForm
form_in viewing = record { kind = viewing.kind; scrambled = viewing.scrambled }

-- the tributaries that it shows
abbrev pub shows_in : Viewing → List Showing
shows_in viewing = map showing_of viewing.watched.items

-- it stands between turns, with room for what a sink emits in one
pub record IsReady (viewing : Viewing) : Type 0 where
  pub kind : viewing.line.kind ≡ viewing.kind
  pub between : viewing.line.pieces ≡ 0
  pub room : vec_len viewing.room ≡ MOST_SLOTS * (GROUPS + 1)

-- it stands before the first turn of its line
abbrev pub IsNew : Viewing → Type 0
IsNew viewing = (first : InView) → ViewStands (form_in viewing) first first [] 0 viewing.line viewing.watched.items []

-- after t turns of a line of these bytes: the sinks have seen them, and the text up to there is written
pub record ViewHolds (origin now : Viewing) (was is : SinkView) (available : List ℕ) (t : ℕ) : Type 0 where
  pub step : (i : ℕ) (one : Watched) → slice_get now.watched.items i ≡ Some one → IsInStep now.line t one
  pub sinks : (i : ℕ) (one : Watched) → slice_get now.watched.items i ≡ Some one
      → HasSeen (form_in origin) available t now.line.pieces one
  pub msi : [] ≡ flat_map (msi_in (all_slots (form_in origin)))
      (frames_in (size_of (form_in origin)) available t now.line.pieces)
  pub shows : shows_in now ≡ shows_in origin
  pub wrote : SinkWrites written.Whole was (text_until (form_in origin) (shows_in origin) available t) is

-- after t turns and one whose text was written in part
pub record ViewLost (origin now : Viewing) (was is : SinkView) (available : List ℕ) (t : ℕ) : Type 0 where
  pub between : SinkView
  pub wrote : SinkWrites written.Whole was (text_until (form_in origin) (shows_in origin) available t) between
  pub lost : SinkWrites written.Lost between (turn_text (form_in origin) (shows_in origin) available t) is
