-- Steps of `new_watched`, `take_each` and others: what private contracts alone cite, beside the definitions of
-- `Watching`.
use Rattle.std.specs.Prelude.{◌≡◌, ◌<◌, ◌+◌, ℕ, List, [], ◌∷◌, ◌++◌, Bool, true, false, IsTrue, Option, Some, length, slice_get}
use Rattle.otn_base.specs.LineSlots.{slots_of}
use Rattle.tributary_model.specs.Places.{Tributary, Taken, View, tributary_of}
use Rattle.trib_sink.specs.Sink.{StandsAfter, ended_view}
use Rattle.line_view.specs.ViewText.{Showing, has_begun, told_of}
use Rattle.line_view.specs.declared.shown.Shown.{Shown}
use Rattle.line_view.specs.declared.watched.Watched.{Watched}
use Rattle.line_view.specs.Watching.{asked_of}

-- the tributary that is watched
abbrev pub own_of : Watched → Tributary
own_of one = tributary_of one.sink.slots one.sink.port

-- with its name and its turns
abbrev pub showing_of : Watched → Showing
showing_of one = record { name = one.name.bytes; own = own_of one; first = one.first; stop = one.stop }

-- whether its first turn is turn t + 1, or before it
abbrev pub begun : Watched → (t : ℕ) → Bool
begun one t = has_begun (showing_of one) t

-- it is watched from before the line's first turn on
pub record IsNew (shown : Shown) (one : Watched) : Type 0 where
  pub showing : showing_of one ≡ asked_of shown
  pub port : one.port ≡ one.sink.port
  pub stands : StandsAfter (own_of one) [] [] one.sink
  pub taken : one.sink.taken ≡ 0
  pub kind : one.sink.slots.kind ≡ shown.slots.kind

-- the same tributary is watched
pub record IsSame (old new : Watched) : Type 0 where
  pub slots : new.sink.slots ≡ old.sink.slots
  pub sink_port : new.sink.port ≡ old.sink.port
  pub port : new.port ≡ old.port
  pub name : new.name ≡ old.name
  pub first : new.first ≡ old.first
  pub stop : new.stop ≡ old.stop

-- A frame of turn t + 1 came. Its sink took it, where the turn has not all of its frames; before its first turn the
-- sink is as it was.
pub record TookFrame (t : ℕ) (frame : Taken) (old new : Watched) : Type 0 where
  pub same : IsSame old new
  pub waits : begun old t ≡ false → new.sink ≡ old.sink
  pub count : begun old t ≡ true → old.sink.taken < slots_of old.sink.slots.kind → new.sink.taken ≡ old.sink.taken + 1
  pub stands : begun old t ≡ true → old.sink.taken < slots_of old.sink.slots.kind
      → (own : Tributary) (past : List (Option View)) (frames : List Taken)
      → StandsAfter own past frames old.sink → StandsAfter own past (frames ++ frame ∷ []) new.sink

-- Turn t + 1 ended, which has its multiframe or not. Its sink ended it too, and this is what the turn says; before its
-- first turn the sink is as it was.
pub record EndedTurn (t : ℕ) (whole : Bool) (old new : Watched) : Type 0 where
  pub same : IsSame old new
  pub waits : begun old t ≡ false → new.sink ≡ old.sink
  pub count : begun old t ≡ true → new.sink.taken ≡ 0
  pub stands : begun old t ≡ true → (IsTrue whole → old.sink.taken ≡ slots_of old.sink.slots.kind)
      → (own : Tributary) (past : List (Option View)) (frames : List Taken)
      → StandsAfter own past frames old.sink → StandsAfter own (ended_view own whole frames ∷ past) [] new.sink
  pub told : begun old t ≡ true → (IsTrue whole → old.sink.taken ≡ slots_of old.sink.slots.kind)
      → (own : Tributary) (past : List (Option View)) (frames : List Taken)
      → StandsAfter own past frames old.sink → new.told ≡ told_of own past (ended_view own whole frames)

-- each of them went from what it was to what it is in this way
pub record EachWatched (Goes : Watched → Watched → Type 0) (olds news : List Watched) : Type 0 where
  pub count : length news ≡ length olds
  pub each : (i : ℕ) (old new : Watched) → slice_get olds i ≡ Some old → slice_get news i ≡ Some new → Goes old new

-- they are watched on a line of this kind, each of those asked for by its number
pub record AreNew (shown : List Shown) (watched : List Watched) : Type 0 where
  pub count : length watched ≡ length shown
  pub each : (i : ℕ) (one : Watched) → slice_get watched i ≡ Some one → (asked : Shown) → slice_get shown i ≡ Some asked
      → IsNew asked one
