-- Believed: what the turns of a line show of a tributary, and what a sink on it emits. The bytes are those of the line,
-- through its mask; a multiframe has as many frames as the line has slots.
use Rattle.std.specs.Prelude.{ℕ, zero, suc, ◌+◌, ◌%◌, List, [], ◌∷◌, length, map, Option, option_map}
use Rattle.std.specs.List.{range_with_len}
use Rattle.line_side.specs.LineFile.{frame_at, mfas_of}
use Rattle.maintenance_signals.specs.Stream.{signal_byte}
use Rattle.maintenance_signals.specs.declared.signal.Signal.TheVariants.{Ais}
use Rattle.multiframe.specs.LineTurns.{Lock, multiframe}
use Rattle.tributary_model.specs.Emission.{emission}
use Rattle.tributary_model.specs.Laws.{IsTributary}
use Rattle.tributary_model.specs.Places.{Tributary, Taken, View, turn_view, IsWholeTurn}

-- frame n, from 0, of a multiframe, with the MFAS that is expected of it, and all frames of a multiframe of so many
abbrev pub member_at : List ℕ → Lock → (n : ℕ) → Taken
member_at available lock n =
    record { frame = frame_at available (lock.frame + n); expected = (lock.expected + n) % 256 }

unfoldable pub frames_of : (size : ℕ) → List ℕ → Lock → List Taken
frames_of size available lock = map (member_at available lock) (range_with_len 0 size)

-- what turn t + 1 of a line of these bytes shows of a tributary: nothing where it has no multiframe
unfoldable pub view_at : Tributary → List ℕ → (t : ℕ) → Option View
view_at own available t = turn_view own (option_map (frames_of own.line_slots available)
    (multiframe own.line_slots (mfas_of available) t))

-- what the turns 1 to t show, the last first
unfoldable pub views_until : Tributary → List ℕ → (t : ℕ) → List (Option View)
views_until own available zero = []
views_until own available (suc t) = view_at own available t ∷ views_until own available t

-- what a sink that begins with turn 1 emits in turn t + 1
unfoldable pub emitted_at : Tributary → List ℕ → (t : ℕ) → List ℕ
emitted_at own available t = emission own (signal_byte Ais) (views_until own available t) (view_at own available t)

-- A turn with a multiframe shows every group.
abbrev pub ShowsWholeTurns : Type 0
ShowsWholeTurns = (own : Tributary) (available : List ℕ) (t : ℕ) → IsTributary own
    → IsWholeTurn (length own.slots) (view_at own available t)
