-- Believed: what `pull` writes, of an OTU2 line.
use Rattle.std.specs.Prelude.{◌≡◌, ℕ, ◌+◌, ◌*◌, ◌<◌, ◌≤◌, min, false, List, Option, length}
use Rattle.std.specs.List.{flat_map, range_with_len}
use Rattle.line_side.specs.LineFile.{mfas_of}
use Rattle.multiframe.specs.LineTurns.{line_state, has_ended}
use Rattle.otn_base.specs.declared.limits.TheConstants.{LINE_FRAME_BYTES, MOST_TURNS, OTU2_SLOTS}
use Rattle.tributary_model.specs.Places.{Tributary}
use Rattle.device_model.specs.LineViews.{emitted_at}
use Rattle.port_base.specs.Bytes.{after}
use Rattle.command_base.specs.Gains.{GainsPart}
use Rattle.tributary_line.specs.TurnsDone.{bytes_wanted, frames_wanted, turns_of}

-- the tributary of a port, from 1, and of slots of an OTU2 line
abbrev pub tributary : (port : ℕ) → (slots : List ℕ) → Tributary
tributary port slots = record { line_slots = OTU2_SLOTS; slots = slots; port = port }

-- what the sink emits in the turns 1 to t, in order
abbrev pub emitted_until : Tributary → List ℕ → (t : ℕ) → List ℕ
emitted_until own available t = flat_map (emitted_at own available) (range_with_len 0 t)

-- what `pull` writes where a line gives these bytes: what the sink emits in each of these turns, in order
unfoldable pub pull_report : Tributary → List ℕ → List ℕ
pull_report own available = flat_map (emitted_at own available)
    (turns_of OTU2_SLOTS (mfas_of available))

-- Bytes stand after the whole frames that these turns wanted. Where the line has ended that is all whole frames, so
-- that the bytes are its rest. A frame that a hunt only looked ahead at counts as wanted.
abbrev pub LeavesBytes : List ℕ → Type 0
LeavesBytes available =
    LINE_FRAME_BYTES * min (length (mfas_of available)) (frames_wanted OTU2_SLOTS available) < length available

-- A write failed, and ended the command at once: of a line of these bytes so many were taken, all that the turns up to
-- turn t + 1 want. The report gained what the sink emits in the turns before this one, and of what it emits in this one
-- a part, from the front, and not all.
pub record StoppedInTurn (own : Tributary) (available : List ℕ) (count t : ℕ) (old new : Option (List ℕ)) : Type 0 where
  pub few : t < MOST_TURNS
  pub unended : (s : ℕ) → s ≤ t → has_ended (line_state OTU2_SLOTS (mfas_of available) s) ≡ false
  pub last : count ≡ bytes_wanted OTU2_SLOTS available (t + 1)
  pub gained : GainsPart (after old (emitted_until own available t)) new (emitted_at own available t)
