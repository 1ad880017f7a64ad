-- Believed: lines that agree on what a sink is to see of them.
use Rattle.std.specs.Prelude.{◌≡◌, ◌<◌, ◌+◌, ◌%◌, ℕ, List, Some}
use Rattle.line_side.specs.LineFile.{frame_at, mfas_of}
use Rattle.multiframe.specs.LineTurns.{Lock, multiframe}
use Rattle.tributary_model.specs.Laws.{IsTributary}
use Rattle.tributary_model.specs.Places.{Tributary, IsOwn, byte_at}
use Rattle.device_model.specs.LineViews.{view_at, emitted_at}

-- Two lines have as many whole frames, with the same MFAS bytes, and in each multiframe the same bytes at a tributary's
-- own places: the payload columns of its slots, JC1 to JC6 in the frame of the greatest of them, and its MSI bytes.
-- Frames that are lead-in or of a lost multiframe agree by their MFAS alone, and bytes after the last whole frame need
-- not agree.
pub record AgreeOnTributary (own : Tributary) (one other : List ℕ) : Type 0 where
  pub mfas : mfas_of one ≡ mfas_of other
  pub bytes : (t : ℕ) (lock : Lock) (n row column : ℕ) → multiframe own.line_slots (mfas_of one) t ≡ Some lock
      → n < own.line_slots → IsOwn own n ((lock.expected + n) % 256) row column
      → byte_at (frame_at one (lock.frame + n)) row column ≡ byte_at (frame_at other (lock.frame + n)) row column

-- Each turn shows the same of both, and its sink emits the same in it.
abbrev pub GivesTheSame : Type 0
GivesTheSame = (own : Tributary) (one other : List ℕ) (t : ℕ) → IsTributary own → AgreeOnTributary own one other
    → (view_at own one t ≡ view_at own other t) × (emitted_at own one t ≡ emitted_at own other t)
