-- Believed: which turns of a line are done by a command that goes along it, and how much it takes of the line for that.
use Rattle.std.specs.Prelude.{◌≡◌, ℕ, ◌+◌, ◌*◌, min, not, Bool, true, false, List, [], length, filter}
use Rattle.std.specs.List.{range_with_len}
use Rattle.otn_base.specs.declared.limits.TheConstants.{LINE_FRAME_BYTES, MOST_TURNS}
use Rattle.line_side.specs.LineFile.{mfas_of}
use Rattle.multiframe.specs.LineTurns.{line_state, wanted, has_ended}

-- The turns that are done, each said by the number of turns before it: 16,384 at most, and none after the one in which
-- the line ended. The list has the MFAS bytes of the line's whole frames; a multiframe has `size` of them.
unfoldable pub turns_of : (size : ℕ) → (mfas : List ℕ) → List ℕ
turns_of size ms = filter (λ t. not (has_ended (line_state size ms t))) (range_with_len 0 MOST_TURNS)

-- how many frames these turns want: all that their rule looks at, those among them that are not whole included
abbrev pub frames_wanted : (size : ℕ) → (available : List ℕ) → ℕ
frames_wanted size available = wanted size (mfas_of available) (length (turns_of size (mfas_of available)))

-- how many bytes are taken of a line: these frames and the one byte more that is asked for, or all where there are
-- fewer
abbrev pub bytes_read : (size : ℕ) → (available : List ℕ) → ℕ
bytes_read size available = min (length available) (LINE_FRAME_BYTES * frames_wanted size available + 1)

-- how many bytes the first t turns want of a line, or all where there are fewer
abbrev pub bytes_wanted : (size : ℕ) → (available : List ℕ) → (t : ℕ) → ℕ
bytes_wanted size available t = min (length available) (LINE_FRAME_BYTES * wanted size (mfas_of available) t)

-- what may still stand behind the bytes taken: anything where there may be more, else nothing
abbrev pub MayFollow : (more : Bool) → (rest : List ℕ) → Type 0
MayFollow true rest = Unit {0}
MayFollow false rest = rest ≡ []
