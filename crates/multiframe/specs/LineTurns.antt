-- Believed: the turns of a line. A turn is one multiframe of the line, found by the multiframe alignment signal (MFAS,
-- the byte in row 1, column 7; G.709 clause 15.6). In all that follows `size` is the number of frames of a multiframe,
-- and `ms` the list of the MFAS bytes of the line's whole frames, which count from 0. Turns count from 1. A name in
-- `_in` is of the first k pieces of a turn, in `_of` of a whole turn by the state before it, in `_so_far` of the turns
-- 1 to t and k pieces more; `_at`, `_from` and `_by` are cases of these.
use Rattle.std.specs.Prelude.{ℕ, zero, suc, ◌+◌, ◌-◌, ◌*◌, ◌/◌, ◌%◌, min, max, Bool, true, false, ◌&&◌, ◌==◌, nat_lt, nat_le, if◌then◌else◌, List, [], ◌∷◌, length, take, drop, slice_index, Option, Some, None, unwrap_or}

-- a multiframe may begin with a frame of this MFAS where the next frame has that one: the first is a multiple of the
-- number of frames of a multiframe, and the second one more
abbrev pub starts : ℕ → (first second : ℕ) → Bool
starts size first second = (first % size == 0) && (second == first + 1)

-- a multiframe may begin at frame f: f and the next frame are whole, and their MFAS bytes are so
abbrev pub is_start : ℕ → List ℕ → ℕ → Bool
is_start size ms f = nat_lt (f + 1) (length ms) && starts size (slice_index ms f) (slice_index ms (f + 1))

-- the least n below k such that a multiframe may begin at frame i + n: the one found so far, or else the next
abbrev pub least_or : Option ℕ → Bool → ℕ → Option ℕ
least_or (Some n) here k = Some n
least_or None true k = Some k
least_or None false k = None

unfoldable pub least_start : ℕ → List ℕ → ℕ → ℕ → Option ℕ
least_start size ms i zero = None
least_start size ms i (suc k) = least_or (least_start size ms i k) (is_start size ms (i + k)) k

-- multiframe alignment: a frame, and the MFAS that is expected in it. Of a turn, the frame at which its multiframe
-- starts; of a piece (TurnPieces), the frame to which it came
pub record Lock : Type 0 where
  pub frame : ℕ
  pub expected : ℕ

-- the state of a line before a turn: it hunts from a frame on, is locked, or has ended
pub data LineState : Type 0 where
  Hunting : ℕ → LineState
  Locked : Lock → LineState
  Ended : LineState

-- whether it has ended
abbrev pub has_ended : LineState → Bool
has_ended (Hunting i) = false
has_ended (Locked lock) = false
has_ended Ended = true

-- locked at frame i + n, with that frame's own MFAS as the expected one; not locked where there is no n
abbrev pub lock_from : List ℕ → ℕ → Option ℕ → Option Lock
lock_from ms i None = None
lock_from ms i (Some n) = Some (record { frame = i + n; expected = slice_index ms (i + n) })

-- where a turn is locked: the first frame of its multiframe. A turn that hunts at i locks at the first of the frames
-- i to i + size - 1 at which a multiframe may begin
abbrev pub lock_of : ℕ → List ℕ → LineState → Option Lock
lock_of size ms (Hunting i) = lock_from ms i (least_start size ms i size)
lock_of size ms (Locked lock) = Some lock
lock_of size ms Ended = None

-- 1 where it is so, else 0
abbrev pub one_if : Bool → ℕ
one_if so = if so then 1 else 0

-- how many of these MFAS bytes, those of frames in a row, differ from the expected ones: e, e + 1 and so on, modulo 256
abbrev pub wrong_count : ℕ → List ℕ → ℕ
wrong_count e [] = 0
wrong_count e (m ∷ ms) = (if m == e % 256 then 0 else 1) + wrong_count (e + 1) ms

-- what becomes of a turn that is locked: the line ends within it, its multiframe is lost, or it has its multiframe
pub data Outcome : Type 0 where
  CutShort : Outcome
  Lost : Outcome
  Whole : Outcome

-- the line ends before the multiframe's last frame; else more than half of the MFAS bytes differ; else it is there
abbrev pub outcome_of : ℕ → List ℕ → Lock → Outcome
outcome_of size ms lock = if nat_lt (length ms) (lock.frame + size) then CutShort
    else (if nat_lt (size / 2) (wrong_count lock.expected (take size (drop lock.frame ms))) then Lost else Whole)

-- the state of a line after a locked turn: ended; hunting from behind the lost multiframe on; or locked at the frame
-- behind its multiframe
abbrev pub after_outcome : ℕ → Lock → Outcome → LineState
after_outcome size lock CutShort = Ended
after_outcome size lock Lost = Hunting (lock.frame + size)
after_outcome size lock Whole = Locked (record { frame = lock.frame + size; expected = (lock.expected + size) % 256 })

-- the state of a line after a turn, by the one before it: as the outcome of its lock says. A turn that hunted at i
-- without a lock hunts size frames further on, or has ended
abbrev pub after_hunt : ℕ → List ℕ → ℕ → Option Lock → LineState
after_hunt size ms i (Some lock) = after_outcome size lock (outcome_of size ms lock)
after_hunt size ms i None = if nat_le (i + size) (length ms) then Hunting (i + size) else Ended

abbrev pub after_turn : ℕ → List ℕ → LineState → LineState
after_turn size ms (Hunting i) = after_hunt size ms i (lock_of size ms (Hunting i))
after_turn size ms (Locked lock) = after_outcome size lock (outcome_of size ms lock)
after_turn size ms Ended = Ended

-- the state of a line after t turns, which is before turn t + 1; turn 1 hunts at frame 0
unfoldable pub line_state : ℕ → List ℕ → ℕ → LineState
line_state size ms zero = Hunting 0
line_state size ms (suc t) = after_turn size ms (line_state size ms t)

-- the multiframe that turn t + 1 has: none without a lock, or where it is lost or cut short; else that of the frames
-- from `frame` to `frame + size - 1`, the n-th of which, from 0, has the expected MFAS `(expected + n) mod 256`
abbrev pub kept_if : Outcome → Lock → Option Lock
kept_if Whole lock = Some lock
kept_if other lock = None

abbrev pub multiframe_at : ℕ → List ℕ → Option Lock → Option Lock
multiframe_at size ms None = None
multiframe_at size ms (Some lock) = kept_if (outcome_of size ms lock) lock

abbrev pub multiframe : ℕ → List ℕ → ℕ → Option Lock
multiframe size ms t = multiframe_at size ms (lock_of size ms (line_state size ms t))

-- how many frames a turn passes over as lead-in, from the first one on that is not used before: n where it hunts at i
-- and locks at frame i + n; where it hunts and does not lock, a multiframe's number of frames, or all that are left
abbrev pub lead_in_of : ℕ → List ℕ → LineState → ℕ
lead_in_of size ms (Hunting i) = unwrap_or (least_start size ms i size) (min size (length ms - i))
lead_in_of size ms other = 0

-- the lead-in frames of turns 1 to t
unfoldable pub lead_in : ℕ → List ℕ → ℕ → ℕ
lead_in size ms zero = 0
lead_in size ms (suc t) = lead_in size ms t + lead_in_of size ms (line_state size ms t)

-- how many of the turns 1 to t were locked and lost their multiframe
abbrev pub is_lost : Outcome → Bool
is_lost Lost = true
is_lost other = false

abbrev pub lost_at : ℕ → List ℕ → Option Lock → ℕ
lost_at size ms None = 0
lost_at size ms (Some lock) = one_if (is_lost (outcome_of size ms lock))

unfoldable pub lost_count : ℕ → List ℕ → ℕ → ℕ
lost_count size ms zero = 0
lost_count size ms (suc t) = lost_count size ms t + lost_at size ms (lock_of size ms (line_state size ms t))

-- How many frames are used by the turns before and by the first k pieces of a turn. A turn is done in pieces of one
-- frame each; the first one passes over the lead-in, which without a lock is all that was hunted over. Frames of a
-- locked turn are used also where the line ends within it. A frame that was only looked ahead at is not used.
abbrev pub used_at : ℕ → List ℕ → Option Lock → (i k : ℕ) → ℕ
used_at size ms (Some lock) i k = min (length ms) (lock.frame + k)
used_at size ms None i k = min (length ms) (i + size)

abbrev pub used_in : ℕ → List ℕ → LineState → ℕ → ℕ
used_in size ms (Hunting i) zero = i
used_in size ms (Hunting i) (suc k) = used_at size ms (lock_of size ms (Hunting i)) i (suc k)
used_in size ms (Locked lock) k = min (length ms) (lock.frame + k)
used_in size ms Ended k = length ms

-- whether frame f is there and its MFAS is a multiple of size, so that a hunt looks at the frame behind it too
abbrev pub looked_ahead : ℕ → List ℕ → ℕ → Bool
looked_ahead size ms f = nat_lt f (length ms) && (slice_index ms f % size == 0)

-- How many frames, counted from the first of the line, the rule of a turn looks at in its first k pieces; a number
-- above that of the whole frames says that it looked for a frame that is not whole. A hunt looks at each frame up to
-- the one at which it locks and the one after it, and from piece 3 on at one more a piece, as a locked turn does. Where
-- it doesn't lock, it looks at all frames of a multiframe, and at one beyond them only where a multiframe might begin
-- at the last of them.
abbrev pub wanted_from : ℕ → List ℕ → ℕ → Option ℕ → ℕ → ℕ
wanted_from size ms i (Some n) k = i + n + max 2 k
wanted_from size ms i None k = i + size + one_if (looked_ahead size ms (i + size - 1))

abbrev pub wanted_in : ℕ → List ℕ → LineState → ℕ → ℕ
wanted_in size ms (Hunting i) zero = 0
wanted_in size ms (Hunting i) (suc k) = wanted_from size ms i (least_start size ms i size) (suc k)
wanted_in size ms (Locked lock) k = lock.frame + k
wanted_in size ms Ended k = 0

-- how many frames the turns 1 to t want, and these with the first k pieces of the next turn
unfoldable pub wanted : ℕ → List ℕ → ℕ → ℕ
wanted size ms zero = 0
wanted size ms (suc t) = max (wanted size ms t) (wanted_in size ms (line_state size ms t) size)

abbrev pub wanted_so_far : ℕ → List ℕ → (t k : ℕ) → ℕ
wanted_so_far size ms t k = max (wanted size ms t) (wanted_in size ms (line_state size ms t) k)

-- how many of a file's bytes are read where so many frames of so many bytes each are wanted: all, where one of them
-- isn't whole
abbrev pub took : (frame_bytes file_bytes : ℕ) → List ℕ → ℕ → ℕ
took frame_bytes file_bytes ms frames = if nat_lt (length ms) frames then file_bytes else frame_bytes * frames
