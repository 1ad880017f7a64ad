-- Believed: the pieces of a turn, one frame each: what is known of a turn of a line after so many of its pieces. `size`
-- is the number of frames of a multiframe, and `ms` the list of the MFAS bytes of the line's whole frames.
use Rattle.std.specs.Prelude.{◌≡◌, ℕ, zero, suc, ◌+◌, ◌%◌, Bool, true, false, nat_lt, if◌then◌else◌, List, length, Option, Some, None, ⊤}
use Rattle.multiframe.specs.LineTurns.{Lock, LineState, Hunting, Locked, Ended, lock_of, line_state, lead_in, lead_in_of}
use Rattle.multiframe.specs.Alignment.{Alignment, taken_of}

-- frame j, from 0, of the multiframe at which a turn is locked, with its expected MFAS, where the frame is whole
abbrev pub hand_at : List ℕ → Option Lock → ℕ → Option Lock
hand_at ms None j = None
hand_at ms (Some lock) j = if nat_lt (lock.frame + j) (length ms)
    then Some (record { frame = lock.frame + j; expected = (lock.expected + j) % 256 }) else None

-- the frame of a multiframe to which the last of the first k pieces came, with its expected MFAS: where the turn is
-- locked, and the frame is whole
abbrev pub in_hand : ℕ → List ℕ → LineState → ℕ → Option Lock
in_hand size ms st zero = None
in_hand size ms st (suc j) = hand_at ms (lock_of size ms st) j

-- ended_in for the first k pieces of a turn that hunts at i, where k is not 0: by the multiframe at which it locks, or
-- without a lock by what it hunts over
abbrev pub ended_at : ℕ → List ℕ → Option Lock → (i k : ℕ) → Bool
ended_at size ms (Some lock) i k = nat_lt (length ms) (lock.frame + k)
ended_at size ms None i k = nat_lt (length ms) (i + size)

-- Whether k pieces of a turn found that the line ends in it: one of the turn's frames up to that of piece k is not
-- whole, or there is no multiframe to lock on and fewer frames are left than a multiframe has. The turn, or an earlier
-- one, is then the one in which the line has ended.
abbrev pub ended_in : ℕ → List ℕ → LineState → ℕ → Bool
ended_in size ms (Hunting i) zero = false
ended_in size ms (Hunting i) (suc k) = ended_at size ms (lock_of size ms (Hunting i)) i (suc k)
ended_in size ms (Locked lock) k = nat_lt (length ms) (lock.frame + k)
ended_in size ms Ended k = true

-- the lead-in frames of the turns 1 to t and of the first k pieces of the next turn, whose first passes over its own
abbrev pub lead_in_by : ℕ → List ℕ → LineState → ℕ → ℕ
lead_in_by size ms st zero = 0
lead_in_by size ms st (suc k) = lead_in_of size ms st

abbrev pub lead_in_so_far : ℕ → List ℕ → (t k : ℕ) → ℕ
lead_in_so_far size ms t k = lead_in size ms t + lead_in_by size ms (line_state size ms t) k

-- the alignment after k pieces of a turn that is locked so; none where the hunt found no lock
abbrev pub aligned_by : List ℕ → Option Lock → ℕ → Option Alignment → Type 0
aligned_by ms None k alignment = alignment ≡ None
aligned_by ms (Some lock) k alignment = alignment ≡ Some (taken_of k ms lock)

-- the alignment after k pieces: in a locked turn those of its first k frames that are whole were taken. Of a line that
-- has ended nothing is said
abbrev pub AlignedIn : ℕ → List ℕ → LineState → ℕ → Option Alignment → Type 0
AlignedIn size ms (Hunting i) zero alignment = alignment ≡ None
AlignedIn size ms (Hunting i) (suc k) alignment = aligned_by ms (lock_of size ms (Hunting i)) (suc k) alignment
AlignedIn size ms (Locked lock) k alignment = alignment ≡ Some (taken_of k ms lock)
AlignedIn size ms Ended k alignment = ⊤
