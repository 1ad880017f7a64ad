-- Worked lines, against the definition of a line's turns.
use Rattle.std.proofs.Common.{◌≡◌, ℕ, zero, suc, ◌+◌, ◌%◌, List, [], ◌∷◌, ◌++◌, Some, None, true, false, refl}
use Rattle.multiframe.specs.TurnPieces.{in_hand, lead_in_so_far, ended_in}
use Rattle.multiframe.specs.LineTurns.{Hunting, Locked, Ended, least_start, line_state, multiframe, lead_in, lost_count, wanted, used_in, took, lock_of}

-- the MFAS bytes of n frames from e on
abbrev from_to : ℕ → ℕ → List ℕ
from_to e zero = []
from_to e (suc n) = e % 256 ∷ from_to (e + 1) n

-- 40 frames from MFAS 0: five turns have a multiframe, and the line ends in the sixth
forty : (multiframe 8 (from_to 0 40) 0 ≡ Some (record { frame = 0; expected = 0 }))
    × (multiframe 8 (from_to 0 40) 4 ≡ Some (record { frame = 32; expected = 32 }))
    × (line_state 8 (from_to 0 40) 5 ≡ Locked (record { frame = 40; expected = 40 }))
    × (multiframe 8 (from_to 0 40) 5 ≡ None)
    × (line_state 8 (from_to 0 40) 6 ≡ Ended)
    × (wanted 8 (from_to 0 40) 5 ≡ 40)
    × (wanted 8 (from_to 0 40) 6 ≡ 48)
unfolding least_start line_state wanted
forty = (refl, refl, refl, refl, refl, refl, refl)

-- three frames of MFAS 5, 6, 7 before them: they are lead-in, and take no turn
three_before : (multiframe 8 (from_to 5 3 ++ from_to 0 40) 0 ≡ Some (record { frame = 3; expected = 0 }))
    × (multiframe 8 (from_to 5 3 ++ from_to 0 40) 4 ≡ Some (record { frame = 35; expected = 32 }))
    × (line_state 8 (from_to 5 3 ++ from_to 0 40) 6 ≡ Ended)
    × (lead_in 8 (from_to 5 3 ++ from_to 0 40) 6 ≡ 3)
    × (used_in 8 (from_to 5 3 ++ from_to 0 40) (line_state 8 (from_to 5 3 ++ from_to 0 40) 6) 0 ≡ 43)
unfolding least_start line_state lead_in
three_before = (refl, refl, refl, refl, refl)

-- five frames of MFAS 3 to 7, 64 frames from 8 on, and 100 bytes: in eight turns all frames are wanted and no more; the
-- ninth asks for the frame that is not whole
five_before : (multiframe 8 (from_to 3 69) 0 ≡ Some (record { frame = 5; expected = 8 }))
    × (multiframe 8 (from_to 3 69) 7 ≡ Some (record { frame = 61; expected = 64 }))
    × (line_state 8 (from_to 3 69) 8 ≡ Locked (record { frame = 69; expected = 72 }))
    × (line_state 8 (from_to 3 69) 9 ≡ Ended)
    × (lead_in 8 (from_to 3 69) 9 ≡ 5)
    × (lost_count 8 (from_to 3 69) 9 ≡ 0)
    × (used_in 8 (from_to 3 69) (line_state 8 (from_to 3 69) 9) 0 ≡ 69)
    × (took 16320 1126180 (from_to 3 69) (wanted 8 (from_to 3 69) 8) ≡ 1126080)
    × (took 16320 1126180 (from_to 3 69) (wanted 8 (from_to 3 69) 9) ≡ 1126180)
unfolding least_start line_state lead_in lost_count wanted
five_before = (refl, refl, refl, refl, refl, refl, refl, refl, refl)

-- an empty line ends in its first turn, which asks for a frame
empty : (multiframe 8 [] 0 ≡ None) × (line_state 8 [] 1 ≡ Ended) × (lead_in 8 [] 1 ≡ 0) × (wanted 8 [] 1 ≡ 8)
unfolding least_start line_state lead_in wanted
empty = (refl, refl, refl, refl)

-- seven frames in a row from MFAS 0 lock, but the multiframe is cut short: none is lead-in, all are used
seven : (lock_of 8 (from_to 0 7) (Hunting 0) ≡ Some (record { frame = 0; expected = 0 }))
    × (multiframe 8 (from_to 0 7) 0 ≡ None)
    × (line_state 8 (from_to 0 7) 1 ≡ Ended)
    × (lead_in 8 (from_to 0 7) 1 ≡ 0)
    × (used_in 8 (from_to 0 7) (line_state 8 (from_to 0 7) 1) 0 ≡ 7)
unfolding least_start line_state lead_in
seven = (refl, refl, refl, refl, refl)

-- four of eight MFAS bytes are wrong: the multiframe stays. Five are: it is lost, and the line hunts and locks again
wrong : (multiframe 8 (from_to 0 8 ++ (8 ∷ 9 ∷ 10 ∷ 11 ∷ 0 ∷ 0 ∷ 0 ∷ 0 ∷ []) ++ from_to 16 16) 1 ≡ Some (record { frame = 8; expected = 8 }))
    × (line_state 8 (from_to 0 8 ++ (8 ∷ 9 ∷ 10 ∷ 11 ∷ 0 ∷ 0 ∷ 0 ∷ 0 ∷ []) ++ from_to 16 16) 2 ≡ Locked (record { frame = 16; expected = 16 }))
    × (multiframe 8 (from_to 0 8 ++ (8 ∷ 9 ∷ 10 ∷ 0 ∷ 0 ∷ 0 ∷ 0 ∷ 0 ∷ []) ++ from_to 16 16) 1 ≡ None)
    × (line_state 8 (from_to 0 8 ++ (8 ∷ 9 ∷ 10 ∷ 0 ∷ 0 ∷ 0 ∷ 0 ∷ 0 ∷ []) ++ from_to 16 16) 2 ≡ Hunting 16)
    × (multiframe 8 (from_to 0 8 ++ (8 ∷ 9 ∷ 10 ∷ 0 ∷ 0 ∷ 0 ∷ 0 ∷ 0 ∷ []) ++ from_to 16 16) 2 ≡ Some (record { frame = 16; expected = 16 }))
    × (lost_count 8 (from_to 0 8 ++ (8 ∷ 9 ∷ 10 ∷ 0 ∷ 0 ∷ 0 ∷ 0 ∷ 0 ∷ []) ++ from_to 16 16) 3 ≡ 1)
unfolding least_start line_state lost_count
wrong = (refl, refl, refl, refl, refl, refl)

-- a hunt that doesn't lock looks at a ninth frame only where a multiframe might begin at the eighth, and doesn't end
-- the line where eight frames are there
hunts : (wanted 8 (from_to 1 8 ++ from_to 1 8) 1 ≡ 9)
    × (line_state 8 (from_to 1 8 ++ from_to 1 8) 1 ≡ Hunting 8)
    × (wanted 8 (from_to 1 7 ++ from_to 9 8) 1 ≡ 8)
    × (wanted 8 (from_to 1 8) 1 ≡ 9)
    × (lock_of 8 (from_to 1 9) (Hunting 0) ≡ Some (record { frame = 7; expected = 8 }))
    × (line_state 8 (from_to 1 8) 1 ≡ Hunting 8)
    × (line_state 8 (from_to 1 8) 2 ≡ Ended)
    × (lead_in 8 (from_to 1 8) 2 ≡ 8)
    × (line_state 8 (from_to 1 7) 1 ≡ Ended)
    × (lead_in 8 (from_to 1 7) 1 ≡ 7)
unfolding least_start line_state lead_in wanted
hunts = (refl, refl, refl, refl, refl, refl, refl, refl, refl, refl)

-- the expected MFAS goes round at 256
round : (multiframe 8 (from_to 248 16) 1 ≡ Some (record { frame = 8; expected = 0 }))
unfolding least_start line_state
round = refl

-- multiframes of 32 frames: sixteen wrong MFAS bytes keep one, seventeen lose it
of_32 : (multiframe 32 (from_to 62 2 ++ from_to 64 16 ++ from_to 0 16 ++ from_to 96 32) 0 ≡ Some (record { frame = 2; expected = 64 }))
    × (multiframe 32 (from_to 62 2 ++ from_to 64 16 ++ from_to 0 16 ++ from_to 96 32) 1 ≡ Some (record { frame = 34; expected = 96 }))
    × (multiframe 32 (from_to 62 2 ++ from_to 64 15 ++ from_to 0 17 ++ from_to 96 32) 0 ≡ None)
    × (multiframe 32 (from_to 62 2 ++ from_to 64 15 ++ from_to 0 17 ++ from_to 96 32) 1 ≡ Some (record { frame = 34; expected = 96 }))
    × (line_state 32 (from_to 62 2 ++ from_to 64 15 ++ from_to 0 17 ++ from_to 96 32) 3 ≡ Ended)
unfolding least_start line_state
of_32 = (refl, refl, refl, refl, refl)

-- the pieces of a turn: the frame in hand with its expected MFAS, the lead-in, and that the line ends
pieces : (in_hand 8 (from_to 253 12) (line_state 8 (from_to 253 12) 0) 1 ≡ Some (record { frame = 3; expected = 0 }))
    × (in_hand 8 (from_to 253 12) (line_state 8 (from_to 253 12) 0) 8 ≡ Some (record { frame = 10; expected = 7 }))
    × (lead_in_so_far 8 (from_to 253 12) 0 0 ≡ 0)
    × (lead_in_so_far 8 (from_to 253 12) 0 1 ≡ 3)
    × (in_hand 8 (from_to 253 12) (line_state 8 (from_to 253 12) 1) 1 ≡ Some (record { frame = 11; expected = 8 }))
    × (in_hand 8 (from_to 253 12) (line_state 8 (from_to 253 12) 1) 2 ≡ None)
    × (ended_in 8 (from_to 253 12) (line_state 8 (from_to 253 12) 1) 1 ≡ false)
    × (ended_in 8 (from_to 253 12) (line_state 8 (from_to 253 12) 1) 2 ≡ true)
unfolding least_start line_state lead_in
pieces = (refl, refl, refl, refl, refl, refl, refl, refl)
