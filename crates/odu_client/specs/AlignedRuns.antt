-- Believed: client frames in any list of bytes. A list is looked at from a place on; what comes before the place does
-- not count.
use Rattle.std.specs.Prelude.{ℕ, zero, suc, ◌+◌, ◌%◌, ◌==◌, nat_lt, nat_le, ◌&&◌, Bool, if◌then◌else◌, List, [], ◌∷◌, ◌++◌, length, take, drop, slice_index}
use Rattle.frame_geometry.specs.Places.{place_of, payload_row_of}
use Rattle.otn_base.specs.declared.limits.TheConstants.{CLIENT_COLUMNS, CLIENT_FRAME_BYTES}

-- the list begins with the six bytes of the FAS (G.709 clause 15.6.2.1)
unfoldable pub has_fas : List ℕ → Bool
has_fas bytes = (slice_index bytes 0 == 0xF6) && (slice_index bytes 1 == 0xF6) && (slice_index bytes 2 == 0xF6)
    && (slice_index bytes 3 == 0x28) && (slice_index bytes 4 == 0x28) && (slice_index bytes 5 == 0x28)

-- how many frames in a row did not begin with the FAS, with the one that begins the list, behind so many
abbrev pub misses_after : ℕ → List ℕ → ℕ
misses_after misses bytes = if has_fas bytes then 0 else misses + 1

-- AIS, OCI and LCK: STAT, bits 6 to 8 of row 3, column 12, is 111, 110 or 101 (G.709 clause 15.8.2.2)
abbrev pub is_signal : List ℕ → Bool
is_signal frame = nat_le 5 (slice_index frame (place_of CLIENT_COLUMNS 3 12) % 8)

-- what arrives: a whole frame that is used, or a break
pub data Arrival : Type 0 where
  Handed : List ℕ → Arrival
  Broken : Arrival

-- a whole frame with a signal is a break
abbrev pub arrival_of : List ℕ → Arrival
arrival_of frame = if is_signal frame then Broken else Handed frame

-- a frame begins the list: what it is, if it is whole, in front of what comes behind it
abbrev pub whole_frame : List ℕ → List Arrival → List Arrival
whole_frame bytes later = if nat_lt (length bytes) CLIENT_FRAME_BYTES then []
    else arrival_of (take CLIENT_FRAME_BYTES bytes) ∷ later

-- a frame begins the list, behind so many in a row without the FAS: if it is the fifth, it is given up after its sixth
-- byte, which is a break, and a search begins
abbrev pub next_frame : ℕ → List ℕ → List Arrival → List Arrival → List Arrival
next_frame misses bytes whole anew = if nat_lt (length bytes) 6 then [] else if nat_lt (misses_after misses bytes) 5
    then whole else Broken ∷ anew

-- What arrives. Each place that is looked at lies further on, so no more places are looked at than the list has bytes.
unfoldable mutual
  -- the search: the first FAS is sought, byte by byte; it begins a frame
  pub searching : (places : ℕ) → List ℕ → List Arrival
  searching zero bytes = []
  searching (suc places) bytes = if has_fas bytes
      then whole_frame bytes (framing places 0 (drop CLIENT_FRAME_BYTES bytes)) else searching places (drop 1 bytes)

  -- a frame begins wherever the former one has ended
  pub framing : (places misses : ℕ) → List ℕ → List Arrival
  framing zero misses bytes = []
  framing (suc places) misses bytes = next_frame misses bytes
      (whole_frame bytes (framing places (misses_after misses bytes) (drop CLIENT_FRAME_BYTES bytes)))
      (searching places (drop 6 bytes))

-- what arrives in a list of bytes: the first search begins at its front
unfoldable pub arrivals : List ℕ → List Arrival
arrivals bytes = searching (length bytes) bytes

-- the payload of a frame, row by row (G.709 clause 12.1)
abbrev pub payload_of : List ℕ → List ℕ
payload_of frame = payload_row_of CLIENT_COLUMNS 1 frame ++ payload_row_of CLIENT_COLUMNS 2 frame
    ++ payload_row_of CLIENT_COLUMNS 3 frame ++ payload_row_of CLIENT_COLUMNS 4 frame

-- bytes in front of the first run
abbrev pub with_payload : List ℕ → List (List ℕ) → List (List ℕ)
with_payload payload [] = payload ∷ []
with_payload payload (run ∷ runs) = (payload ++ run) ∷ runs

-- the runs of payload bytes between breaks
unfoldable pub runs_of : List Arrival → List (List ℕ)
runs_of [] = [] ∷ []
runs_of (Handed frame ∷ later) = with_payload (payload_of frame) (runs_of later)
runs_of (Broken ∷ later) = [] ∷ runs_of later
