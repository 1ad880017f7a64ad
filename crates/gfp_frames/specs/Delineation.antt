-- Believed: frames in any list of bytes (G.7041 clause 6.3.1). A list is looked at from a place on; what comes before
-- the place does not count.
use Rattle.std.specs.Prelude.{ℕ, zero, suc, ◌+◌, nat_lt, ◌||◌, List, [], ◌∷◌, ◌++◌, if◌then◌else◌, None, Some, length, take, drop}
use Rattle.gfp_frames.specs.CoreHeader.{area_size, right_at, near_at}

-- what stands after the frame whose header begins the list
abbrev pub after_frame : (pli : ℕ) → List ℕ → List ℕ
after_frame pli bytes = drop (4 + area_size pli) bytes

-- the payload area at the front of a list, where the frame has one and it is whole
abbrev pub whole_area : (pli : ℕ) → List ℕ → List (List ℕ)
whole_area pli bytes = if nat_lt pli 4 || nat_lt (length bytes) pli then [] else take pli bytes ∷ []

-- The payload areas of the frames that begin in sync, as far as they are whole. Each place that is looked at lies
-- further on, so no more places are looked at than the list has bytes.
unfoldable mutual
  -- HUNT: the first right header is sought, byte by byte; its frame is the PRESYNC frame, and counts for nothing.
  pub hunting : (places : ℕ) → List ℕ → List (List ℕ)
  hunting zero bytes = []
  hunting (suc places) bytes = elim (right_at bytes) [
    | Some pli ↦ after_presync places (after_frame pli bytes)
    | None ↦ hunting places (drop 1 bytes)
  ]

  -- After the PRESYNC frame: a right header there begins a frame in sync. With any other, the hunt goes on one byte
  -- further.
  pub after_presync : (places : ℕ) → List ℕ → List (List ℕ)
  after_presync zero bytes = []
  after_presync (suc places) bytes = elim (right_at bytes) [
    | Some pli ↦ whole_area pli (drop 4 bytes) ++ in_sync places (after_frame pli bytes)
    | None ↦ hunting places (drop 1 bytes)
  ]

  -- SYNC, after a frame in sync: a header there, right but for one bit at most, begins a frame in sync. With any other,
  -- a hunt begins one byte further.
  pub in_sync : (places : ℕ) → List ℕ → List (List ℕ)
  in_sync zero bytes = []
  in_sync (suc places) bytes = elim (near_at bytes) [
    | Some pli ↦ whole_area pli (drop 4 bytes) ++ in_sync places (after_frame pli bytes)
    | None ↦ hunting places (drop 1 bytes)
  ]

-- the same where a hunt is at the list's front
abbrev pub from_hunt : List ℕ → List (List ℕ)
from_hunt bytes = hunting (length bytes) bytes

-- the same where the place after a PRESYNC frame is at the list's front
abbrev pub from_presync : List ℕ → List (List ℕ)
from_presync bytes = after_presync (length bytes) bytes

-- the same where the place after a frame in sync is at the list's front
abbrev pub from_sync : List ℕ → List (List ℕ)
from_sync bytes = in_sync (length bytes) bytes

-- the areas of all frames that begin in sync and lie whole in the list, as they came; the first hunt begins at the
-- list's front
unfoldable pub sync_areas : List ℕ → List (List ℕ)
sync_areas bytes = from_hunt bytes
