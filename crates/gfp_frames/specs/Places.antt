-- API: the same frames by the places of their headers in the whole list (G.7041 clause 6.3.1).
use Rattle.std.specs.Prelude.{◌≡◌, ℕ, ◌+◌, ◌<◌, ◌≤◌, List, [], ◌∷◌, Some, None, length, take, drop, map, ◌↔◌, ◌⊎◌}
use Rattle.gfp_frames.specs.CoreHeader.{area_size, right_at, near_at}

-- the place after the frame whose header stands at this place
abbrev pub place_after : (place pli : ℕ) → ℕ
place_after place pli = place + 4 + area_size pli

mutual
  -- a hunt begins at this place: at the front, and one byte after a place where a header was expected and none stands
  pub data HuntAt (bytes : List ℕ) : (place : ℕ) → Type 0 where
    at_front : HuntAt bytes 0
    presync_lost : (place pli : ℕ) → PresyncAt bytes place pli → right_at (drop (place_after place pli) bytes) ≡ None
        → HuntAt bytes (place_after place pli + 1)
    sync_lost : (place pli : ℕ) → SyncAt bytes place pli → near_at (drop (place_after place pli) bytes) ≡ None
        → HuntAt bytes (place_after place pli + 1)

  -- the header that a hunt finds: the first place from the hunt's on where a right header stands
  pub data PresyncAt (bytes : List ℕ) : (place pli : ℕ) → Type 0 where
    found : (hunt place pli : ℕ) → HuntAt bytes hunt → hunt ≤ place
        → ((k : ℕ) → hunt ≤ k → k < place → right_at (drop k bytes) ≡ None)
        → right_at (drop place bytes) ≡ Some pli → PresyncAt bytes place pli

  -- a header that begins a frame in sync
  pub data SyncAt (bytes : List ℕ) : (place pli : ℕ) → Type 0 where
    confirmed : (place pli next : ℕ) → PresyncAt bytes place pli
        → right_at (drop (place_after place pli) bytes) ≡ Some next → SyncAt bytes (place_after place pli) next
    followed : (place pli next : ℕ) → SyncAt bytes place pli → near_at (drop (place_after place pli) bytes) ≡ Some next
        → SyncAt bytes (place_after place pli) next

-- a frame in sync that has an area, which is whole
pub record WholeAt (bytes : List ℕ) (place pli : ℕ) : Type 0 where
  pub in_sync : SyncAt bytes place pli
  pub has_area : 4 ≤ pli
  pub whole : place_after place pli ≤ length bytes

-- places that rise, from this one on
abbrev pub AreRising : (from : ℕ) → List (ℕ × ℕ) → Type 0
AreRising from [] = Unit {0}
AreRising from (frame ∷ frames) = (from ≤ frame.0) × AreRising (frame.0 + 1) frames

-- a frame, with its place and its PLI, is one of these
abbrev pub IsOneOf : (place pli : ℕ) → List (ℕ × ℕ) → Type 0
IsOneOf place pli [] = ⊥
IsOneOf place pli (frame ∷ frames) = ((frame.0 ≡ place) × (frame.1 ≡ pli)) ⊎ IsOneOf place pli frames

-- these are all whole frames in sync, in order, each with its place and its PLI
pub record AreFramesInSync (bytes : List ℕ) (frames : List (ℕ × ℕ)) : Type 0 where
  pub rising : AreRising 0 frames
  pub each : (place pli : ℕ) → IsOneOf place pli frames ↔ WholeAt bytes place pli

-- the areas that stand at these places
abbrev pub areas_at : List ℕ → List (ℕ × ℕ) → List (List ℕ)
areas_at bytes frames = map (λ frame. take frame.1 (drop (frame.0 + 4) bytes)) frames
