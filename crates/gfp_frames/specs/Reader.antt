-- API: a reader of GFP frames, as contracts see it.
use Rattle.std.specs.Prelude.{◌≡◌, ℕ, ◌==◌, nat_le, ◌&&◌, Bool, if◌then◌else◌, List, [], ◌∷◌, ◌++◌, drop}
use Rattle.gfp_frames.specs.Delineation.{whole_area, from_hunt, from_presync, from_sync}
use Rattle.gfp_frames.specs.Delivered.{plain_areas, areas_in}
use Rattle.gfp_frames.specs.declared.phase.Phase.{Phase}
use Rattle.gfp_frames.specs.declared.phase.Phase.TheVariants.{Hunt, PresyncArea, Presync, SyncArea, Sync}

-- What the reader waits for, how many bytes it is, and which of them came; the last 43 bits of the areas in sync so
-- far; and the plain area in sync that ended with the last byte, or nothing.
pub record ReaderState : Type 0 where
  pub phase : Phase
  pub wanted : ℕ
  pub held : List ℕ
  pub register : ℕ
  pub area : List ℕ

-- how many bytes a phase may wait for: the four of a header, or an area
abbrev pub may_want : Phase → ℕ → Bool
may_want Hunt n = n == 4
may_want PresyncArea n = nat_le 4 n && nat_le n 65535
may_want Presync n = n == 4
may_want SyncArea n = nat_le 4 n && nat_le n 65535
may_want Sync n = n == 4

-- the areas in sync of these bytes, which begin with what the reader holds
abbrev pub areas_from : Phase → (wanted : ℕ) → List ℕ → List (List ℕ)
areas_from Hunt wanted bytes = from_hunt bytes
areas_from PresyncArea wanted bytes = from_presync (drop wanted bytes)
areas_from Presync wanted bytes = from_presync bytes
areas_from SyncArea wanted bytes = whole_area wanted bytes ++ from_sync (drop wanted bytes)
areas_from Sync wanted bytes = from_sync bytes

-- the plain areas that the reader has yet to find, if these bytes come
abbrev pub to_come : ReaderState → List ℕ → List (List ℕ)
to_come reader more = plain_areas reader.register (areas_from reader.phase reader.wanted (reader.held ++ more))

-- The reader read these bytes since its start: whatever comes, the areas of the whole list are those of these bytes,
-- and those that the reader has yet to find.
pub record HasRead (read : List ℕ) (reader : ReaderState) : Type 0 where
  pub whole : (more : List ℕ) → areas_in (read ++ more) ≡ areas_in read ++ to_come reader more

-- ---- steps of the reader

-- the areas that a step gives
abbrev pub news : Bool → ReaderState → List (List ℕ)
news found reader = if found then reader.area ∷ [] else []
