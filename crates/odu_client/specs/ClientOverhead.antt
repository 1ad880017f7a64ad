-- API: what a maker of a client's frames keeps.
use Rattle.std.specs.Prelude.{◌≡◌, ℕ, ◌+◌, ◌*◌, ◌%◌, List, [], ◌∷◌, ◌++◌, length}
use Rattle.otn_base.specs.declared.limits.TheConstants.{CLIENT_COLUMNS, CLIENT_PAYLOAD_BYTES}
use Rattle.frame_overhead.specs.TwoBefore.{Kept, HasSent}
use Rattle.odu_client.specs.ClientFrames.{client_frames}

-- the parities of the last two frames, and the MFAS of the next
pub record OverheadState : Type 0 where
  pub path : Kept
  pub mfas : ℕ

-- a maker of frames: the same, and the frame that was made last
pub record MakerState : Type 0 where
  pub overhead : OverheadState
  pub frame : List ℕ

-- So many frames were made, which carry these payload bytes.
pub record HasMadeFrames (sapi : List ℕ) (count : ℕ) (emitted : List ℕ) (kept : OverheadState) : Type 0 where
  pub sent : HasSent CLIENT_COLUMNS (client_frames sapi count emitted) kept.path
  pub mfas : kept.mfas ≡ count % 256
  pub size : length emitted ≡ CLIENT_PAYLOAD_BYTES * count

-- this frame is the next, and carries this payload
pub record MakesFrame (sapi : List ℕ) (count : ℕ) (emitted payload frame : List ℕ) (kept : OverheadState) : Type 0 where
  pub frames : client_frames sapi (count + 1) (emitted ++ payload) ≡ client_frames sapi count emitted ++ frame ∷ []
  pub made : HasMadeFrames sapi (count + 1) (emitted ++ payload) kept
