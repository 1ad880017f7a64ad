-- Steps of `put_beside`: how a client's frame is put together.
use Rattle.std.specs.Prelude.{◌≡◌, ◌≤◌, ℕ, ◌+◌, ◌-◌, ◌*◌, List, length, slice_index}
use Rattle.frame_overhead.specs.Runs.{IsPlace, byte_of}
use Rattle.odu_client.specs.ClientFrames.{alignment_row, opu_byte}
use Rattle.otn_base.specs.declared.limits.TheConstants.{CLIENT_COLUMNS, CLIENT_FRAME_BYTES, PAYLOAD_COLUMNS}

-- a frame of this payload was put, and what stands beside it: columns 1 to 14 of rows 2 to 4 belong to the path
pub record FrameWasPut (mfas : ℕ) (payload frame : List ℕ) : Type 0 where
  pub size : length frame ≡ CLIENT_FRAME_BYTES
  pub payload_at : (row col : ℕ) → IsPlace CLIENT_COLUMNS row col → 17 ≤ col
      → byte_of CLIENT_COLUMNS row col frame ≡ slice_index payload (PAYLOAD_COLUMNS * (row - 1) + (col - 17))
  pub opu_at : (row col : ℕ) → IsPlace CLIENT_COLUMNS row col → 15 ≤ col → col ≤ 16
      → byte_of CLIENT_COLUMNS row col frame ≡ opu_byte mfas row col
  pub alignment_at : (col : ℕ) → 1 ≤ col → col ≤ 14
      → byte_of CLIENT_COLUMNS 1 col frame ≡ slice_index (alignment_row mfas) (col - 1)
