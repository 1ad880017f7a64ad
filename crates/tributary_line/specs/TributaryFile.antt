-- Believed: the file of an output line that one tributary is put on, from the line's first turn on. The turns are the
-- bytes that each of them takes, the first one first; they count from 0 here, as the frames do.
use Rattle.std.specs.Prelude.{◌≡◌, ℕ, ◌+◌, ◌*◌, ◌/◌, ◌%◌, ◌≤◌, List, [], Some, length, take, slice_get}
use Rattle.std.specs.List.{Contains}
use Rattle.otn_base.specs.declared.limits.TheConstants.{LAST_PAYLOAD_COLUMN, LINE_FRAME_BYTES, ROWS}
use Rattle.frame_geometry.specs.declared.overhead.TheConstants.{OPU_COLUMN}
use Rattle.line_side.specs.LineOutput.{FramePut, AreLineFrames}
use Rattle.msi_table.specs.Psi.{port_at}
use Rattle.tributary_model.specs.Places.{Tributary, byte_at}
use Rattle.tributary_model.specs.Puts.{IsPut, IsSourcePlace}

-- the ports of a line's slots, where this tributary alone uses its own
pub record AreItsPorts (own : Tributary) (ports : List ℕ) : Type 0 where
  pub many : length ports ≡ own.line_slots
  pub used : (slot : ℕ) → Contains own.slots slot → port_at ports slot ≡ own.port
  pub free : (slot : ℕ) → 1 ≤ slot → (Contains own.slots slot → ⊥) → port_at ports slot ≡ 0

-- What is put into frame n of turn t: its MFAS goes on from turn to turn; its MSI bytes show the tributary alone; the
-- frame has the tributary's groups and message, of the turns until then; and every other byte that is put into the OPU
-- is 0, the PSI byte being the line's own (G.709 clauses 15.6.2.2, 15.9.2.1 and 19.4).
pub record IsTributaryFrame (own : Tributary) (turns : List (List ℕ)) (t n : ℕ) (put : FramePut) : Type 0 where
  pub mfas : put.mfas ≡ (own.line_slots * t + n) % 256
  pub ports : AreItsPorts own put.ports
  pub size : length put.bytes ≡ LINE_FRAME_BYTES
  pub own_bytes : IsPut own (take (t + 1) turns) t n put.bytes
  pub other : (row column : ℕ) → 1 ≤ row → row ≤ ROWS → OPU_COLUMN ≤ column → column ≤ LAST_PAYLOAD_COLUMN
      → (IsSourcePlace own n row column → ⊥)
      → byte_at put.bytes row column ≡ 0

-- what is put into the first frames, so many: a turn has as many as the line has slots
pub record AreTributaryFrames (own : Tributary) (turns : List (List ℕ)) (count : ℕ)
    (puts : List FramePut) : Type 0 where
  pub many : length puts ≡ count
  pub each : (f : ℕ) (put : FramePut) → slice_get puts f ≡ Some put
      → IsTributaryFrame own turns (f / own.line_slots) (f % own.line_slots) put

-- The first frames, so many, of the file of line output b.
pub record IsTributaryFile (b : ℕ) (own : Tributary) (turns : List (List ℕ)) (count : ℕ)
    (frames : List (List ℕ)) : Type 0 where
  pub puts : List FramePut
  pub are_put : AreTributaryFrames own turns count puts
  pub are_frames : AreLineFrames b [] puts frames
