-- Believed: the file of an output line: what each of its frames has of the connections that go to the line. All else of
-- a frame is its overhead.
use Rattle.std.specs.Prelude.{◌≡◌, ℕ, ◌+◌, ◌-◌, ◌*◌, ◌/◌, ◌%◌, ◌<◌, ◌≤◌, List, [], Option, Some, length, slice_get}
use Rattle.std.specs.List.{Contains}
use Rattle.otn_base.specs.LineSlots.{LineSlots}
use Rattle.otn_base.specs.declared.limits.TheConstants.{LAST_PAYLOAD_COLUMN, LINE_FRAME_BYTES, ROWS}
use Rattle.frame_geometry.specs.declared.overhead.TheConstants.{OPU_COLUMN}
use Rattle.line_side.specs.LineForm.{size_of}
use Rattle.line_side.specs.LineOutput.{FramePut, AreLineFrames}
use Rattle.msi_table.specs.Psi.{port_at}
use Rattle.plan_file.specs.declared.connection.Connection.{Connection}
use Rattle.plan_file.specs.declared.plan.Plan.{Plan}
use Rattle.tributary_model.specs.Places.{tributary_of, byte_at}
use Rattle.tributary_model.specs.Puts.{IsPut, IsSourcePlace}
use Rattle.device_model.specs.Entries.{form_out, own_turn, IsSentOn}
use Rattle.device_model.specs.Through.{Inputs, own_input, got_by}

-- What is put into frame n, from 0, of turn past + 1 of line b: its MFAS goes on from turn to turn; its MSI bytes show
-- the connections that are active on the line in the turn; each of these has its own groups and its message there, of
-- the turns that it got until then; and every other byte that is put into the OPU is 0, the PSI byte being the line's
-- own (G.709 clauses 15.6.2.2, 15.9.2.1 and 19.4).
pub record IsFrameOf (plan : Plan) (inputs : Inputs) (b past n : ℕ) (put : FramePut) : Type 0 where
  pub mfas : put.mfas ≡ (size_of (form_out plan b) * past + n) % 256
  pub many : length put.ports ≡ size_of (form_out plan b)
  pub used : (x : Connection) (port : ℕ) (slots : LineSlots) (slot : ℕ) → IsSentOn plan b past x port slots
      → Contains slots.list slot → port_at put.ports slot ≡ port
  pub free : (slot : ℕ) → 1 ≤ slot → slot ≤ size_of (form_out plan b)
      → ((x : Connection) (port : ℕ) (slots : LineSlots) → IsSentOn plan b past x port slots → Contains slots.list slot
      → ⊥) → port_at put.ports slot ≡ 0
  pub size : length put.bytes ≡ LINE_FRAME_BYTES
  pub own : (x : Connection) (port : ℕ) (slots : LineSlots) → IsSentOn plan b past x port slots
      → IsPut (tributary_of slots port) (got_by x (own_input inputs x) (own_turn x past + 1))
      (own_turn x past) n put.bytes
  pub other : (row column : ℕ) → 1 ≤ row → row ≤ ROWS → OPU_COLUMN ≤ column → column ≤ LAST_PAYLOAD_COLUMN
      → ((x : Connection) (port : ℕ) (slots : LineSlots) → IsSentOn plan b past x port slots
      → IsSourcePlace (tributary_of slots port) n row column → ⊥)
      → byte_at put.bytes row column ≡ 0

-- what is put into the first frames, so many, of line b: it has as many frames a turn as slots
pub record AreFramesOf (plan : Plan) (inputs : Inputs) (b count : ℕ) (puts : List FramePut) : Type 0 where
  pub many : length puts ≡ count
  pub each : (f : ℕ) (put : FramePut) → slice_get puts f ≡ Some put
      → IsFrameOf plan inputs b (f / size_of (form_out plan b)) (f % size_of (form_out plan b)) put

-- The first frames, so many, of the file of line b, before the mask.
pub record IsLineFile (plan : Plan) (inputs : Inputs) (b count : ℕ) (frames : List (List ℕ)) : Type 0 where
  pub puts : List FramePut
  pub are_put : AreFramesOf plan inputs b count puts
  pub are_frames : AreLineFrames b [] puts frames
