-- Believed: what a client gets of what its connection's line carries, and which packets that delivers.
use Rattle.std.specs.Prelude.{◌≡◌, ℕ, ◌+◌, ◌-◌, ◌*◌, ◌/◌, ◌≤◌, Bool, List, All, length, take}
use Rattle.gfp_frames.specs.GfpText.{stream_frames}
use Rattle.gfp_frames.specs.Within.{packets_within}
use Rattle.odu_client.specs.ClientFrames.{client_stream}
use Rattle.odu_client.specs.ClientOutput.{arriving_packets}
use Rattle.otn_base.specs.LineSlots.{LineSlots}
use Rattle.otn_base.specs.declared.limits.TheConstants.{CLIENT_FRAME_BYTES, CLIENT_PAYLOAD_BYTES, MOST_PACKET}
use Rattle.plan_file.specs.declared.connection.Connection.{Connection}
use Rattle.plan_file.specs.declared.connection.FromEnd.TheVariants as from_end
use Rattle.tributary_model.specs.Carriage.{Arrives}
use Rattle.tributary_model.specs.Carries.{sent}
use Rattle.tributary_model.specs.Places.{tributary_of}
use Rattle.device_model.specs.Entries.{first_turn}
use Rattle.device_model.specs.LineViews.{view_at}
use Rattle.device_model.specs.Through.{Inputs, own_input, arrived_by}

-- In the first n + 1 of its turns a connection whose own tributary carries bytes gets their front: those of all turns
-- but the last two that its sink saw, without gap or repetition.
abbrev pub GetsWhatIsCarried : Type 0
GetsWhatIsCarried = (inputs : Inputs) (x : Connection) (a from u n : ℕ) (slots : LineSlots) (bytes p : List ℕ)
    → x.from ≡ from_end.Line a from slots → first_turn x + n ≤ u + 1
    → Arrives (tributary_of slots from) bytes p (view_at (tributary_of slots from) (inputs.line a)) (first_turn x)
    (first_turn x) (first_turn x) u
    → arrived_by x (own_input inputs x) (n + 1) ≡ take (sent p (n - 2)) bytes

-- what a client offers: packets of 1 to 65,527 bytes (G.7041 clause 6.1.2.1)
abbrev pub AreOffered : List (List ℕ) → Type 0
AreOffered packets = All (λ packet. (1 ≤ length packet) × (length packet ≤ MOST_PACKET)) packets

-- how many payload bytes the frames have that are whole among n bytes of a client
abbrev pub whole_payload : (n : ℕ) → ℕ
whole_payload n = CLIENT_PAYLOAD_BYTES * (n / CLIENT_FRAME_BYTES)

-- the packets of a client whose GFP frames lie whole in the frames that are whole in the first n bytes of its stream
abbrev pub whole_packets : (packets : List (List ℕ)) → (fcs : Bool) → (n : ℕ) → List (List ℕ)
whole_packets packets fcs n = packets_within (whole_payload n) (stream_frames packets fcs (whole_payload n))

-- Where what is carried is the front of a client's stream, exactly these packets are delivered, in order.
abbrev pub DeliversItsPackets : Type 0
DeliversItsPackets = (inputs : Inputs) (x : Connection) (a from u n k : ℕ) (slots : LineSlots) (sapi : List ℕ)
    (packets : List (List ℕ)) (fcs : Bool) (p : List ℕ)
    → x.from ≡ from_end.Line a from slots → first_turn x + n ≤ u + 1 → AreOffered packets
    → Arrives (tributary_of slots from) (client_stream sapi packets fcs k) p
    (view_at (tributary_of slots from) (inputs.line a)) (first_turn x) (first_turn x) (first_turn x) u
    → arriving_packets (arrived_by x (own_input inputs x) (n + 1)) ≡ whole_packets packets fcs (sent p (n - 2))
