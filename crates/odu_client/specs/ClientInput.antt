-- Believed: what a client's input is, and what it puts out.
use Rattle.std.specs.Prelude.{ℕ, zero, suc, ◌+◌, ◌-◌, ◌*◌, ◌/◌, ◌%◌, nat_lt, nat_le, ◌&&◌, if◌then◌else◌, Bool, true, false, List, [], ◌∷◌, length, get_or, Option, Some, None}
use Rattle.otn_base.specs.declared.limits.TheConstants.{CLIENT_FRAME_BYTES, CLIENT_PAYLOAD_BYTES}
use Rattle.packet_text.specs.TextLines.{text_of_dead}
use Rattle.packet_text.specs.PacketText.{TextEnding, Ended, BadAt, packets_of}
use Rattle.gfp_frames.specs.GfpText.{Frame, stream_frames, text_of}
use Rattle.gfp_frames.specs.Within.{frame_size, packets_of as packet_in}
use Rattle.odu_client.specs.ClientFrames.{payload_begun, stream_part}

-- how a client's input ends: at the end of its text, with the first bad line, which has this number, or where its place
-- died
pub data InputEnding : Type 0 where
  AtEnd : InputEnding
  AtBad : ℕ → InputEnding
  AtDeath : InputEnding

-- a client's input: its packets, and how it ends
pub record ClientInput : Type 0 where
  pub packets : List (List ℕ)
  pub ending : InputEnding

-- how an input ends by its text: at a bad line, or else where its place died, or at the text's end
abbrev pub input_ending : (died : Bool) → TextEnding → InputEnding
input_ending died (BadAt n) = AtBad n
input_ending true Ended = AtDeath
input_ending false Ended = AtEnd

-- the input of a text, which is what is left of it where the place died
abbrev pub input_of : (died : Bool) → (text : List ℕ) → ClientInput
input_of died text = record { packets = (packets_of text).packets; ending = input_ending died (packets_of text).ending }

-- the input of the bytes that a place gave in a whole run
abbrev pub input_given : (died : Bool) → (available : List ℕ) → ClientInput
input_given died available = input_of died (if died then text_of_dead available else available)

-- ---- totals, where so many bytes of the client's stream were emitted

-- the length of the first idle frame and of all packets' frames
unfoldable pub gfp_length : (packets : List (List ℕ)) → (fcs : Bool) → ℕ
gfp_length packets fcs = length (text_of (stream_frames packets fcs 0))

-- of GFP frames one after another, how many that carry a packet have their first byte within the first n bytes
unfoldable pub begun_within : (n : ℕ) → List Frame → ℕ
begun_within n [] = 0
begun_within n (frame ∷ frames) = if nat_lt 0 n
    then length (packet_in frame) + begun_within (n - frame_size frame) frames else 0

-- how many packets are begun: their frame's first byte stands in the payload of a frame that was begun
abbrev pub packets_begun : (packets : List (List ℕ)) → (fcs : Bool) → (emitted : ℕ) → ℕ
packets_begun packets fcs emitted = begun_within (payload_begun emitted) (stream_frames packets fcs 0)

-- whether the ending is seen: the packets do not fill the payload of the frames that were begun
abbrev pub ending_seen : (packets : List (List ℕ)) → (fcs : Bool) → (emitted : ℕ) → Bool
ending_seen packets fcs emitted = nat_lt (gfp_length packets fcs) (payload_begun emitted)

-- how many packets are asked for: those that are begun, and one more where the ending is seen
abbrev pub packets_asked : (packets : List (List ℕ)) → (fcs : Bool) → (emitted : ℕ) → ℕ
packets_asked packets fcs emitted = packets_begun packets fcs emitted +
    (if ending_seen packets fcs emitted then 1 else 0)

-- whether an input ends at the end of its text
abbrev pub is_end : InputEnding → Bool
is_end AtEnd = true
is_end (AtBad n) = false
is_end AtDeath = false

-- whether a client is spent: its text has ended, and the frame in which that was seen was emitted whole
abbrev pub is_spent : ClientInput → (fcs : Bool) → (emitted : ℕ) → Bool
is_spent input fcs emitted = is_end input.ending
    && nat_le (CLIENT_FRAME_BYTES * (gfp_length input.packets fcs / CLIENT_PAYLOAD_BYTES + 1)) emitted

-- the number of the bad line with which an input ends
abbrev pub bad_at : InputEnding → Option ℕ
bad_at AtEnd = None
bad_at (AtBad n) = Some n
bad_at AtDeath = None

-- the number of the bad line, once it is seen
abbrev pub bad_line : ClientInput → (fcs : Bool) → (emitted : ℕ) → Option ℕ
bad_line input fcs emitted = if ending_seen input.packets fcs emitted then bad_at input.ending else None

-- ---- turn by turn, from 0

-- the pace of a turn: the list is repeated
abbrev pub pace_of : (paces : List ℕ) → (turn : ℕ) → ℕ
pace_of paces turn = get_or paces (turn % length paces) 0

-- how many bytes were emitted in the turns before this one
unfoldable pub emitted_before : (paces : List ℕ) → (turn : ℕ) → ℕ
emitted_before paces zero = 0
emitted_before paces (suc turn) = emitted_before paces turn + pace_of paces turn

-- what a client's input emits in a turn: the next bytes of its stream, as many as the turn's pace
unfoldable pub input_emits : (sapi : List ℕ) → (fcs : Bool) → (paces : List ℕ) → ClientInput → (turn : ℕ) → List ℕ
input_emits sapi fcs paces input turn = stream_part sapi input.packets fcs (emitted_before paces turn)
    (pace_of paces turn)
