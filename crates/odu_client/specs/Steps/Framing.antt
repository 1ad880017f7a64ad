-- Steps of `ask`, `fill_payload` and others: what private contracts alone cite, beside the definitions of `Framing`.
use Rattle.std.specs.Prelude.{◌≡◌, ◌≢◌, ◌≤◌, ℕ, Bool, List, [], ◌∷◌, ◌++◌, Option, Some, length}
use Rattle.port_base.specs.Views.{InView}
use Rattle.gfp_frames.specs.GfpText.{stream_frames}
use Rattle.gfp_frames.specs.Maker.{HasMade, idle_bytes}
use Rattle.frame_geometry.specs.PayloadParity.{payload_parity_of}
use Rattle.otn_base.specs.declared.limits.TheConstants.{CLIENT_COLUMNS, CLIENT_PAYLOAD_BYTES}
use Rattle.packet_text.specs.LinesStand.{LinesView, MayBe}
use Rattle.otn_base.specs.Counts.{saturated}
use Rattle.packet_text.specs.declared.line.Line.TheVariants.{Packet}
use Rattle.odu_client.specs.ClientInput.{gfp_length}
use Rattle.odu_client.specs.AlignedRuns.{payload_of}
use Rattle.odu_client.specs.Framing.{StreamState, StreamMade, TextStands}

-- the same where the next byte may be that of a packet's frame that is not begun, or of the first idle frame behind the
-- packets
pub record StreamReady (packets : List (List ℕ)) (emitted : List ℕ) (stream : StreamState) : Type 0 where
  pub idles : ℕ
  pub made : HasMade (stream_frames packets stream.fcs idles) emitted stream.maker
  pub going : stream.answer ≡ Packet → (idles ≡ 0) × (stream.maker.hand ≢ [])
  pub begun : (before : List (List ℕ)) (last : List ℕ) → packets ≡ before ++ last ∷ []
      → gfp_length before stream.fcs ≤ length emitted
  pub seen : stream.answer ≢ Packet → gfp_length packets stream.fcs ≤ length emitted
  pub count : stream.packets ≡ saturated (length packets)

-- What was read of the text in a call. Where its lines had ended, no packet is new, and they are as they were.
pub record TextGoes (first now : InView) (read : List ℕ) (packets : List (List ℕ)) (old new : LinesView) (fcs : Bool)
    (stream : StreamState) : Type 0 where
  pub further : List ℕ
  pub more : List (List ℕ)
  pub text : TextStands first now (read ++ further) (packets ++ more) new stream
  pub earlier : (text : List ℕ) → MayBe new (read ++ further) text → MayBe old read text
  pub still : old.answer ≢ Packet → (more ≡ []) × (new ≡ old)
  pub same : stream.fcs ≡ fcs

-- so the text goes on, and the stream is ready for its next byte
pub record GetsReady (first now : InView) (read emitted : List ℕ) (packets : List (List ℕ)) (old new : LinesView)
    (fcs : Bool) (stream : StreamState) : Type 0 where
  pub goes : TextGoes first now read packets old new fcs stream
  pub ready : StreamReady (packets ++ goes.more) emitted stream

-- so the text goes on, and the stream has emitted these bytes
pub record StreamGoes (first now : InView) (read emitted : List ℕ) (packets : List (List ℕ)) (old new : LinesView)
    (fcs : Bool) (stream : StreamState) : Type 0 where
  pub goes : TextGoes first now read packets old new fcs stream
  pub made : StreamMade (packets ++ goes.more) emitted stream

-- what a call that emits these bytes does, wherever the stream stands in its text
abbrev pub StreamsBy : (was now : InView) (bytes : List ℕ) (old new : LinesView) (stream next : StreamState) → Type 0
StreamsBy was now bytes old new stream next = (first : InView) (read emitted : List ℕ) (packets : List (List ℕ))
    → TextStands first was read packets old stream → StreamMade packets emitted stream
    → StreamGoes first now read (emitted ++ bytes) packets old new stream.fcs next

-- what a call does that emits these bytes where no packet is left: the frame in hand, and then idle frames
pub record IdlesBy (bytes : List ℕ) (stream next : StreamState) : Type 0 where
  pub so : stream.answer ≢ Packet → (n : ℕ) × (bytes ++ next.maker.hand ≡ stream.maker.hand ++ idle_bytes n)

-- where no packet is left: the stream goes on with this payload, and stands then where it stood before
pub record Repeats (payload : List ℕ) (stream : StreamState) : Type 0 where
  pub over : stream.answer ≢ Packet
  pub size : length payload ≡ CLIENT_PAYLOAD_BYTES
  pub idles : ℕ
  pub bytes : payload ++ stream.maker.hand ≡ stream.maker.hand ++ idle_bytes idles

-- it is known that the payload of this frame is the next one's too, and what it gives to the BIP-8
abbrev pub IsKnown : (again : Option ℕ) (frame : List ℕ) (stream : StreamState) → Type 0
IsKnown again frame stream = (parity : ℕ) → again ≡ Some parity
    → Repeats (payload_of frame) stream × (parity ≡ payload_parity_of CLIENT_COLUMNS frame)
