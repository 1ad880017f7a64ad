-- API: how a client's frames are made of its text.
use Rattle.std.specs.Prelude.{◌≡◌, ◌≢◌, ◌<◌, ◌≤◌, ℕ, ◌+◌, ◌*◌, ◌%◌, Bool, true, false, List, [], ◌∷◌, ◌++◌, length}
use Rattle.std.specs.List.{concat}
use Rattle.port_base.specs.Views.{InView}
use Rattle.frame_overhead.specs.TwoBefore.{Kept, HasSent}
use Rattle.gfp_frames.specs.GfpText.{stream_frames}
use Rattle.gfp_frames.specs.Maker.{MakerState, HasMade}
use Rattle.packet_text.specs.LinesStand.{LinesView, LinesStand, MayBe}
use Rattle.otn_base.specs.Counts.{saturated}
use Rattle.packet_text.specs.PacketText.{packets_of}
use Rattle.packet_text.specs.declared.line.Line.{Line}
use Rattle.packet_text.specs.declared.line.Line.TheVariants.{Packet, End, Lost}
use Rattle.odu_client.specs.ClientFrames.{client_frames, frames_begun, stream_part}
use Rattle.odu_client.specs.ClientInput.{ClientInput, input_of, gfp_length}
use Rattle.otn_base.specs.declared.limits.TheConstants.{CLIENT_COLUMNS, CLIENT_PAYLOAD_BYTES}

-- what is seen of a stream of GFP frames: its maker, whether its packets have FCS, the last answer of the text's lines,
-- and how many packets were begun
pub record StreamState : Type 0 where
  pub maker : MakerState
  pub fcs : Bool
  pub answer : Line
  pub packets : ℕ

-- what is seen of a framer: the identifier of its trace, its stream, the parities that its path writer keeps, the MFAS
-- of the next frame, what is left of the frame in hand, and whether the stream had not ended before that frame
pub record FramerState : Type 0 where
  pub sapi : List ℕ
  pub stream : StreamState
  pub path : Kept
  pub mfas : ℕ
  pub left : List ℕ
  pub fresh : Bool

-- These packets were read, and these bytes emitted of their frames; then of idle frames, once no packet is left. The
-- last packet's frame was begun, and behind the last answer the packets' frames were emitted and more.
pub record StreamMade (packets : List (List ℕ)) (emitted : List ℕ) (stream : StreamState) : Type 0 where
  pub idles : ℕ
  pub made : HasMade (stream_frames packets stream.fcs idles) emitted stream.maker
  pub going : stream.answer ≡ Packet → idles ≡ 0
  pub begun : (before : List (List ℕ)) (last : List ℕ) → packets ≡ before ++ last ∷ []
      → gfp_length before stream.fcs < length emitted
  pub seen : stream.answer ≢ Packet → gfp_length packets stream.fcs < length emitted
  pub count : stream.packets ≡ saturated (length packets)

-- `first` and `now` are views of the text's place, between which these bytes and packets were read
pub record TextStands (first now : InView) (read : List ℕ) (packets : List (List ℕ)) (lines : LinesView)
    (stream : StreamState) : Type 0 where
  pub stands : LinesStand first now read packets lines
  pub answer : stream.answer ≡ lines.answer

-- a framer that has made so many frames, which carry these payload bytes, and of which these bytes were emitted
pub record Framed (packets : List (List ℕ)) (payload : List ℕ) (count : ℕ) (emitted : List ℕ)
    (framer : FramerState) : Type 0 where
  pub stream : StreamMade packets payload framer.stream
  pub size : length payload ≡ CLIENT_PAYLOAD_BYTES * count
  pub path : HasSent CLIENT_COLUMNS (client_frames framer.sapi count payload) framer.path
  pub mfas : framer.mfas ≡ count % 256
  pub frames : emitted ++ framer.left ≡ concat (client_frames framer.sapi count payload)
  pub fresh : framer.stream.answer ≢ Packet → framer.fresh ≡ true
      → CLIENT_PAYLOAD_BYTES * count ≤ gfp_length packets framer.stream.fcs + CLIENT_PAYLOAD_BYTES
  pub late : framer.stream.answer ≢ Packet → framer.fresh ≡ false
      → gfp_length packets framer.stream.fcs + CLIENT_PAYLOAD_BYTES < CLIENT_PAYLOAD_BYTES * count

-- `first` and `now` are views of the place of a client's text, between which these bytes were read; and these bytes of
-- its stream were emitted since its start
pub record ClientStands (first now : InView) (read emitted : List ℕ) (lines : LinesView)
    (framer : FramerState) : Type 0 where
  pub packets : List (List ℕ)
  pub payload : List ℕ
  pub text : TextStands first now read packets lines framer.stream
  pub framed : Framed packets payload (frames_begun (length emitted)) emitted framer

-- after a call that emitted these bytes: more bytes of the text were read, and a text that the place may have from
-- then on it might have before. They are the next bytes of the client's stream, whatever text it is.
pub record Fills (first now : InView) (read before bytes : List ℕ) (old new : LinesView)
    (was is : FramerState) : Type 0 where
  pub further : List ℕ
  pub stands : ClientStands first now (read ++ further) (before ++ bytes) new is
  pub earlier : (text : List ℕ) → MayBe new (read ++ further) text → MayBe old read text
  pub emitted : (text : List ℕ) → MayBe new (read ++ further) text
      → bytes ≡ stream_part was.sapi (packets_of text).packets was.stream.fcs (length before) (length bytes)
  pub sapi : is.sapi ≡ was.sapi
  pub fcs : is.stream.fcs ≡ was.stream.fcs

-- whether a place died in the end, as far as its lines tell it
pub record MayDie (answer : Line) (died : Bool) : Type 0 where
  pub ended : answer ≡ End → died ≡ false
  pub lost : answer ≡ Lost → died ≡ true

-- What holds of a framer wherever it stands in its client's stream: of every text that it may be, as far as its lines
-- were read, and of how many bytes of the stream were emitted.
abbrev pub OfItsText : FramerState → ((text : List ℕ) → (emitted : ℕ) → Type 0) → Type 0
OfItsText framer Holds = (first now : InView) (read emitted : List ℕ) (lines : LinesView) (text : List ℕ)
    → ClientStands first now read emitted lines framer → MayBe lines read text → Holds text (length emitted)

-- the same of the client's input, which is such a text and whether its place died
abbrev pub OfItsInput : FramerState → ((input : ClientInput) → (emitted : ℕ) → Type 0) → Type 0
OfItsInput framer Holds = (first now : InView) (read emitted : List ℕ) (lines : LinesView) (died : Bool) (text : List ℕ)
    → ClientStands first now read emitted lines framer → MayBe lines read text → MayDie lines.answer died
    → Holds (input_of died text) (length emitted)
