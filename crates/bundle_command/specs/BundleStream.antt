-- Believed: what several clients send as the channels of one ODU0. Channels count from 0, in the order of the clients'
-- numbers, which are their CIDs; turns count from 0.
use Rattle.std.specs.Prelude.{◌≡◌, ◌≢◌, ◌⊎◌, ◌≤◌, ℕ, zero, suc, ◌+◌, ◌-◌, ◌*◌, ◌/◌, ◌<◌, nat_lt, if◌then◌else◌, true, List, [], ◌∷◌, ◌++◌, None, Some, codes, length, take, drop, slice_index}
use Rattle.std.specs.Fmt.{decimal}
use Rattle.std.specs.List.{concat}
use Rattle.otn_base.specs.Counts.{saturated}
use Rattle.otn_base.specs.declared.limits.TheConstants.{CLIENT_FRAME_BYTES, CLIENT_PAYLOAD_BYTES, NOMINAL}
use Rattle.otn_base.specs.declared.line_kind.LineKind.TheVariants.{Otu2}
use Rattle.port_base.specs.Views.{State}
use Rattle.tributary_model.specs.Places.{Tributary, tributary_of}
use Rattle.gfp_linear.specs.Weave.{ChannelText, WovenFrame, IdleFrame, asked_after, giver_or, last_giver, weave, weave_text, woven_size, woven_within, packets_given}
use Rattle.odu_client.specs.ClientFrames.{client_frames, frames_begun, payload_begun}
use Rattle.odu_client.specs.ClientInput.{ClientInput}
use Rattle.device_model.specs.Report.{state_word}
use Rattle.bundle_command.specs.ChannelInput.{channel_text, ends_whole, texts_of}

-- ---- the line

-- G.709 clause 17.4, G.7041 clause 6.1.2.1.3.2: the first n bytes of client frames without end, with an empty trace,
-- that carry the weave of the channels
abbrev pub channel_stream : (cids : List ℕ) → List ChannelText → (n : ℕ) → List ℕ
channel_stream cids texts n = take n (concat
    (client_frames [] (frames_begun n) (weave_text cids texts (payload_begun n))))

-- the first parts of some bytes, so many, each of as many bytes as an ODU0 has in a turn
unfoldable pub parts_of : (bytes : List ℕ) → (count : ℕ) → List (List ℕ)
parts_of bytes zero = []
parts_of bytes (suc t) = parts_of bytes t ++ take NOMINAL (drop (NOMINAL * t) bytes) ∷ []

-- what the turns carry
abbrev pub channel_turns : (cids : List ℕ) → List ChannelText → (turns : ℕ) → List (List ℕ)
channel_turns cids texts turns = parts_of (channel_stream cids texts (NOMINAL * turns)) turns

-- tributary port 1 in slot 1 of an OTU2
abbrev pub first_slot : Tributary
first_slot = tributary_of (record { kind = Otu2; list = 1 ∷ [] }) 1

-- ---- the packets

-- payload bytes of the client frames that are begun in these turns, and of those that are whole in them
abbrev pub payload_sent : (turns : ℕ) → ℕ
payload_sent turns = payload_begun (NOMINAL * turns)

abbrev pub payload_whole : (turns : ℕ) → ℕ
payload_whole turns = CLIENT_PAYLOAD_BYTES * (NOMINAL * turns / CLIENT_FRAME_BYTES)

-- of frames one after another, those whose first byte is one of the first n bytes
unfoldable pub woven_begun : (cids : List ℕ) (n : ℕ) → List WovenFrame → List WovenFrame
woven_begun cids n [] = []
woven_begun cids n (frame ∷ frames) = if nat_lt 0 n then frame ∷ woven_begun cids (n - woven_size cids frame) frames
    else []

-- enough frames for these turns: n frames have n bytes at least
abbrev pub woven_in : List ChannelText → (turns : ℕ) → List WovenFrame
woven_in texts turns = weave texts (payload_sent turns)

-- the packets of a channel that are begun in these turns
abbrev pub begun_of : (cids : List ℕ) → List ChannelText → (turns c : ℕ) → List (List ℕ)
begun_of cids texts turns c = packets_given c (woven_begun cids (payload_sent turns) (woven_in texts turns))

-- and those whose frames lie whole in the client frames that are whole in them
abbrev pub whole_of : (cids : List ℕ) → List ChannelText → (turns c : ℕ) → List (List ℕ)
whole_of cids texts turns c = packets_given c (woven_within cids (payload_whole turns) (woven_in texts turns))

-- ---- who is asked

-- A frame comes behind others. Of so many channels this one is asked for it: in the order of asking it stands no later
-- than the one that gave the frame, or none gave it.
pub record IsAskedFor (count : ℕ) (before : List WovenFrame) (frame : WovenFrame) (c : ℕ) : Type 0 where
  pub place : ℕ
  pub last : ℕ
  pub order : place ≤ last
  pub once : last < count
  pub here : asked_after count (last_giver before) place ≡ c
  pub gave : (frame ≡ IdleFrame) ⊎ (giver_or None frame ≡ Some (asked_after count (last_giver before) last))

-- it is asked for one of some frames, behind the first
pub record IsAskedIn (count : ℕ) (frames : List WovenFrame) (c : ℕ) : Type 0 where
  pub before : List WovenFrame
  pub frame : WovenFrame
  pub behind : List WovenFrame
  pub parts : frames ≡ before ++ frame ∷ behind
  pub some : before ≢ []
  pub asked : IsAskedFor count before frame c

-- it is asked for one of the frames that are begun in these turns
abbrev pub IsAskedWithin : (cids : List ℕ) → List ChannelText → (turns c : ℕ) → Type 0
IsAskedWithin cids texts turns c = IsAskedIn (length cids)
    (woven_begun cids (payload_sent turns) (woven_in texts turns)) c

-- ---- whether all went out

-- Each client's input ends at the end of its text, and each packet's frame lies whole in the client frames that are
-- whole in these turns.
pub record IsFinished (clients : List ℕ) (turns : ℕ) (inputs : ℕ → ClientInput) : Type 0 where
  pub ends : (c : ℕ) → c < length clients → ends_whole (inputs c) ≡ true
  pub whole : (c : ℕ) → c < length clients
      → whole_of clients (texts_of (length clients) inputs) turns c ≡ (channel_text (inputs c)).packets

-- ---- the report

-- the line of a channel: its packets that are begun, and its client's place
abbrev pub channel_line : (client packets : ℕ) → State → List ℕ
channel_line client packets state = codes "channel " ++ decimal client ++ codes " packets " ++ decimal packets
    ++ codes " " ++ state_word state ++ codes "\n"

-- the lines of the first channels, so many
unfoldable pub lines_told : (clients : List ℕ) → List ChannelText → (turns : ℕ) → (states : ℕ → State) → (count : ℕ)
    → List ℕ
lines_told clients texts turns states zero = []
lines_told clients texts turns states (suc c) =
    lines_told clients texts turns states c
    ++ channel_line (slice_index clients c) (saturated (length (begun_of clients texts turns c))) (states c)
