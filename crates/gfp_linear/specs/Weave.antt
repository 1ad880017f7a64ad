-- Believed: the frames of several channels in one stream. Channels count from 0, in the order of their CIDs.
use Rattle.std.specs.Prelude.{ℕ, zero, suc, ◌+◌, ◌-◌, ◌%◌, ◌≤◌, ◌==◌, All, nat_lt, Bool, true, false, if◌then◌else◌, List, [], ◌∷◌, ◌++◌, Option, Some, None, length, take, map, flat_map, reverse, get_or, slice_get, slice_index}
use Rattle.std.specs.List.{list_any}
use Rattle.gfp_frames.specs.GfpText.{Frame, Idle, WithArea, text_of}
use Rattle.gfp_frames.specs.Within.{frame_size}
use Rattle.gfp_linear.specs.ChannelFrames.{packet_area, loss_area}

-- what a channel has to give: its packets, and whether its client is lost behind them
pub record ChannelText : Type 0 where
  pub packets : List (List ℕ)
  pub is_lost : Bool

-- a frame of the stream: idle, with a packet of a channel, or a channel's loss frame
pub data WovenFrame : Type 0 where
  IdleFrame : WovenFrame
  PacketFrame : (channel : ℕ) (packet : List ℕ) → WovenFrame
  LossFrame : (channel : ℕ) → WovenFrame

-- the frame as it is made, where these are the channels' CIDs
abbrev pub made_of : (cids : List ℕ) → WovenFrame → Frame
made_of cids IdleFrame = Idle
made_of cids (PacketFrame c packet) = WithArea (packet_area (slice_index cids c) packet)
made_of cids (LossFrame c) = WithArea (loss_area (slice_index cids c))

-- ---- what the frames so far say

-- whether a frame is this channel's loss frame
abbrev pub is_loss_of : (channel : ℕ) → WovenFrame → Bool
is_loss_of c IdleFrame = false
is_loss_of c (PacketFrame d packet) = false
is_loss_of c (LossFrame d) = d == c

-- the packet that a frame has of this channel
abbrev pub packet_of : (channel : ℕ) → WovenFrame → List (List ℕ)
packet_of c IdleFrame = []
packet_of c (PacketFrame d packet) = if d == c then packet ∷ [] else []
packet_of c (LossFrame d) = []

-- the packets of a channel that were given
abbrev pub packets_given : (channel : ℕ) → List WovenFrame → List (List ℕ)
packets_given c frames = flat_map (packet_of c) frames

-- the channel that gave a frame, or else this one
abbrev pub giver_or : Option ℕ → WovenFrame → Option ℕ
giver_or last IdleFrame = last
giver_or last (PacketFrame c packet) = Some c
giver_or last (LossFrame c) = Some c

-- the channel that gave the last frame that is not idle
abbrev pub giver_after : Option ℕ → List WovenFrame → Option ℕ
giver_after last [] = last
giver_after last (frame ∷ frames) = giver_after (giver_or last frame) frames

abbrev pub last_giver : List WovenFrame → Option ℕ
last_giver frames = giver_after None frames

-- whether one of the last 1,000 frames is this channel's loss frame
abbrev pub is_loss_late : (channel : ℕ) → List WovenFrame → Bool
is_loss_late c frames = list_any (is_loss_of c) (take 1000 (reverse frames))

-- ---- the next frame

-- of so many channels the one that is asked first: the one after the last that gave a frame, and at the start the first
abbrev pub asked_first : (count : ℕ) → Option ℕ → ℕ
asked_first count None = 0
asked_first count (Some giver) = (giver + 1) % count

-- the one that is asked when so many gave nothing: in rising order, once round
abbrev pub asked_after : (count : ℕ) → Option ℕ → (others : ℕ) → ℕ
asked_after count last others = (asked_first count last + others) % count

-- the loss frame of a channel, where none of the last 1,000 frames is one
abbrev pub loss_due : (channel : ℕ) → List WovenFrame → Option WovenFrame
loss_due c frames = if is_loss_late c frames then None else Some (LossFrame c)

-- what a channel gives, if these are its packets that are left: the next one, and behind the last its loss frame where
-- its client is lost
abbrev pub given_of : (channel : ℕ) → List WovenFrame → (left : Option (List ℕ)) → (is_lost : Bool) → Option WovenFrame
given_of c frames (Some packet) is_lost = Some (PacketFrame c packet)
given_of c frames None true = loss_due c frames
given_of c frames None false = None

-- what a channel gives for the next frame
abbrev pub offer : (channel : ℕ) → ChannelText → List WovenFrame → Option WovenFrame
offer c text frames = given_of c frames (slice_get text.packets (length (packets_given c frames))) text.is_lost

-- a channel that has nothing to give
abbrev pub no_text : ChannelText
no_text = record { packets = []; is_lost = false }

-- the first of two frames that there is
abbrev pub frame_or : Option WovenFrame → WovenFrame → WovenFrame
frame_or (Some frame) other = frame
frame_or None other = other

-- the next frame, where so many channels are left to be asked: the first that gives one fixes it, and where none does
-- it is idle
unfoldable pub next_of : (left : ℕ) (texts : List ChannelText) (frames : List WovenFrame) (others : ℕ) → WovenFrame
next_of zero texts frames others = IdleFrame
next_of (suc left) texts frames others =
    let c = asked_after (length texts) (last_giver frames) others in
    frame_or (offer c (get_or texts c no_text) frames) (next_of left texts frames (others + 1))

-- the next frame of these channels
abbrev pub next_frame : List ChannelText → List WovenFrame → WovenFrame
next_frame texts frames = next_of (length texts) texts frames 0

-- the stream of these channels: one idle frame, and n frames more
unfoldable pub weave : List ChannelText → (n : ℕ) → List WovenFrame
weave texts zero = IdleFrame ∷ []
weave texts (suc n) = weave texts n ++ next_frame texts (weave texts n) ∷ []

-- its first n bytes; so many frames have as many bytes
abbrev pub weave_text : (cids : List ℕ) → List ChannelText → (n : ℕ) → List ℕ
weave_text cids texts n = take n (text_of (map (made_of cids) (weave texts n)))

-- packets that a channel can carry: 1 to 65,523 bytes each
abbrev pub AreCarried : ChannelText → Type 0
AreCarried text = All (λ packet. (1 ≤ length packet) × (length packet ≤ 65523)) text.packets

-- ---- the frames that lie whole in the first bytes

-- bytes of a frame
abbrev pub woven_size : (cids : List ℕ) → WovenFrame → ℕ
woven_size cids frame = frame_size (made_of cids frame)

-- of frames one after another, those that lie whole in the first n bytes
unfoldable pub woven_within : (cids : List ℕ) (n : ℕ) → List WovenFrame → List WovenFrame
woven_within cids n [] = []
woven_within cids n (frame ∷ frames) =
    if nat_lt n (woven_size cids frame) then [] else frame ∷ woven_within cids (n - woven_size cids frame) frames

-- whether a frame is this channel's
abbrev pub is_frame_of : (channel : ℕ) → WovenFrame → Bool
is_frame_of c IdleFrame = false
is_frame_of c (PacketFrame d packet) = d == c
is_frame_of c (LossFrame d) = d == c
