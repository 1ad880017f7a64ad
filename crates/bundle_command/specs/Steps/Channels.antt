-- Steps of `next`, `take` and others: what private contracts alone cite, beside the definitions of `Channels`.
use Rattle.std.specs.Prelude.{◌≡◌, ◌≢◌, ◌⊎◌, ◌<◌, ◌≤◌, ◌*◌, ◌+◌, ◌-◌, ℕ, suc, nat_le, Bool, true, false, if◌then◌else◌, List, [], ◌∷◌, ◌++◌, Option, Some, None, length, set, slice_get, slice_index, take}
use Rattle.std.specs.List.{Contains, list_all}
use Rattle.otn_base.specs.Counts.{saturated}
use Rattle.port_base.specs.Steps.OnePlace.{OnlyClientIn}
use Rattle.port_base.specs.Views.{InView, BaysView, client_in_at}
use Rattle.packet_text.specs.LinesStand.{LinesView, LinesStand, MayBe, lines_view}
use Rattle.packet_text.specs.declared.line.Line.{Line}
use Rattle.packet_text.specs.declared.line.Line.TheVariants as line
use Rattle.gfp_linear.specs.Weave.{WovenFrame, PacketFrame, asked_first, last_giver, loss_due, packets_given, woven_size}
use Rattle.gfp_linear.specs.Weaver.{WeaverState, Woven, HasWoven, IsWeave, channel_at, woven_on}
use Rattle.odu_client.specs.ClientInput.{ClientInput, input_of}
use Rattle.odu_client.specs.Framing.{MayDie}
use Rattle.client_list.specs.ClientLists.{IsClientList}
use Rattle.bundle_command.specs.ChannelInput.{is_short, texts_of}
use Rattle.bundle_command.specs.BundleLeft.{place_of}
use Rattle.bundle_command.specs.BundleStream.{IsAskedIn}
use Rattle.bundle_command.specs.declared.channel.Channel.{Channel}
use Rattle.bundle_command.specs.declared.channel.Standing.{Standing}
use Rattle.bundle_command.specs.declared.channel.Standing.TheVariants.{Fresh, Going, Ended, Bad, Lost, More}
use Rattle.bundle_command.specs.declared.weaving.Weaving.{Weaving}
use Rattle.bundle_command.specs.Channels.{HasAsked, IsGoing}

-- how a channel stands after an answer of its lines, with a packet of so many bytes where it is one
abbrev pub standing_of : Line → (size : ℕ) → Standing
standing_of line.Packet size = if nat_le size 65523 then Going else Bad
standing_of line.End size = Ended
standing_of (line.Bad n) size = Bad
standing_of line.Lost size = Lost

-- the same at the end, where no packet more is given
abbrev pub standing_at_end : Line → Standing
standing_at_end line.Packet = More
standing_at_end line.End = Ended
standing_at_end (line.Bad n) = Bad
standing_at_end line.Lost = Lost

-- what a channel that stands so after an answer gave
abbrev pub news : Standing → (packet : List ℕ) → List (List ℕ)
news Going packet = packet ∷ []
news other packet = []

-- and how many packets
abbrev pub count_of : Standing → ℕ
count_of Going = 1
count_of other = 0

-- a bad line
abbrev pub IsBadLine : Line → Type 0
IsBadLine line.Packet = ⊥
IsBadLine line.End = ⊥
IsBadLine (line.Bad n) = Unit {0}
IsBadLine line.Lost = ⊥

-- By how a channel stands: what came of its text beyond the packets that it offered, and the last answer of its lines.
abbrev pub StandsSo : Standing → (offered beyond : List (List ℕ)) → Line → Type 0
StandsSo Fresh offered beyond answer = (offered ≡ []) × (beyond ≡ []) × (answer ≡ line.Packet)
StandsSo Going offered beyond answer = (beyond ≡ []) × (answer ≡ line.Packet)
StandsSo Ended offered beyond answer = (beyond ≡ []) × (answer ≡ line.End)
StandsSo Bad offered beyond answer = ((beyond ≡ []) × IsBadLine answer)
    ⊎ ((packet : List ℕ) × (beyond ≡ packet ∷ []) × (is_short packet ≡ false) × (answer ≡ line.Packet))
StandsSo Lost offered beyond answer = (beyond ≡ []) × (answer ≡ line.Lost)
StandsSo More offered beyond answer = (packet : List ℕ) × (beyond ≡ packet ∷ []) × (answer ≡ line.Packet)

-- `first` and `now` are views of its client's place, between which these bytes were taken; it offered these packets.
pub record ChannelStands (first now : InView) (read : List ℕ) (offered : List (List ℕ))
    (channel : Channel) : Type 0 where
  pub beyond : List (List ℕ)
  pub text : LinesStand first now read (offered ++ beyond) (lines_view channel.lines)
  pub so : StandsSo channel.standing offered beyond (lines_view channel.lines).answer
  pub short : list_all is_short offered ≡ true
  pub count : channel.packets ≡ saturated (length offered)

-- an input that a place may turn out to have, of which these bytes were taken, as its lines tell it
pub record MayShow (view : LinesView) (read : List ℕ) (input : ClientInput) : Type 0 where
  pub died : Bool
  pub text : List ℕ
  pub may : MayBe view read text
  pub die : MayDie view.answer died
  pub is : input ≡ input_of died text

-- after an answer more bytes were taken, and an input that may be from then on might be before
pub record Answered (first now : InView) (read : List ℕ) (offered : List (List ℕ)) (old new : Channel) : Type 0 where
  pub further : List ℕ
  pub stands : ChannelStands first now (read ++ further) offered new
  pub earlier : (input : ClientInput) → MayShow (lines_view new.lines) (read ++ further) input
      → MayShow (lines_view old.lines) read input

unfoldable pub woven_bytes : (cids : List ℕ) → List WovenFrame → ℕ
woven_bytes cids [] = 0
woven_bytes cids (frame ∷ frames) = woven_size cids frame + woven_bytes cids frames

-- these frames end with a packet's, or are none
abbrev pub EndsWithPacket : List WovenFrame → Type 0
EndsWithPacket frames = (frames ≡ []) ⊎ ((before : List WovenFrame) × (c : ℕ) × (packet : List ℕ)
    × (frames ≡ before ++ PacketFrame c packet ∷ []))

-- the last packet's frame ends with so many bytes
pub record PacketsEnd (cids : List ℕ) (frames : List WovenFrame) (end : ℕ) : Type 0 where
  pub before : List WovenFrame
  pub behind : List WovenFrame
  pub parts : frames ≡ before ++ behind
  pub ends : EndsWithPacket before
  pub none : (c : ℕ) → packets_given c behind ≡ []
  pub bytes : end ≡ woven_bytes cids before

-- A channel that was never asked: each channel that gave a frame gave one, and stands before it.
pub record IsUnasked (cids : List ℕ) (at : Woven) (end c : ℕ) : Type 0 where
  pub low : asked_first (length cids) (last_giver at.frames) + at.others ≤ c
  pub most : woven_bytes cids at.frames ≤ 4 + 65539 * asked_first (length cids) (last_giver at.frames)
  pub none : IsAskedIn (length cids) at.frames c → ⊥
  pub late : woven_bytes cids at.frames ≤ end + 4 + 12 * asked_first (length cids) (last_giver at.frames)

-- a channel of the list
abbrev pub HasChannel : List Channel → (c : ℕ) → Channel → Type 0
HasChannel channels c channel = slice_get channels c ≡ Some channel

-- an input of each that may be
abbrev pub MayShowAll : List Channel → (read : ℕ → List ℕ) → (inputs : ℕ → ClientInput) → Type 0
MayShowAll channels read inputs = (c : ℕ) (channel : Channel) → HasChannel channels c channel
    → MayShow (lines_view channel.lines) (read c) (inputs c)

-- one channel in its stream
pub record ChannelAt (clients : List ℕ) (first now : BaysView) (read : List ℕ) (at : Woven) (end c : ℕ)
    (channel : Channel) : Type 0 where
  pub stands : ChannelStands (place_of clients first c) (place_of clients now c) read
      (packets_given c at.frames) channel
  pub client : channel.client ≡ slice_index clients c
  pub unasked : channel.standing ≡ Fresh → IsUnasked clients at end c
  pub untouched : channel.standing ≡ Fresh → place_of clients now c ≡ place_of clients first c
  pub asked : channel.standing ≢ Fresh → HasAsked (length clients) at c

-- only clients' places of the command changed
pub record OnlyClients (clients : List ℕ) (first now : BaysView) : Type 0 where
  pub client_in : (n : ℕ) → (Contains clients n → ⊥) → client_in_at now n ≡ client_in_at first n

-- Since the start these bytes were given of the channels' stream, which is so far.
pub record WeavingHas (clients : List ℕ) (first now : BaysView) (read : ℕ → List ℕ) (at : Woven) (emitted : List ℕ)
    (weaving : Weaving) : Type 0 where
  pub list : IsClientList clients
  pub woven : HasWoven clients at emitted weaving.maker
  pub going : IsGoing (length clients) at
  pub many : length weaving.channels.items ≡ length clients
  pub end : ℕ
  pub ends : PacketsEnd clients at.frames end
  pub each : (c : ℕ) (channel : Channel) → HasChannel weaving.channels.items c channel
      → ChannelAt clients first now (read c) at end c channel
  pub weave : (inputs : ℕ → ClientInput) → MayShowAll weaving.channels.items read inputs
      → IsWeave (texts_of (length clients) inputs) at
  pub only : OnlyClients clients first now
  pub emitted_is : weaving.emitted ≡ saturated (length emitted)
  pub end_is : weaving.end ≡ saturated end

-- no channel was settled
abbrev pub AreOpen : List Channel → Type 0
AreOpen channels = (c : ℕ) (channel : Channel) → HasChannel channels c channel → channel.standing ≢ More

-- the frames but the last have so many bytes at most
abbrev pub IsBegun : (cids : List ℕ) → Woven → (most : ℕ) → Type 0
IsBegun cids at most = woven_bytes cids (take (length at.frames - 1) at.frames) ≤ most

-- where the first byte of the last frame is given
pub record WeavingStands (clients : List ℕ) (first now : BaysView) (emitted : List ℕ) (weaving : Weaving) : Type 0 where
  pub read : ℕ → List ℕ
  pub at : Woven
  pub has : WeavingHas clients first now read at emitted weaving
  pub unsettled : AreOpen weaving.channels.items
  pub begun : IsBegun clients at (length emitted - 1)
  pub told : at.others ≡ 0

-- where it is that, or the next; while a frame is in hand no channel was asked for the next
pub record WeavingReady (clients : List ℕ) (first now : BaysView) (emitted : List ℕ) (weaving : Weaving) : Type 0 where
  pub read : ℕ → List ℕ
  pub at : Woven
  pub has : WeavingHas clients first now read at emitted weaving
  pub unsettled : AreOpen weaving.channels.items
  pub begun : IsBegun clients at (length emitted)
  pub told : weaving.maker.maker.hand ≢ [] → at.others ≡ 0

-- it is so of some channels
pub record IsReady (now : BaysView) (weaving : Weaving) : Type 0 where
  pub clients : List ℕ
  pub first : BaysView
  pub emitted : List ℕ
  pub ready : WeavingReady clients first now emitted weaving

-- and so is this
pub record IsStanding (now : BaysView) (weaving : Weaving) : Type 0 where
  pub clients : List ℕ
  pub first : BaysView
  pub emitted : List ℕ
  pub stands : WeavingStands clients first now emitted weaving

-- how many channels are left to be asked for the next frame, and one more; none where a frame is in hand
abbrev pub left_to_ask : (hand : List ℕ) → (count asked : ℕ) → ℕ
left_to_ask [] count asked = suc (count - asked)
left_to_ask (byte ∷ hand) count asked = 0

-- a channel that gives no frame any more: its text is over, and its client is not lost
abbrev pub is_over : Standing → Bool
is_over Ended = true
is_over Bad = true
is_over Fresh = false
is_over Going = false
is_over Lost = false
is_over More = false

-- all are so
pub record AreOver (channels : List Channel) : Type 0 where
  pub each : (c : ℕ) (channel : Channel) → HasChannel channels c channel → is_over channel.standing ≡ true

-- this is the channel that is asked
abbrev pub IsAsked : (index : ℕ) → WeaverState → Type 0
IsAsked index maker = (cids : List ℕ) (at : Woven) (emitted : List ℕ) → HasWoven cids at emitted maker
    → index ≡ channel_at (length cids) at

-- the channels are asked once round: where none is in hand one more was asked
abbrev pub GoesRound : (old new : WeaverState) → Type 0
GoesRound old new = new.maker.hand ≡ [] → (new.asked ≡ old.asked + 1) × (new.asked < length new.cids)
    × (new.cids ≡ old.cids)

-- the frame that a channel gave, by how it stands after it was asked
abbrev pub frame_of : Standing → (channel : ℕ) → (packet : List ℕ) → List WovenFrame → Option WovenFrame
frame_of Going c packet frames = Some (PacketFrame c packet)
frame_of Lost c packet frames = loss_due c frames
frame_of other c packet frames = None

-- where the last packet's frame ends, by the same
abbrev pub end_after : Standing → (emitted size end : ℕ) → ℕ
end_after Going emitted size end = saturated (emitted + (size + 16))
end_after other emitted size end = end

-- the maker was told of it
pub record IsTold (answer : Standing) (packet : List ℕ) (old new : Weaving) : Type 0 where
  pub woven : (cids : List ℕ) (at : Woven) (emitted : List ℕ) → HasWoven cids at emitted old.maker
      → HasWoven cids (woven_on (length cids) at (frame_of answer (channel_at (length cids) at) packet at.frames))
      emitted new.maker
  pub channels : new.channels ≡ old.channels
  pub emitted : new.emitted ≡ old.emitted
  pub end : new.end ≡ end_after answer old.emitted (length packet) old.end

-- A channel was asked; all others, and the places of all other clients, are as they were.
pub record ChannelAsked (index : ℕ) (was : BaysView) (old : List Channel) (is : BaysView) (new : List Channel)
    (answer : Standing) : Type 0 where
  pub channel : Channel
  pub known : HasChannel old index channel
  pub next : Channel
  pub channels : new ≡ set old index next
  pub answered : (first : InView) (read : List ℕ) (offered : List (List ℕ))
      → ChannelStands first (client_in_at was channel.client) read offered channel
      → Answered first (client_in_at is channel.client) read
      (offered ++ news answer (lines_view next.lines).packet) channel next
  pub standing : next.standing ≡ answer
  pub closed : (answer ≢ Fresh) × (answer ≢ More)
  pub packet : answer ≡ Going → (1 ≤ length (lines_view next.lines).packet)
      × (length (lines_view next.lines).packet ≤ 65523)
  pub client : next.client ≡ channel.client
  pub only : OnlyClientIn channel.client was is

-- channels of these clients that were not asked
pub record AreFresh (clients : List ℕ) (channels : List Channel) : Type 0 where
  pub many : length channels ≡ length clients
  pub each : (c : ℕ) (channel : Channel) → HasChannel channels c channel
      → ((first : InView) → ChannelStands first first [] [] channel) × (channel.client ≡ slice_index clients c)
      × (channel.standing ≡ Fresh)
