-- Steps of `ended`, `are_ended` and others: the command at its end.
use Rattle.std.specs.Prelude.{◌≡◌, ◌≢◌, ◌<◌, ◌-◌, ◌&&◌, ◌||◌, ℕ, Bool, true, false, not, List, [], ◌∷◌, ◌++◌, length, nat_le, set}
use Rattle.port_base.specs.Steps.OnePlace.{OnlyClientIn}
use Rattle.port_base.specs.Views.{is_dead, InView, BaysView, client_in_at, line_out_at}
use Rattle.gfp_linear.specs.Weaver.{Woven}
use Rattle.tributary_line.specs.Settling.{ended_by}
use Rattle.bundle_command.specs.BundleStream.{channel_line, payload_whole}
use Rattle.bundle_command.specs.Steps.Channels.{Answered, ChannelStands, HasChannel, IsBegun, WeavingHas}
use Rattle.bundle_command.specs.declared.channel.Channel.{Channel}
use Rattle.bundle_command.specs.declared.channel.Standing.TheVariants as standing
use Rattle.port_base.specs.declared.ended.Ended.{Ended}
use Rattle.bundle_command.specs.declared.weaving.Weaving.{Weaving}

-- The first channels, so many, were asked once more, where a packet was their last answer.
pub record IsSettled (count : ℕ) (clients : List ℕ) (first now : BaysView) (emitted : List ℕ)
    (weaving : Weaving) : Type 0 where
  pub read : ℕ → List ℕ
  pub at : Woven
  pub has : WeavingHas clients first now read at emitted weaving
  pub over : (c : ℕ) (channel : Channel) → HasChannel weaving.channels.items c channel → c < count
      → channel.standing ≢ standing.Going
  pub begun : IsBegun clients at (length emitted - 1)
  pub told : at.others ≡ 0

-- one channel was
pub record ChannelSettled (index : ℕ) (was : BaysView) (old : List Channel) (is : BaysView)
    (new : List Channel) : Type 0 where
  pub channel : Channel
  pub known : HasChannel old index channel
  pub next : Channel
  pub channels : new ≡ set old index next
  pub settled : (first : InView) (read : List ℕ) (offered : List (List ℕ))
      → ChannelStands first (client_in_at was channel.client) read offered channel
      → Answered first (client_in_at is channel.client) read offered channel next
  pub over : next.standing ≢ standing.Going
  pub fresh : next.standing ≡ standing.Fresh → channel.standing ≡ standing.Fresh
  pub stays : channel.standing ≡ standing.Fresh → next.standing ≡ standing.Fresh
  pub still : next.standing ≡ standing.Fresh → client_in_at is channel.client ≡ client_in_at was channel.client
  pub client : next.client ≡ channel.client
  pub only : OnlyClientIn channel.client was is

-- this says whether a client's place is dead
pub record DeadClients (channels : List Channel) (bays : BaysView) (answer : Bool) : Type 0 where
  pub some : answer ≡ true → (c : ℕ) × (channel : Channel) × HasChannel channels c channel
      × (is_dead (client_in_at bays channel.client).state ≡ true)
  pub none : answer ≡ false → (c : ℕ) (channel : Channel) → HasChannel channels c channel
      → is_dead (client_in_at bays channel.client).state ≡ false

-- this says whether each text has ended
pub record AllEnded (channels : List Channel) (answer : Bool) : Type 0 where
  pub all : answer ≡ true → (c : ℕ) (channel : Channel) → HasChannel channels c channel
      → channel.standing ≡ standing.Ended
  pub some : answer ≡ false → (c : ℕ) × (channel : Channel) × HasChannel channels c channel
      × (channel.standing ≢ standing.Ended)

-- so it ended after these turns
pub record IsEnded (weaving : Weaving) (turns : ℕ) (bays : BaysView) (ended : Ended) : Type 0 where
  pub dead : Bool
  pub dead_is : DeadClients weaving.channels.items bays dead
  pub all : Bool
  pub all_is : AllEnded weaving.channels.items all
  pub answer : ended ≡ ended_by (dead || is_dead (line_out_at bays 0).state)
      (not (all && nat_le weaving.end (payload_whole turns)))

-- the line of a channel
abbrev pub line_of : Channel → BaysView → List ℕ
line_of channel bays = channel_line channel.client channel.packets (client_in_at bays channel.client).state

-- the lines of channels
unfoldable pub lines_of : List Channel → BaysView → List ℕ
lines_of [] bays = []
lines_of (channel ∷ channels) bays = line_of channel bays ++ lines_of channels bays
