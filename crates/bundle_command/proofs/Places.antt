-- Channels that are asked at their places.
use Rattle.std.proofs.Common.{◌≡◌, ◌≢◌, ◌<◌, ◌≤◌, ℕ, List, [], ◌∷◌, ◌++◌, Some, length, set, refl, sym, ap, subst, ◌∙◌, slice_get}
use Rattle.port_base.proofs.BaysLaws.{client_in_seen, client_in_set, only_client_in}
use Rattle.port_base.specs.InPlace.{in_view}
use Rattle.port_base.specs.Racks.{bays_view, client_ins, with_client_in}
use Rattle.port_base.specs.Views.{InView}
use Rattle.port_base.specs.declared.bays.Rack.{Rack}
use Rattle.port_base.specs.declared.in_place.InPlaceOf.{InPlaceOf}
use Rattle.port_base.specs.declared.sink.Sink as sink
use Rattle.port_base.specs.declared.source.Source as source
use Rattle.packet_text.specs.LinesStand.{lines_view}
use Rattle.bundle_command.specs.Steps.Channels.{Answered, ChannelAsked, ChannelStands, HasChannel, news}
use Rattle.bundle_command.specs.Steps.Settled.{ChannelSettled}
use Rattle.bundle_command.specs.declared.channel.Channel.{Channel}
use Rattle.bundle_command.specs.declared.channel.Standing.{Standing}
use Rattle.bundle_command.specs.declared.channel.Standing.TheVariants as standing

pub asked_at : {P K : Type 0} (p : source.Ghosts P) (k : sink.Ghosts K) (rack : Rack P K) (channels : List Channel) (index : ℕ) (channel next : Channel) (x y : InPlaceOf P) (answer : Standing)
    → HasChannel channels index channel → slice_get (client_ins rack) channel.client ≡ Some x
    → ((first : InView) (read : List ℕ) (offered : List (List ℕ)) → ChannelStands first (in_view p x) read offered channel
    → Answered first (in_view p y) read (offered ++ news answer (lines_view next.lines).packet) channel next)
    → next.standing ≡ answer → (answer ≢ standing.Fresh) × (answer ≢ standing.More)
    → (answer ≡ standing.Going → (1 ≤ length (lines_view next.lines).packet) × (length (lines_view next.lines).packet ≤ 65523)) → next.client ≡ channel.client
    → ChannelAsked index (bays_view p k rack) channels (bays_view p k (with_client_in rack channel.client y)) (set channels index next) answer
asked_at p k rack channels index channel next x y answer known at answered stands closed packet client = record {
  channel = channel;
  known = known;
  next = next;
  channels = refl;
  answered = rw (client_in_seen p k rack channel.client x at, client_in_set p k rack channel.client x y at) answered;
  standing = stands;
  closed = closed;
  packet = packet;
  client = client;
  only = only_client_in p k rack channel.client y;
}

pub settled_at : {P K : Type 0} (p : source.Ghosts P) (k : sink.Ghosts K) (rack : Rack P K) (channels : List Channel) (index : ℕ) (channel next : Channel) (x y : InPlaceOf P)
    → HasChannel channels index channel → slice_get (client_ins rack) channel.client ≡ Some x
    → ((first : InView) (read : List ℕ) (offered : List (List ℕ)) → ChannelStands first (in_view p x) read offered channel → Answered first (in_view p y) read offered channel next)
    → next.standing ≢ standing.Going → (next.standing ≡ standing.Fresh → channel.standing ≡ standing.Fresh) → (channel.standing ≡ standing.Fresh → next.standing ≡ standing.Fresh)
    → (next.standing ≡ standing.Fresh → in_view p y ≡ in_view p x) → next.client ≡ channel.client
    → ChannelSettled index (bays_view p k rack) channels (bays_view p k (with_client_in rack channel.client y)) (set channels index next)
settled_at p k rack channels index channel next x y known at settled over fresh stays still client = record {
  channel = channel;
  known = known;
  next = next;
  channels = refl;
  settled = rw (client_in_seen p k rack channel.client x at, client_in_set p k rack channel.client x y at) settled;
  over = over;
  fresh = fresh;
  stays = stays;
  still = rw (client_in_seen p k rack channel.client x at, client_in_set p k rack channel.client x y at) still;
  client = client;
  only = only_client_in p k rack channel.client y;
}
