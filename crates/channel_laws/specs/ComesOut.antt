-- API: what a line on which clients' packets go as channels brings out where its channels are taken apart.
use Rattle.std.specs.Prelude.{◌≡◌, ℕ, ◌+◌, ◌-◌, ◌*◌, ◌<◌, ◌≤◌, All, Bool, List, flat_map, length, get_or, slice_index}
use Rattle.std.specs.List.{concat}
use Rattle.otn_base.specs.declared.limits.TheConstants.{OTU2_SLOTS}
use Rattle.port_base.specs.PortViews.{SinkView}
use Rattle.port_base.specs.Sent.{IsSent}
use Rattle.port_base.specs.Views.{BaysView, OutView, client_out_at}
use Rattle.port_base.specs.declared.ended.Ended.{Ended}
use Rattle.packet_text.specs.PacketText.{hex_text}
use Rattle.gfp_linear.specs.ChannelFrames.{IsCidList}
use Rattle.gfp_linear.specs.Laws.{IsFront, arrivals_of, packets_on}
use Rattle.gfp_linear.specs.Weave.{AreCarried, ChannelText, no_text, packets_given, woven_within}
use Rattle.odu_client.specs.ClientInput.{input_given}
use Rattle.device_model.specs.LineAsked.{MayHave}
use Rattle.tributary_line.specs.TributaryFile.{IsTributaryFile}
use Rattle.tributary_line.specs.TurnsLeft.{OutputDue}
use Rattle.bundle_command.specs.ChannelInput.{channel_text}
use Rattle.bundle_command.specs.BundleStream.{channel_turns, first_slot, payload_whole, woven_in}
use Rattle.unbundle_command.specs.Unbundled.{arrived_before}
use Rattle.unbundle_command.specs.UnbundleLeft.{UnbundleRan}

-- The packets of channel c that come out in t turns of a line of so many: a sink has in a turn what the line took two
-- turns before, so these are the packets whose frames lie whole in the client frames that are whole in all but the
-- last two.
abbrev pub out_of : (cids : List ℕ) → List ChannelText → (turns t c : ℕ) → List (List ℕ)
out_of cids texts turns t c = packets_given c (woven_within cids (payload_whole (t - 2)) (woven_in texts turns))

-- Each channel's packets are such as it can carry, whatever its client had to give.
abbrev pub AreInputsCarried : Type 0
AreInputsCarried = (died : Bool) (available : List ℕ) → AreCarried (channel_text (input_given died available))

-- Of the file on which channels go, what arrives until turn t is, in order, the packets and losses of these frames.
-- The last such turn is that in which the file ends. Behind it the sink emits AIS.
abbrev pub ArrivesAsBundled : Type 0
ArrivesAsBundled = (b : ℕ) (cids : List ℕ) (texts : List ChannelText) (turns t : ℕ) (frames : List (List ℕ))
    → All AreCarried texts
    → IsTributaryFile b first_slot (channel_turns cids texts turns)
    (OTU2_SLOTS * turns) frames → 1 ≤ turns → t ≤ turns + 1
    → arrived_before (concat frames) t ≡ flat_map (arrivals_of cids)
    (woven_within cids (payload_whole (t - 2)) (woven_in texts turns))

-- What was due to the line output of `bundle` is what the line input of `unbundle` has: to the client output of each
-- channel's number the text of these packets is due.
abbrev pub ComesOut : Type 0
ComesOut = (cids : List ℕ) (texts : List ChannelText) (turns t : ℕ) (was is : OutView) (first last : BaysView)
    (report told : SinkView) (ended : Ended)
    → IsCidList cids → length texts ≡ length cids → All AreCarried texts
    → (due : OutputDue first_slot (channel_turns cids texts turns) turns was is)
    → (ran : UnbundleRan t first last report told ended) → MayHave ran.more ran.read (concat due.frames) → 1 ≤ turns
    → t ≤ turns + 1
    → (c : ℕ) → c < length cids → slice_index cids c < 16
    → IsSent (client_out_at first (slice_index cids c)) (hex_text (out_of cids texts turns t c))
    (client_out_at last (slice_index cids c))

-- They are the first of its packets.
abbrev pub FirstComeOut : Type 0
FirstComeOut = (cids : List ℕ) (texts : List ChannelText) (turns t c : ℕ)
    → IsFront (out_of cids texts turns t c) (get_or texts c no_text).packets
