-- Steps of `hand_on`, `run_turns` and others: what private contracts alone cite, beside the definitions of `Receiving`.
use Rattle.std.specs.Prelude.{◌≡◌, ◌<◌, ℕ, List, [], ◌∷◌, ◌++◌, flat_map, get_or}
use Rattle.otn_base.specs.Counts.{saturated}
use Rattle.otn_base.specs.declared.limits.TheConstants.{CLIENTS}
use Rattle.port_base.specs.Sent.{IsSent}
use Rattle.port_base.specs.Views.{OutView, BaysView, client_out_at}
use Rattle.packet_text.specs.PacketText.{hex_text}
use Rattle.gfp_frames.specs.Reader.{ReaderState, HasRead}
use Rattle.gfp_linear.specs.ChannelArrivals.{ChannelArrival, channel_arrivals}
use Rattle.gfp_linear.specs.Laws.{packets_on}
use Rattle.odu_client.specs.AlignedRuns.{Arrival, arrivals, runs_of}
use Rattle.odu_client.specs.Aligner.{AlignerState, HasAligned}
use Rattle.unbundle_command.specs.Unbundled.{client_arrivals, packet_count, loss_count, other_count}
use Rattle.unbundle_command.specs.Receiving.{ChannelView, OutputsView}

abbrev pub no_channel : ChannelView
no_channel = record { text = []; packets = 0; losses = 0 }

-- Of the text of these packets the first part was due to a place, and the rest is held. Without packets the place is as
-- it was.
pub record LinesHeld (first now : OutView) (packets : List (List ℕ)) (text : List ℕ) : Type 0 where
  pub due : List ℕ
  pub sent : IsSent first due now
  pub parts : due ++ text ≡ hex_text packets
  pub quiet : packets ≡ [] → now ≡ first

-- what arrived on the channel of this CID is held for its place, and counted
pub record ChannelStands (first now : OutView) (cid : ℕ) (arrived : List ChannelArrival)
    (channel : ChannelView) : Type 0 where
  pub lines : LinesHeld first now (packets_on cid arrived) channel.text
  pub packets : channel.packets ≡ saturated (packet_count cid arrived)
  pub losses : channel.losses ≡ saturated (loss_count cid arrived)

-- the channel of a CID
abbrev pub channel_at : List ChannelView → (cid : ℕ) → ChannelView
channel_at channels cid = get_or channels cid no_channel

-- what arrived on them is held for their client outputs, and counted
pub record ChannelsStand (first now : BaysView) (arrived : List ChannelArrival)
    (channels : List ChannelView) : Type 0 where
  pub each : (cid : ℕ) → cid < CLIENTS → ChannelStands (client_out_at first cid) (client_out_at now cid) cid arrived
      (channel_at channels cid)

-- the first channels, so many, hold no line
pub record NoneHeld (count : ℕ) (channels : List ChannelView) : Type 0 where
  pub each : (cid : ℕ) → cid < count → (channel_at channels cid).text ≡ []

-- what arrived is held and counted
pub record OutputsStand (first now : BaysView) (arrived : List ChannelArrival) (outputs : OutputsView) : Type 0 where
  pub channels : ChannelsStand first now arrived outputs.channels
  pub other : outputs.other ≡ saturated (other_count arrived)

-- all places but the client outputs are as they were
pub record OnlyClientsOut (first now : BaysView) : Type 0 where
  pub line_in : now.line_in ≡ first.line_in
  pub line_out : now.line_out ≡ first.line_out
  pub client_in : now.client_in ≡ first.client_in

-- the last of some runs of payload bytes: the one that is still open
abbrev pub last_run : List (List ℕ) → List ℕ
last_run [] = []
last_run (run ∷ []) = run
last_run (run ∷ next ∷ runs) = last_run (next ∷ runs)

-- the reader has read these bytes of a run, behind which these arrivals came
pub record RunRead (first now : BaysView) (earlier : List ChannelArrival) (read : List ℕ) (reader : ReaderState)
    (outputs : OutputsView) : Type 0 where
  pub has_read : HasRead read reader
  pub held : OutputsStand first now (earlier ++ channel_arrivals read) outputs

-- all frames that came were read
pub record AllRead (first now : BaysView) (arrived : List Arrival) (reader : ReaderState)
    (outputs : OutputsView) : Type 0 where
  pub has_read : HasRead (last_run (runs_of arrived)) reader
  pub held : OutputsStand first now (flat_map channel_arrivals (runs_of arrived)) outputs

-- these bytes were taken by the aligner, and what they have was read
pub record HoldsAfter (first now : BaysView) (read : List ℕ) (aligner : AlignerState) (reader : ReaderState)
    (outputs : OutputsView) : Type 0 where
  pub aligned : HasAligned read aligner
  pub has_read : HasRead (last_run (runs_of (arrivals read))) reader
  pub held : OutputsStand first now (client_arrivals read) outputs
