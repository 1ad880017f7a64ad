-- Believed: what is taken apart of a line: the channels of an ODU0 in its tributary slot 1. Given is all bytes of the
-- line; turns count from 0 here: turn t is the line's turn t + 1.
use Rattle.std.specs.Prelude.{ℕ, ◌==◌, nat_lt, nat_le, ◌||◌, Bool, false, if◌then◌else◌, List, [], ◌∷◌, ◌++◌, length, codes}
use Rattle.std.specs.Fmt.{decimal}
use Rattle.std.specs.List.{filter, flat_map, range_with_len}
use Rattle.otn_base.specs.declared.limits.TheConstants.{CLIENTS}
use Rattle.otn_base.specs.declared.line_kind.LineKind.TheVariants.{Otu2}
use Rattle.tributary_model.specs.Places.{Tributary, tributary_of}
use Rattle.odu_client.specs.AlignedRuns.{arrivals, runs_of}
use Rattle.gfp_linear.specs.ChannelArrivals.{ChannelArrival, PacketOn, LossOn, channel_arrivals}
use Rattle.gfp_linear.specs.Laws.{packets_on}
use Rattle.device_model.specs.LineViews.{emitted_at}
use Rattle.device_model.specs.Report.{line_of}

-- slot 1 of an OTU2, tributary port 1
abbrev pub first_slot : Tributary
first_slot = tributary_of (record { kind = Otu2; list = 1 ∷ [] }) 1

-- what its sink emits in the turns before turn t
abbrev pub emitted_before : (available : List ℕ) → (t : ℕ) → List ℕ
emitted_before available t = flat_map (emitted_at first_slot available) (range_with_len 0 t)

-- what arrives on channels in the bytes of an ODU0: each run of payload bytes between breaks is a stream of GFP frames
-- of its own
unfoldable pub client_arrivals : List ℕ → List ChannelArrival
client_arrivals bytes = flat_map channel_arrivals (runs_of (arrivals bytes))

-- what arrives on channels in the turns before turn t
abbrev pub arrived_before : (available : List ℕ) → (t : ℕ) → List ChannelArrival
arrived_before available t = client_arrivals (emitted_before available t)

-- ---- the numbers

-- whether an arrival is a loss of the channel of this CID
abbrev pub is_loss_on : (cid : ℕ) → ChannelArrival → Bool
is_loss_on cid (PacketOn other packet) = false
is_loss_on cid (LossOn other) = other == cid

-- whether it is of a channel without a client output
abbrev pub is_of_other : ChannelArrival → Bool
is_of_other (PacketOn cid packet) = nat_le CLIENTS cid
is_of_other (LossOn cid) = nat_le CLIENTS cid

-- how many packets and how many losses arrive on a channel, and how many arrivals are of channels without a client
-- output
abbrev pub packet_count : (cid : ℕ) → List ChannelArrival → ℕ
packet_count cid arrived = length (packets_on cid arrived)

abbrev pub loss_count : (cid : ℕ) → List ChannelArrival → ℕ
loss_count cid arrived = length (filter (is_loss_on cid) arrived)

abbrev pub other_count : List ChannelArrival → ℕ
other_count arrived = length (filter is_of_other arrived)

-- ---- the report

-- the line of a channel with so many packets and losses
unfoldable pub channel_text : (cid packets losses : ℕ) → List ℕ
channel_text cid packets losses = line_of
    (codes "channel " ∷ decimal cid ∷ codes " packets " ∷ decimal packets ∷ codes " losses " ∷ decimal losses ∷ [])

-- where something arrived on it
abbrev pub channel_line : (cid packets losses : ℕ) → List ℕ
channel_line cid packets losses = if nat_lt 0 packets || nat_lt 0 losses then channel_text cid packets losses else []

-- the lines of the first channels, so many
abbrev pub channel_lines : List ChannelArrival → (count : ℕ) → List ℕ
channel_lines arrived count = flat_map (λ cid. channel_line cid (packet_count cid arrived) (loss_count cid arrived))
    (range_with_len 0 count)

-- the line of the other channels
unfoldable pub other_text : (count : ℕ) → List ℕ
other_text count = line_of (codes "other " ∷ decimal count ∷ [])

-- the report on what arrived: a line for each channel with a client output on which something did, and how much arrived
-- on others
unfoldable pub report_text : List ChannelArrival → List ℕ
report_text arrived = channel_lines arrived CLIENTS ++ other_text (other_count arrived)
