-- Believed: what arrives on channels in a list of bytes.
use Rattle.std.specs.Prelude.{ℕ, ◌≤◌, ◌-◌, ◌==◌, nat_lt, nat_le, ◌&&◌, Bool, true, if◌then◌else◌, List, [], ◌∷◌, Option, Some, None, length, take, drop, flat_map, option_to_list, slice_index}
use Rattle.crc_small.specs.LongDivision.{crc16_of, crc32_of}
use Rattle.gfp_frames.specs.CoreHeader.{number_of_two}
use Rattle.gfp_frames.specs.Area.{pti, pfi, exi, upi, thec_is_right, last_four}
use Rattle.gfp_frames.specs.Delivered.{areas_in}
use Rattle.gfp_linear.specs.declared.arrival.Arrival.{Arrival}
use Rattle.gfp_linear.specs.declared.arrival.Arrival.TheVariants.{Packet, Loss}

-- a packet on the channel of this CID, or the loss of that channel's client
pub data ChannelArrival : Type 0 where
  PacketOn : (cid : ℕ) (packet : List ℕ) → ChannelArrival
  LossOn : (cid : ℕ) → ChannelArrival

-- ---- what a receiver looks at in an area

-- the eHEC, bytes 7 and 8, is the CRC-16 of bytes 5 and 6; the second of these is spare
abbrev pub ehec_is_right : List ℕ → Bool
ehec_is_right area = crc16_of (slice_index area 4 ∷ slice_index area 5 ∷ []) == number_of_two (slice_index area 6)
    (slice_index area 7)

-- an area of a linear frame: a type and an extension header, each with a right check; EXI 0001, UPI 01
abbrev pub is_linear : List ℕ → Bool
is_linear area = nat_le 8 (length area) && exi area == 1 && upi area == 1 && thec_is_right area && ehec_is_right area

-- the channel identifier CID, byte 5
abbrev pub cid_of : List ℕ → ℕ
cid_of area = slice_index area 4

-- how many bytes stand after the extension header, without the FCS where PFI is 1
abbrev pub payload_size : List ℕ → ℕ
payload_size area = length area - 8 - (if pfi area == 1 then 4 else 0)

-- these bytes: the packet
abbrev pub payload_of : List ℕ → List ℕ
payload_of area = take (payload_size area) (drop 8 area)

-- the FCS, where PFI says that there is one, is the CRC-32 of the packet
abbrev pub fcs_is_right : List ℕ → Bool
fcs_is_right area = if pfi area == 1 then crc32_of (payload_of area) == last_four area else true

-- client data (PTI 000) of at least one byte, with a right FCS
abbrev pub has_packet : List ℕ → Bool
has_packet area = pti area == 0 && nat_lt 0 (payload_size area) && fcs_is_right area

-- a client signal fail: PTI 100, no FCS, and nothing behind the extension header
abbrev pub has_loss : List ℕ → Bool
has_loss area = pti area == 4 && pfi area == 0 && length area == 8

-- what arrives with an area
unfoldable pub arrival_in : List ℕ → Option ChannelArrival
arrival_in area =
    if is_linear area then (if has_packet area then Some (PacketOn (cid_of area) (payload_of area))
    else if has_loss area then Some (LossOn (cid_of area)) else None) else None

-- what arrives with these areas
abbrev pub arrivals_in : List (List ℕ) → List ChannelArrival
arrivals_in areas = flat_map (λ area. option_to_list (arrival_in area)) areas

-- what arrives in a list of bytes, in order
unfoldable pub channel_arrivals : List ℕ → List ChannelArrival
channel_arrivals bytes = arrivals_in (areas_in bytes)

-- a packet that arrives has 1 to 65,527 bytes
abbrev pub IsSized : ChannelArrival → Type 0
IsSized (PacketOn cid packet) = (1 ≤ length packet) × (length packet ≤ 65527)
IsSized (LossOn cid) = Unit {0}

-- an arrival as it is lent
abbrev pub seen : Arrival → ChannelArrival
seen (Packet cid packet) = PacketOn cid packet.now
seen (Loss cid) = LossOn cid
