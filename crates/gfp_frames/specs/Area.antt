-- Believed: the payload area of a client frame: type, tHEC, the packet, and its FCS where there is one.
use Rattle.std.specs.Prelude.{ℕ, ◌-◌, ◌/◌, ◌%◌, ◌^◌, ◌==◌, nat_lt, ◌&&◌, List, [], ◌∷◌, ◌++◌, Bool, true, if◌then◌else◌, Option, None, Some, length, take, drop, slice_index}
use Rattle.crc_small.specs.LongDivision.{crc16_of, crc32_of}
use Rattle.gfp_frames.specs.CoreHeader.{two_bytes, four_bytes, number_of_two, number_of_four}

-- G.7041 clause 6.1.2.1: PTI 000 (client data) in bits 1 to 3, PFI in bit 4, EXI 0000 (no extension header) in
-- bits 5 to 8 of the first byte; the UPI in the second, 01 being frame-mapped Ethernet.
abbrev pub type_bytes : (fcs : Bool) → List ℕ
type_bytes fcs = (if fcs then 0x10 else 0x00) ∷ 0x01 ∷ []

-- G.7041 clause 6.1.2.2.1: the frame check sequence is the CRC-32 of the packet, x^31 first.
abbrev pub fcs_bytes : (fcs : Bool) → List ℕ → List ℕ
fcs_bytes fcs packet = if fcs then four_bytes (crc32_of packet) else []

-- the plain area of a packet; the tHEC is the CRC-16 of the two type bytes
unfoldable pub client_area : (packet : List ℕ) (fcs : Bool) → List ℕ
client_area packet fcs = type_bytes fcs ++ two_bytes (crc16_of (type_bytes fcs)) ++ packet ++ fcs_bytes fcs packet

-- ---- what a receiver looks at in an area of at least four bytes

-- the payload type identifier PTI, bits 1 to 3 of the first byte
abbrev pub pti : List ℕ → ℕ
pti area = slice_index area 0 / 2 ^ 5

-- the payload FCS indicator PFI, bit 4 of the first byte
abbrev pub pfi : List ℕ → ℕ
pfi area = slice_index area 0 / 2 ^ 4 % 2

-- the extension header identifier EXI, bits 5 to 8 of the first byte
abbrev pub exi : List ℕ → ℕ
exi area = slice_index area 0 % 2 ^ 4

-- the user payload identifier UPI, the second byte
abbrev pub upi : List ℕ → ℕ
upi area = slice_index area 1

-- the tHEC, bytes 3 and 4, is the CRC-16 of bytes 1 and 2
abbrev pub thec_is_right : List ℕ → Bool
thec_is_right area = crc16_of (slice_index area 0 ∷ slice_index area 1 ∷ []) == number_of_two (slice_index area 2)
    (slice_index area 3)

-- client data without an extension header
abbrev pub is_client : List ℕ → Bool
is_client area = pti area == 0 && exi area == 0 && upi area == 1 && thec_is_right area

-- how many bytes stand after the tHEC, without the FCS where PFI is 1
abbrev pub packet_size : List ℕ → ℕ
packet_size area = length area - 4 - (if pfi area == 1 then 4 else 0)

-- these bytes: the packet
abbrev pub packet_of : List ℕ → List ℕ
packet_of area = take (packet_size area) (drop 4 area)

-- the number in the last four bytes of an area
abbrev pub last_four : List ℕ → ℕ
last_four area =
    number_of_four (slice_index area (length area - 4)) (slice_index area (length area - 3))
    (slice_index area (length area - 2)) (slice_index area (length area - 1))

-- the FCS, where PFI says that there is one, is the CRC-32 of the packet
abbrev pub fcs_is_right : List ℕ → Bool
fcs_is_right area = if pfi area == 1 then crc32_of (packet_of area) == last_four area else true

-- the packet that is delivered of an area, if all six checks hold: PTI, EXI, UPI, tHEC, at least one byte, FCS
unfoldable pub packet_in : List ℕ → Option (List ℕ)
packet_in area = if is_client area && nat_lt 0 (packet_size area) && fcs_is_right area then Some (packet_of area)
    else None
