-- API: the capture that is written of packets, and what it reads as.
use Rattle.std.specs.Prelude.{◌==◌, ◌%◌, not, ℕ, zero, suc, ◌+◌, ◌&&◌, ◌||◌, nat_le, Bool, true, false, if◌then◌else◌, List, [], ◌∷◌, ◌++◌, length, drop}
use Rattle.std.specs.Option.{unwrap_or}
use Rattle.std.specs.Int.{to_le_bytes, w32, is_in_range}
use Rattle.hex.specs.Hex.{decode_of}
use Rattle.packet_text.specs.PacketText.{is_nothing, decoded, packet_line}
use Rattle.pcap_packets.specs.CaptureText.{captured, packet_in, behind_record, bad_line}
use Rattle.pcap_packets.specs.declared.order.ByteOrder.TheVariants.{LowFirst}

-- the header that is written, low byte first: the magic of microseconds, versions 2 and 4, no time zone, packets of
-- 65,535 bytes at most, Ethernet
abbrev pub header_written : List ℕ
header_written = 0xd4 ∷ 0xc3 ∷ 0xb2 ∷ 0xa1 ∷ 2 ∷ 0 ∷ 4 ∷ 0 ∷ 0 ∷ 0 ∷ 0 ∷ 0 ∷ 0 ∷ 0 ∷ 0 ∷ 0 ∷ 0xff ∷ 0xff ∷ 0 ∷ 0 ∷ 1 ∷ 0
    ∷ 0 ∷ 0 ∷ []

-- the time that is written: none
abbrev pub time_written : List ℕ
time_written = 0 ∷ 0 ∷ 0 ∷ 0 ∷ 0 ∷ 0 ∷ 0 ∷ 0 ∷ []

-- a packet's record: its time, its length twice, and its bytes
unfoldable pub record_of : List ℕ → List ℕ
record_of packet = time_written ++ (to_le_bytes w32 (length packet) ++ (to_le_bytes w32 (length packet) ++ packet))

-- the records of packets
unfoldable pub records_of : List (List ℕ) → List ℕ
records_of [] = []
records_of (packet ∷ packets) = record_of packet ++ records_of packets

-- no packet
abbrev pub is_none : List (List ℕ) → Bool
is_none [] = true
is_none (packet ∷ packets) = false

-- what is written of packets: of none nothing
abbrev pub capture_of : List (List ℕ) → List ℕ
capture_of packets = (if is_none packets then [] else header_written) ++ records_of packets

-- a whole record at the front, of a packet of any length
unfoldable pub is_record : List ℕ → Bool
is_record bytes = nat_le 16 (length bytes) && nat_le (16 + captured LowFirst bytes) (length bytes)

-- the packets of the whole records from here on; at most so many are looked at
unfoldable pub record_packets : ℕ → List ℕ → List (List ℕ)
record_packets zero bytes = []
record_packets (suc n) bytes = if is_record bytes
    then packet_in LowFirst bytes ∷ record_packets n (behind_record LowFirst bytes) else []

-- the packets of the whole records of what was written
unfoldable pub packets_written : List ℕ → List (List ℕ)
packets_written bytes = record_packets (length (drop 24 bytes)) (drop 24 bytes)

-- a digit as it is written: 0 to 9 and a to f
abbrev pub is_lower_digit : ℕ → Bool
is_lower_digit byte = is_in_range 48 57 byte || is_in_range 97 102 byte

-- all are
unfoldable pub all_lower : List ℕ → Bool
all_lower [] = true
all_lower (byte ∷ bytes) = is_lower_digit byte && all_lower bytes

-- how many are in front
unfoldable pub digits_in_front : List ℕ → ℕ
digits_in_front [] = 0
digits_in_front (byte ∷ bytes) = if is_lower_digit byte then suc (digits_in_front bytes) else 0

-- whether a line has ended well that has these digits: some, of even count
abbrev pub is_line : List ℕ → Bool
is_line digits = not (is_nothing digits) && (length digits % 2 == 0)

-- the packet that digits say
unfoldable pub packet_of : List ℕ → List ℕ
packet_of digits = unwrap_or (decoded (decode_of digits)) []

-- the text that packets are read back as, of which one was written that is too long to be read: the text ends there;
-- else it ends so
unfoldable pub read_back : List (List ℕ) → List ℕ → List ℕ
read_back [] ending = ending
read_back (packet ∷ packets) ending = if nat_le (length packet) 65527
    then packet_line packet ++ read_back packets ending else bad_line
